use Rattle.toml.specs.View.{table_view}
use Rattle.desk_wedge.proofs.Documents.{document_is, no_document, blank_is_empty}
use Rattle.desk_wedge.proofs.keys.table.Goals as goal

pub returns-in-Ok-clause-ok : goal.returns-in-Ok-clause-ok
returns-in-Ok-clause-ok c = document_is c.args.bytes.now (table_view c.in-Ok.table) c.in-Ok.ensures.ok.0 c.in-Ok.ensures.ok.1

pub returns-in-Ok-clause-blank : goal.returns-in-Ok-clause-blank
returns-in-Ok-clause-blank c = blank_is_empty c.args.bytes.now (table_view c.in-Ok.table) c.in-Ok.ensures.ok.1

pub returns-else-is_memory-clause-not_toml : goal.returns-else-is_memory-clause-not_toml
returns-else-is_memory-clause-not_toml c _ =
    no_document c.args.bytes.now (c.in-Err.ensures.refused (λ m. let t = c.is_memory.ensures.1 m in cc))
