use Rattle.std.proofs.Common.{arith, inl, inr}
use Rattle.std.proofs.lemmas.Grind.{common_steps}
use Rattle.toml.specs.View.{table_view}
use Rattle.desk_wedge.proofs.Documents.{document_is, no_document}
use Rattle.feed_check.proofs.room.room_of.Goals as goal

pub room_in-requires-clause-table : goal.room_in-requires-clause-table
room_in-requires-clause-table c =
    document_is c.args.bytes.now (table_view c.in-Ok.table) c.in-Ok.ensures.ok.0 c.in-Ok.ensures.ok.1

pub returns-in_ok-no_toml-in-Some : goal.returns-in_ok-no_toml-in-Some
returns-in_ok-no_toml-in-Some c =
    let none = no_document c.args.bytes.now (c.in-Err.ensures.refused (λ m. let no = c.in-Some.ensures.none.1 m in cc)) in
    let order = c.in-Err.ensures.span.0 in
    let within = c.in-Err.ensures.span.1 in
    let is = c.in-Some.ensures.range.0 in
    inr (omega (arith, c.if-bytes-gt-MAX_ROOM.false), inl (c.in-Some.span.start, (none, omega (arith, order, within, is)), grind (arith, common_steps)))
