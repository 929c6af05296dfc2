use Rattle.std.proofs.Common.{arith, ℕ, subst, sym}
use Rattle.std.specs.Prelude.{IfOk, MatchOption, Option, Result}
use Rattle.toml.specs.View.{table_view}
use Rattle.desk_memory.specs.declared.NoMemory.{NoMemory}
use Rattle.desk_wedge.proofs.Documents.{document_is, no_document}
use Rattle.feed_check.specs.Strange.{IsDocument, IsNone}
use Rattle.feed_check.proofs.strange.fault_place.Goals.{in-Ok, in-Err+in-Some, in-Err+in-None}
use Rattle.feed_check.proofs.strange.fault_place.Goals as goal

pub returns : goal.returns
returns c =
    let bytes = c.args.bytes.now in
    let Holds = λ (r : Result (Option ℕ) NoMemory). IfOk r (λ o. MatchOption o (IsDocument bytes) (IsNone bytes)) in
    elim c.match-table_from_slice.branch [
      | in-Ok w ↦
          let ok = w.in-Ok.ensures.ok in
          subst Holds (sym w.result-is) (table_view w.in-Ok.field-0, document_is bytes (table_view w.in-Ok.field-0) ok.0 ok.1)
      | in-Err+in-Some w ↦
          let none = no_document bytes (w.in-Err.ensures.refused (λ m. let no = w.in-Some.ensures.none.1 m in cc)) in
          let order = w.in-Err.ensures.span.0 in
          let within = w.in-Err.ensures.span.1 in
          let is = w.in-Some.ensures.range.0 in
          subst Holds (sym w.result-is) (none, omega (arith, order, within, is))
      | in-Err+in-None w ↦ subst Holds (sym w.result-is) tt
    ]
