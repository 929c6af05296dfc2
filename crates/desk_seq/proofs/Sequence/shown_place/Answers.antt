use Rattle.std.proofs.Common.{◌∙◌, ◌+◌, ◌<◌, sym, ap, arith, add-one, length}
use Rattle.std.proofs.lemmas.Bool.{not-true, not-false}
use Rattle.desk_seq.specs.declared.Entry.{Entry}
use Rattle.desk_seq.proofs.Entries.{shown-hit, shown-miss, shown-at}
use Rattle.desk_seq.proofs.Sequence.shown_place.Goals as goal
use Rattle.desk_seq.proofs.Sequence.shown_place.Goals.{then-not-entry+else-shown-i, else-not-entry}

pub returns-then-shown-i-clause-found : goal.returns-then-shown-i-clause-found
returns-then-shown-i-clause-found g c =
    let l : c.loop-at.at < length (g.Self.Sequence.entries c.args.self.now) = omega (arith, c.len-at-end.ensures.length) in
    shown-at (g.Self.Sequence.entries c.args.self.now) c.loop-at.at c.args.i c.entry.result l c.entry.ensures c.if-not-entry.true (c.loop-at.invariant.0 ∙ c.if-shown-i.true)

pub loop-at-preserved : goal.loop-at-preserved
loop-at-preserved g c =
    let es = g.Self.Sequence.entries c.args.self.now in
    let l : c.loop-at.at < length es = omega (arith, c.len-at-end.ensures.length) in
    let at = ap (λ (e : Entry). e.deleted) (sym c.entry.ensures) in
    elim c.if-not-entry.branch [
      | then-not-entry+else-shown-i w ↦ (rw add-one (shown-hit es c.loop-at.at c.entry.result l (at ∙ not-true _ w.if-not-entry.true) ∙ ap (λ n. n + 1) c.loop-at.invariant.0 ∙ sym w.shown-is), omega arith)
      | else-not-entry w ↦ (rw add-one (shown-miss es c.loop-at.at c.entry.result l (at ∙ not-false _ w.if-not-entry.false) ∙ c.loop-at.invariant.0 ∙ sym w.shown-is), omega arith)
    ]
