use Rattle.std.proofs.Common.{◌∙◌, ◌+◌, ◌<◌, sym, ap, arith, length, add-one}
use Rattle.desk_seq.specs.declared.Entry.{Entry}
use Rattle.desk_seq.proofs.Entries.{shown-hit, shown-miss}
use Rattle.desk_seq.proofs.Sequence.shown_len.Goals as goal

pub loop-at-preserved-then-entry : goal.loop-at-preserved-then-entry
loop-at-preserved-then-entry g c =
    let es = g.Self.Sequence.entries c.args.self.now in
    let l : c.loop-at.at < length es = omega (arith, c.len-at-end.ensures.length) in
    let at = ap (λ (e : Entry). e.deleted) (sym c.entry.ensures) in
    (rw add-one (shown-miss es c.loop-at.at c.entry.result l (at ∙ c.if-entry.true) ∙ c.loop-at.invariant.0), omega (arith, c.loop-at.invariant.1))

pub loop-at-preserved : goal.loop-at-preserved
loop-at-preserved g c =
    let es = g.Self.Sequence.entries c.args.self.now in
    let l : c.loop-at.at < length es = omega (arith, c.len-at-end.ensures.length) in
    let at = ap (λ (e : Entry). e.deleted) (sym c.entry.ensures) in
    (rw add-one (shown-hit es c.loop-at.at c.entry.result l (at ∙ c.if-entry.false) ∙ ap (λ n. n + 1) c.loop-at.invariant.0), omega (arith, c.loop-at.invariant.1))
