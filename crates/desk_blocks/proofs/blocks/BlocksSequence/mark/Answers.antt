use Rattle.std.proofs.Common.{◌≡◌, ◌<◌, ◌∙◌, ap, sym, subst, List, length, set, arith}
use Rattle.desk_ops.specs.declared.op.Stamp.{Stamp}
use Rattle.desk_seq.specs.declared.Entry.{Entry}
use Rattle.desk_seq.specs.Entries.{Listing, stamps_of, marked, with_mark, AreDistinct}
use Rattle.desk_seq.proofs.Entries.{distinct-mark, set-mark, stamps-mark}
use Rattle.desk_blocks.specs.Rank.{Knows}
use Rattle.desk_blocks.proofs.Tallies.{shown-mark}
use Rattle.desk_blocks.proofs.blocks.BlocksSequence.mark.Goals as goal

pub returns-clause-marked : goal.returns-clause-marked
returns-clause-marked g c =
    let es = c.self.inside.pages.entries in
    let e : Entry = c.entry-slot.result in
    rw (← c.self.view_is) (c.set.ensures.set ∙ ap (λ (x : Entry). set es c.args.i x) (c.marked.ensures ∙ ap (λ (x : Entry). marked x) c.entry-slot.ensures) ∙ set-mark es c.args.i e)

pub invariant_of-self : goal.invariant_of-self
invariant_of-self g c =
    let es = c.self.inside.pages.entries in
    let e : Entry = c.entry-slot.result in
    let is : c.set.new.self.entries ≡ with_mark es c.args.i = c.set.ensures.set ∙ ap (λ (x : Entry). set es c.args.i x) (c.marked.ensures ∙ ap (λ (x : Entry). marked x) c.entry-slot.ensures) ∙ set-mark es c.args.i e in
    let put : c.set.new.self.entries ≡ set es c.args.i (marked e) = c.set.ensures.set ∙ ap (λ (x : Entry). set es c.args.i x) c.marked.ensures in
    let within : c.args.i < length es = subst (λ (v : Listing). c.args.i < length v.entries) (sym c.self.view_is) c.requires in
    let n = shown-mark es c.args.i e within c.entry-slot.ensures in (
      subst AreDistinct (sym is) (distinct-mark es c.args.i c.self.invariant.0),
      subst (λ (ts : List Stamp). Knows c.self.inside.index.stamps ts) (sym (ap stamps_of is ∙ stamps-mark es c.args.i)) c.self.invariant.1,
      rw (c.is_deleted.ensures, put) (omega (arith, c.self.invariant.2, n)),
    )
