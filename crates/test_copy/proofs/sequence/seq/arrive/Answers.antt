use Rattle.std.proofs.Common.{◌∙◌, sym, ap, not, inl, inr}
use Rattle.desk_ops.specs.Stamp.{head}
use Rattle.desk_ops.proofs.Stamps.{same-true}
use Rattle.desk_seq.specs.Entries.{stamps_of}
use Rattle.desk_seq.proofs.Entries.{found-contains}
use Rattle.test_copy.proofs.sequence.seq.arrive.Goals as goal
use Rattle.test_copy.proofs.sequence.seq.arrive.Goals.{else-not-is_same-via-then-not-is_same+else-is_none, else-not-is_same-via-else-not-is_same}

pub integrate-requires-clause-parent : goal.integrate-requires-clause-parent
integrate-requires-clause-parent g c = elim c.else-not-is_same.branch [
  | else-not-is_same-via-then-not-is_same+else-is_none w ↦ inr (found-contains (stamps_of (g.Q.Sequence.entries c.reserve.new.self)) c.args.parent w.find-then-not-is_same.result (w.is_none.ensures ∙ ap not w.if-is_none.false) w.find-then-not-is_same.ensures.found)
  | else-not-is_same-via-else-not-is_same w ↦ inl (sym (same-true head c.args.parent (sym c.is_same.ensures ∙ w.if-not-is_same.false)))
]
