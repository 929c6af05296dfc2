use Rattle.std.proofs.Common.{◌∙◌, [], inl, inr, refl, subst, sym}
use Rattle.std.specs.declared.alloc.Global.{Global}
use Rattle.feed_edit.specs.declared.fault.MergeFault.{MergeFault}
use Rattle.program_desk.specs.ByHand.{IsForkLine}
use Rattle.program_desk.proofs.Merged.{no_forks}
use Rattle.program_desk.proofs.Telling.{stays}
use Rattle.program_desk.proofs.by_hand.explain_forks.Goals as goal

pub returns-in_default : goal.returns-in_default
returns-in_default g c = ([], no_forks c.args.others.now c.args.fault.now (λ at stamps is. c.in_default.not-Forks at stamps is), stays c.args.told.is_whole (g.E.Write.contents c.args.faults.now))

pub returns-in_default-name_at : goal.returns-in_default-name_at
returns-in_default-name_at g c = ([], subst (λ (fault : MergeFault Global). IsForkLine c.args.others.now fault []) (sym c.in-Forks.is) (inl refl), stays c.args.told.is_whole (g.E.Write.contents c.args.faults.now))

pub returns : goal.returns
returns g c = elim c.tell_forks.ensures.1 [
  | inl none ↦ (c.tell_forks.ensures.0, subst (λ (fault : MergeFault Global). IsForkLine c.args.others.now fault c.tell_forks.ensures.0) (sym c.in-Forks.is) (inl none), c.tell_forks.ensures.2)
  | inr same ↦ (c.tell_forks.ensures.0, subst (λ (fault : MergeFault Global). IsForkLine c.args.others.now fault c.tell_forks.ensures.0) (sym c.in-Forks.is) (inr (c.in-Some.name, sym c.name_at.ensures ∙ c.in-Some.is, same)), c.tell_forks.ensures.2)
]
