use Rattle.std.proofs.Common.{◌≡◌, ◌∙◌, inl, inr}
use Rattle.program_desk.proofs.Previewing.{by_status}
use Rattle.program_desk.proofs.depicting.depicted.Goals as goal

pub returns-clause-there : goal.returns-clause-there
returns-clause-there g c zero =
    let both = c.worse-status.ensures.both zero in
    let one = c.pictured-one.ensures.there both.0 in
    let other = c.documented-other.ensures.there both.1 in
    (((g.F.Files.shelf c.pictured-one.new.files), one.0, other.0), (other.1.0 ∙ one.1.0, other.1.1 ∙ one.1.1))

pub returns-clause-absent : goal.returns-clause-absent
returns-clause-absent g c one = elim (by_status (c.pictured-one.result.status ≡ 0) (c.pictured-one.result.status ≡ 1) c.pictured-one.result.status c.pictured-one.ensures.within (λ zero. zero) (λ one. one)) [
  | inl zero ↦ let there = c.pictured-one.ensures.there zero in
      ((g.F.Files.shelf c.pictured-one.new.files), c.pictured-one.result.told.is_whole, (g.E.Write.contents c.pictured-one.new.faults), inr (there.0, there.1, c.documented-other.ensures.absent (c.worse-status.ensures.second one zero)))
  | inr first ↦
      ((g.F.Files.shelf c.pictured-one.new.files), c.pictured-one.result.told.is_whole, (g.E.Write.contents c.pictured-one.new.faults), inl (c.pictured-one.ensures.absent first, by_status _ _ c.documented-other.result.status c.documented-other.ensures.within (λ zero. c.documented-other.ensures.there zero) (λ one. c.documented-other.ensures.absent one)))
]
