use Rattle.std.proofs.Common.{ℕ, List, ◌∙◌, subst, sym}
use Rattle.desk_ops.specs.Lists.{RiseFrom}
use Rattle.text_copy.proofs.Finding.{all_places}
use Rattle.view_punch.proofs.finding.found_behind.Goals as goal

pub put_places-requires : goal.put_places-requires
put_places-requires g c =
    subst (λ (l : List ℕ). RiseFrom 0 l) (sym (c.deref.ensures.value ∙ c.in_ok-places.ensures)) (all_places c.args.text.now c.args.copy.now).0
