-- The case or the wedge that is kept is the only one.
use Rattle.std.proofs.Common.{◌≡◌, ◌∙◌, ℕ, ◌+◌, ◌≤◌, List, [], ◌∷◌, ◌++◌, length, Option, Some, None, refl, sym, ap, ap₂, subst, arith, append-nil, length-append}
use Rattle.std.proofs.lemmas.Grind.{flat_map-append}
use Rattle.feed_check.specs.Metal.{AreSeen, IsMetal, case_in, cases_in, kept, line_of_pair, only, unfit_among, unfit_of, wedge_in, wedges_in}
use Rattle.feed_check.specs.declared.metal.Found.{Found}
use Rattle.feed_check.specs.declared.metal.Found.TheVariants as founds
use Rattle.feed_check.specs.declared.metal.Metal.{Metal}
use Rattle.feed_check.specs.declared.metal.Seen.{Seen}
use Rattle.feed_check.specs.declared.metal.Seen.TheVariants as seen

-- the one that is kept is the only one
pub kept_is : {T : Type 0} (s : Seen T) (found : List (List ℕ × T)) → AreSeen s found → kept s ≡ only found
kept_is seen.Nothing found is = rw is refl
kept_is (seen.One name value) found is = rw is refl
kept_is seen.Several [] many = absurd (omega (arith, many))
kept_is seen.Several (x ∷ []) many = absurd (omega (arith, many))
kept_is seen.Several (x ∷ y ∷ more) many = refl

pub unfit_is : (metal : Metal) (files : List (List ℕ × Found)) → IsMetal metal files → unfit_of metal ≡ unfit_among files
unfit_is metal files is = ap₂ line_of_pair (kept_is metal.cases (cases_in files) is.0) (kept_is metal.wedges (wedges_in files) is.1)
