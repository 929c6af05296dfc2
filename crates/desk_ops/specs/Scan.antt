-- Where one more insert is put into a walk, by a look at the stamps alone.
use Rattle.std.specs.Prelude.{◌≡◌, true, false, List, [], ◌∷◌}
use Rattle.std.specs.List.{AllByRecursion}
use Rattle.desk_ops.specs.declared.op.Stamp.{Stamp}
use Rattle.desk_ops.specs.Stamp.{same, before, head}
use Rattle.desk_ops.specs.Op.{Insertion}

-- e before the first element with a smaller stamp
unfoldable pub skip : Insertion → List Insertion → List Insertion
skip e [] = e ∷ []
skip e (y ∷ ys) = elim (before y.stamp e.stamp) [ true ↦ e ∷ y ∷ ys | false ↦ y ∷ skip e ys ]

-- e so placed in what follows its parent; a list without its parent stays
unfoldable pub after_parent : Insertion → List Insertion → List Insertion
after_parent e [] = []
after_parent e (y ∷ ys) = elim (same y.stamp e.parent) [ true ↦ y ∷ skip e ys | false ↦ y ∷ after_parent e ys ]

-- the same in a list that follows s
unfoldable pub place_from : Stamp → Insertion → List Insertion → List Insertion
place_from s e w = elim (same s e.parent) [ true ↦ skip e w | false ↦ after_parent e w ]

abbrev pub scan_insert : Insertion → List Insertion → List Insertion
scan_insert e w = place_from head e w

-- e in its place in an ascending list
unfoldable pub with_insert : Insertion → List Insertion → List Insertion
with_insert e [] = e ∷ []
with_insert e (x ∷ later) = elim (before x.stamp e.stamp) [ true ↦ x ∷ with_insert e later | false ↦ e ∷ x ∷ later ]

-- each stamp is greater than those before it
abbrev pub IsAscending : List Insertion → Type 0
IsAscending [] = Unit {0}
IsAscending (x ∷ later) = AllByRecursion (λ y. before x.stamp y.stamp ≡ true) later × IsAscending later

-- what the scan takes as given: nothing bears e's stamp or hangs on it, and its parent is older
pub record IsNext (e : Insertion) (xs : List Insertion) : Type 0 where
  pub parent_older : before e.parent e.stamp ≡ true
  pub fresh : AllByRecursion (λ x. same x.stamp e.stamp ≡ false) xs
  pub childless : AllByRecursion (λ x. same x.parent e.stamp ≡ false) xs
