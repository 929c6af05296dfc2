-- Entries in their order: their stamps, and what is asked of them.
use Rattle.std.specs.Prelude.{◌≡◌, ℕ, ◌<◌, ◌≤◌, ◌+◌, Bool, true, false, not, cond, List, [], ◌∷◌, length, map}
use Rattle.std.specs.Prelude.{slice_index_or, take, refl, zero, suc}
use Rattle.std.specs.List.{AllByRecursion, filter}
use Rattle.std.specs.Coded.{Coded, code_by, coded×, coded_ℕ, coded_list}
use Rattle.desk_ops.specs.declared.op.Stamp.{Stamp}
use Rattle.desk_ops.specs.declared.op.Symbol.{Symbol}
use Rattle.desk_ops.specs.Op.{Insertion}
use Rattle.desk_ops.specs.Stamp.{same, before, head}
use Rattle.desk_ops.specs.Walk.{walk_from}
use Rattle.desk_ops.specs.Scan.{with_insert, IsAscending, IsNext}
use Rattle.desk_seq.specs.declared.Entry.{Entry}

abbrev pub stamps_of : List Entry → List Stamp
stamps_of es = map (λ (e : Entry). e.stamp) es

-- no entry bears the stamp
abbrev pub IsAbsent : Stamp → List Entry → Type 0
IsAbsent s es = AllByRecursion (λ (e : Entry). same e.stamp s ≡ false) es

-- no two entries have one stamp
abbrev pub AreDistinct : List Entry → Type 0
AreDistinct [] = Unit {0}
AreDistinct (e ∷ es) = IsAbsent e.stamp es × AreDistinct es

-- the first place whose stamp is s
pub record IsFoundAt (ts : List Stamp) (s : Stamp) (i : ℕ) : Type 0 where
  pub within : i < length ts
  pub is : slice_index_or ts i head ≡ s
  pub first : (j : ℕ) → j < i → same (slice_index_or ts j head) s ≡ false

-- the first place from there on whose stamp is smaller, or the end
pub record IsFirstBelow (ts : List Stamp) (from : ℕ) (s : Stamp) (place : ℕ) : Type 0 where
  pub after : from ≤ place
  pub within : place ≤ length ts
  pub skipped : (k : ℕ) → from ≤ k → k < place → before (slice_index_or ts k head) s ≡ false
  pub stops : place < length ts → before (slice_index_or ts place head) s ≡ true

-- with its mark
abbrev pub marked : Entry → Entry
marked e = record { stamp = e.stamp; symbol = e.symbol; deleted = true }

-- with the mark at i
abbrev pub with_mark : List Entry → ℕ → List Entry
with_mark [] i = []
with_mark (e ∷ es) zero = marked e ∷ es
with_mark (e ∷ es) (suc i) = e ∷ with_mark es i

abbrev pub shown_in : List Entry → ℕ
shown_in [] = 0
shown_in (e ∷ es) = cond e.deleted (shown_in es) (shown_in es + 1)

abbrev pub is_shown : Entry → Bool
is_shown e = not e.deleted

-- the symbols of the entries that are not deleted
abbrev pub shown_symbols : List Entry → List Symbol
shown_symbols es = map (λ (e : Entry). e.symbol) (filter is_shown es)

-- the place of the i-th entry that is shown
pub record IsShownAt (es : List Entry) (i place : ℕ) : Type 0 where
  pub within : place < length es
  pub shown : (d : Entry) → (slice_index_or es place d).deleted ≡ false
  pub before_it : shown_in (take place es) ≡ i

-- where the entries' stamps are those of the walk of some inserts, of which none bears the new one's stamp or hangs on
-- it, and its parent is older, they become those of the walk with one more
abbrev pub KeepsWalk : List Entry → List Entry → Stamp → Stamp → Type 0
KeepsWalk old new parent stamp = (xs : List Insertion) (x : Insertion) → IsAscending xs
    → AllByRecursion (λ y. same y.stamp head ≡ false) xs → IsNext x xs → x.stamp ≡ stamp → x.parent ≡ parent
    → stamps_of old ≡ map (λ (y : Insertion). y.stamp) (walk_from xs head)
    → stamps_of new ≡ map (λ (y : Insertion). y.stamp) (walk_from (with_insert x xs) head)

-- what a list that has spare places is seen as
pub record Listing : Type 0 where
  pub entries : List Entry
  pub spare : ℕ

abbrev pub listing_code : Coded Entry → Coded Listing
listing_code entry =
    code_by (List Entry × ℕ) (coded× (coded_list entry) coded_ℕ) (λ l. (l.entries, l.spare))
    (λ p. record { entries = p.0; spare = p.1 }) (λ _. refl)
