-- The laws of the definitions.
use Rattle.std.specs.Prelude.{◌≡◌, ◌↔◌, ℕ, ◌+◌, length, slice_index_or, ◌<◌, ◌≤◌, ◌⊎◌, true, false, not, ◌||◌, Ok, Some}
use Rattle.std.specs.Prelude.{List, [], ◌∷◌, map}
use Rattle.std.specs.List.{AllByRecursion, filter, insert, remove}
use Rattle.std.specs.Ordering.{nat_cmp, ordering_then}
use Rattle.std.specs.Cmp.{IsTotalOrder}
use Rattle.std.specs.Cmp.Lexicographic.{slice_cmp}
use Rattle.std.specs.declared.cmp.Ordering.TheVariants.{Equal}
use Rattle.desk_ops.specs.declared.op.Op.{Op}
use Rattle.desk_ops.specs.declared.op.Stamp.{Stamp}
use Rattle.desk_ops.specs.declared.op.Symbol.{Symbol}
use Rattle.desk_ops.specs.declared.op.Key.{Key}
use Rattle.desk_ops.specs.declared.op.Op.TheVariants.{Insert, Delete, Set}
use Rattle.desk_ops.specs.declared.fault.CopyFault.{CopyFault}
use Rattle.desk_ops.specs.contracts.op.StampOrd.TheImpl as stamp_ord
use Rattle.desk_ops.specs.contracts.op.StampPartialEq.TheImpl as stamp_eq
use Rattle.desk_ops.specs.Stamp.{stamp_cmp, same, before, head, is_head, is_stamp, IsStamp}
use Rattle.desk_ops.specs.Op.{stamp_of, IsLawful, IsSymbol, IsValue, is_symbol, is_value, verdict, Insertion, insertion}
use Rattle.desk_ops.specs.Order.{op_cmp, rest_of}
use Rattle.desk_ops.specs.OpSet.{OpSet, has_op, with_op, in_order, union, IsWithin, AllLawful}
use Rattle.desk_ops.specs.Lists.{Among, Precedes}
use Rattle.desk_ops.specs.Held.{is_borne, is_borne_in, is_clear_in, is_forked_in, clear_op_in, greatest_counter_of}
use Rattle.desk_ops.specs.Held.{live_inserts, live_inserts_of, clear_inserts, IsUnforked}
use Rattle.desk_ops.specs.Live.{insert_of, IsClearOp, IsLiveOp}
use Rattle.desk_ops.specs.Walk.{walk_from, walk, walk_of}
use Rattle.desk_ops.specs.Kids.{IsWalkOfKids}
use Rattle.desk_ops.specs.PathOrder.{path, path_cmp, InPathOrder}
use Rattle.desk_ops.specs.Shown.{shown, shown_of, is_deleted_in}
use Rattle.desk_ops.specs.Settings.{setting_of, IsSetting}
use Rattle.desk_ops.specs.Faults.{faults_of, HasFault, IsByStamp}
use Rattle.desk_ops.specs.Scan.{scan_insert, with_insert, IsAscending, IsNext}
use Rattle.desk_ops.specs.Place.{IsPlace}
use Rattle.desk_ops.specs.Drain.{IsThere, IsTakenIn, IsDrained}

-- an operation is lawful exactly where the list of causes finds none, and each test says what it is named for
pub record LawfulByTests : Type 0 where
  pub op : (op : Op) → (verdict op ≡ Ok tt) ↔ IsLawful op
  pub stamp : (s : Stamp) → (is_stamp s ≡ true) ↔ IsStamp s
  pub head : (s : Stamp) → (is_head s ≡ true) ↔ (s ≡ head)
  pub symbol : (y : Symbol) → (is_symbol y ≡ true) ↔ IsSymbol y
  pub value : (key : Key) (n : ℕ) → (is_value key n ≡ true) ↔ IsValue key n

-- operations stand by stamp, and those of one stamp by kind and fields; the stamps by counter, and then by site
pub record OrderGoesByStamp : Type 0 where
  pub ops : (o p : Op) → op_cmp o p
      ≡ ordering_then (stamp_cmp (stamp_of o) (stamp_of p)) (slice_cmp nat_cmp (rest_of o) (rest_of p))
  pub total : IsTotalOrder op_cmp
  pub tied : (o p : Op) → op_cmp o p ≡ Equal → o ≡ p
  pub stamps : (s t : Stamp) → (before s t ≡ true)
      ↔ ((s.counter < t.counter) ⊎ ((s.counter ≡ t.counter) × (s.site < t.site)))
  pub one : (s t : Stamp) → (same s t ≡ true) ↔ (s ≡ t)
  -- what Rust's comparisons of stamps answer
  pub compared : (s t : Stamp) → (stamp_ord.ghosts).cmp s t ≡ stamp_cmp s t
  pub equal : (s t : Stamp) → (stamp_eq.ghosts).eq s t ≡ same s t

-- what a set says of a stamp
pub record HeldByMembers : Type 0 where
  pub borne : (h : OpSet) (s : Stamp) → (is_borne_in h s ≡ true) ↔ ((o : Op) × (has_op h o ≡ true) × (stamp_of o ≡ s))
  pub clear : (h : OpSet) (s : Stamp)
      → (is_clear_in h s ≡ true) ↔ ((o : Op) × (has_op h o ≡ true) × (stamp_of o ≡ s)
      × ((p : Op) → has_op h p ≡ true → stamp_of p ≡ s → p ≡ o))
  pub forked : (h : OpSet) (s : Stamp)
      → (is_forked_in h s ≡ true) ↔ ((o : Op) × (p : Op) × (has_op h o ≡ true) × (has_op h p ≡ true) × (stamp_of o ≡ s)
      × (stamp_of p ≡ s) × (o ≡ p → ⊥))
  pub clear_op : (h : OpSet) (s : Stamp) (o : Op) → (clear_op_in h s ≡ Some o) ↔ ((stamp_of o ≡ s) × IsClearOp h o)
  pub within : (h : OpSet) (o : Op) → has_op h o ≡ true → (stamp_of o).counter ≤ greatest_counter_of h
  pub reached : (h : OpSet) → (greatest_counter_of h ≡ 0)
      ⊎ ((o : Op) × (has_op h o ≡ true) × ((stamp_of o).counter ≡ greatest_counter_of h))

-- an insert is live exactly if it is clear and its parent is the head or a live insert
abbrev pub LiveByParents : Type 0
LiveByParents = (h : OpSet) → AllLawful h → (x : Insertion) → Among x (live_inserts_of h) ↔ IsLiveOp h (insert_of x)

-- no two have one stamp
abbrev pub AreApart : List Insertion → Type 0
AreApart [] = Unit {0}
AreApart (x ∷ xs) = AllByRecursion (λ y. same y.stamp x.stamp ≡ false) xs × AreApart xs

-- the walk holds each live insert, nothing else, and none twice
pub record WalkHoldsTheLive : Type 0 where
  pub each : (h : OpSet) → AllLawful h → (x : Insertion) → Among x (walk_of h) ↔ Among x (live_inserts_of h)
  pub once : (h : OpSet) → AllLawful h → AreApart (walk_of h)

abbrev pub WalkGoesByKids : Type 0
WalkGoesByKids = (h : OpSet) → AllLawful h → IsWalkOfKids (in_order h)

-- what is shown is the walk, without the elements that a live delete targets
pub record ShownIsWhatIsLeft : Type 0 where
  pub left : (h : OpSet) → shown_of h ≡ filter (λ x. not (is_deleted_in h x.stamp)) (walk_of h)
  pub deleted : (h : OpSet) → AllLawful h → (x : Insertion) → Among x (walk_of h)
      → (is_deleted_in h x.stamp ≡ true) ↔ ((s : Stamp) × IsLiveOp h (Delete s x.stamp))
  pub clear_is_live : (h : OpSet) → AllLawful h → (x : Insertion) → Among x (walk_of h) → (s : Stamp)
      → IsClearOp h (Delete s x.stamp) ↔ IsLiveOp h (Delete s x.stamp)

abbrev pub SettingsByStamp : Type 0
SettingsByStamp = (h : OpSet) (key : Key) → IsSetting h key (setting_of h key)

-- the faults are those of the stamps that have one, one per stamp, in stamp order
pub record FaultsByEnds : Type 0 where
  pub each : (h : OpSet) → AllLawful h → (f : CopyFault) → Among f (faults_of h) ↔ HasFault h f.stamp f.kind
  pub in_order : (h : OpSet) → IsByStamp (faults_of h)

-- elements that are shown before and after stand in one order, forks and all
abbrev pub OrderIsKept : Type 0
OrderIsKept = (h g : OpSet) → AllLawful h → AllLawful g → IsWithin h g → (x y : Insertion)
    → Precedes x y (shown (in_order h)) → Among x (shown (in_order g)) → Among y (shown (in_order g))
    → Precedes x y (shown (in_order g))

-- where no stamp of the larger set is forked, its path order is total, sets its live inserts apart, and what the
-- smaller shows stands in it
pub record IsOneOrder (h g : OpSet) : Type 0 where
  pub total : IsTotalOrder path_cmp
  pub apart : (x y : Insertion) → Among x (live_inserts (in_order g)) → Among y (live_inserts (in_order g))
      → path_cmp (path (in_order g) x.stamp) (path (in_order g) y.stamp) ≡ Equal → x ≡ y
  pub holds : InPathOrder (path (in_order g)) (shown (in_order h))

abbrev pub OneOrder : Type 0
OneOrder = (h g : OpSet) → AllLawful h → AllLawful g → IsUnforked g → IsWithin h g → IsOneOrder h g

-- an insert whose stamp is new, and for which no clear insert waits
abbrev pub ScanGivesWalk : Type 0
ScanGivesWalk = (h : OpSet) (o : Op) (x : Insertion) → AllLawful h → IsLawful o → insertion o ≡ Some x
    → is_borne (in_order h) x.stamp ≡ false
    → AllByRecursion (λ y. same y.parent x.stamp ≡ false) (clear_inserts (in_order h))
    → walk (in_order (with_op h o)) ≡ scan_insert x (walk (in_order h))

-- of inserts in ascending order, with one more whose stamp is new, on which none hangs, and whose parent is older:
-- put at the place that the walk's stamps say, it gives the walk with it
abbrev pub PlaceGivesWalk : Type 0
PlaceGivesWalk = (xs : List Insertion) (e : Insertion) (i : ℕ) → IsAscending xs
    → AllByRecursion (λ x. same x.stamp head ≡ false) xs → IsNext e xs
    → IsPlace (map (λ x. x.stamp) (walk_from xs head)) e.parent e.stamp i
    → walk_from (with_insert e xs) head ≡ insert (walk_from xs head) i e

-- an insert that is taken in by the scan, and the end of a drain: then the walk is the set's
pub record DrainGivesWalk : Type 0 where
  pub step : (h : OpSet) → AllLawful h → (xs : List Insertion) → IsTakenIn h xs → (e : Insertion)
      → Among e (clear_inserts (in_order h)) → AllByRecursion (λ x. same x.stamp e.stamp ≡ false) xs
      → IsThere xs e.parent
      → IsTakenIn h (with_insert e xs) × (walk_from (with_insert e xs) head ≡ scan_insert e (walk_from xs head))
  pub done : (h : OpSet) → AllLawful h → (xs : List Insertion) → IsDrained h xs → walk_from xs head ≡ walk (in_order h)

-- where a new element goes: at the front for the head, else right after the element shown before it
abbrev pub IsParentAt : OpSet → ℕ → Stamp → Type 0
IsParentAt h i p =
    ((i ≡ 0) × (p ≡ head))
    ⊎ ((j : ℕ) × (i ≡ j + 1) × (j < length (shown_of h))
    × (slice_index_or (map (λ x. x.stamp) (shown_of h)) j head ≡ p))

-- an operation with a greater counter than all that are held: an insert is shown at its place, a delete takes its
-- target out of what is shown, and a set is the setting of its key; nothing else of what is shown or set changes
pub record NewestActs : Type 0 where
  pub inserted : (h : OpSet) → AllLawful h → (s p : Stamp) (y : Symbol) → greatest_counter_of h < s.counter
      → IsLawful (Insert s p y) → (i : ℕ) → IsParentAt h i p
      → shown_of (with_op h (Insert s p y)) ≡ insert (shown_of h) i (record { stamp = s; parent = p; symbol = y })
  pub taken_out : (h : OpSet) → AllLawful h → (s t : Stamp) → greatest_counter_of h < s.counter → (i : ℕ)
      → i < length (shown_of h) → slice_index_or (map (λ x. x.stamp) (shown_of h)) i head ≡ t
      → shown_of (with_op h (Delete s t)) ≡ remove (shown_of h) i
  pub shown_stays : (h : OpSet) → AllLawful h → (s : Stamp) (key : Key) (v : ℕ) → greatest_counter_of h < s.counter
      → shown_of (with_op h (Set s key v)) ≡ shown_of h
  pub new_value : (h : OpSet) → AllLawful h → (s : Stamp) (key : Key) (v : ℕ) → greatest_counter_of h < s.counter
      → setting_of (with_op h (Set s key v)) key ≡ Some v
  pub value_stays : (h : OpSet) → AllLawful h → (o : Op) (key : Key) → greatest_counter_of h < (stamp_of o).counter
      → ((s : Stamp) (v : ℕ) → o ≡ Set s key v → ⊥) → setting_of (with_op h o) key ≡ setting_of h key

-- merging is a union of sets; in which order operations come, and whether again, says nothing
pub record MergingIsUnion : Type 0 where
  pub holds : (h g : OpSet) (o : Op) → has_op (union h g) o ≡ (has_op h o || has_op g o)
  pub comm : (h g : OpSet) → union h g ≡ union g h
  pub assoc : (h g k : OpSet) → union (union h g) k ≡ union h (union g k)
  pub idempotent : (h : OpSet) → union h h ≡ h
  pub any_order : (h : OpSet) (o p : Op) → with_op (with_op h o) p ≡ with_op (with_op h p) o
  pub again : (h : OpSet) (o : Op) → has_op h o ≡ true → with_op h o ≡ h
