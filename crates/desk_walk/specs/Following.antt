-- A sequence and the operations that wait, as they follow a set.
use Rattle.std.specs.Prelude.{◌≡◌, ◌↔◌, ◌⊎◌, ℕ, ◌-◌, ◌<◌, ◌≤◌, Bool, true, false, List, ◌∷◌, map, length}
use Rattle.std.specs.Prelude.{slice_index_or, Some}
use Rattle.std.specs.List.{insert}
use Rattle.desk_ops.specs.declared.op.Stamp.{Stamp}
use Rattle.desk_ops.specs.declared.op.Symbol.{Symbol}
use Rattle.desk_ops.specs.declared.op.Op.{Op}
use Rattle.desk_ops.specs.declared.op.Op.TheVariants.{Insert, Delete, Set}
use Rattle.desk_ops.specs.Stamp.{head}
use Rattle.desk_ops.specs.Op.{stamp_of, target_of, Insertion, IsLawful}
use Rattle.desk_ops.specs.OpSet.{OpSet, has_op, AllLawful}
use Rattle.desk_ops.specs.Held.{is_borne_in}
use Rattle.desk_ops.specs.Lists.{Among}
use Rattle.desk_ops.specs.Live.{insert_of, IsClearOp, IsLiveOp}
use Rattle.desk_ops.specs.Walk.{walk_from, walk_of}
use Rattle.desk_ops.specs.Shown.{is_deleted_in}
use Rattle.desk_ops.specs.Drain.{IsTakenIn}
use Rattle.desk_walk.specs.Waiting.{HasTarget}
use Rattle.desk_seq.specs.declared.Entry.{Entry}
use Rattle.desk_seq.specs.Entries.{stamps_of, IsAbsent, IsFirstBelow, with_mark}

-- an element of the walk, marked where a clear delete targets it
abbrev pub entry_of : OpSet → Insertion → Entry
entry_of h x = record { stamp = x.stamp; symbol = x.symbol; deleted = is_deleted_in h x.stamp }

-- the walk of the set, with exactly the targets of live deletes marked
abbrev pub entries_of : OpSet → List Entry
entries_of h = map (entry_of h) (walk_of h)

-- a clear insert or delete that is not live (a clear set is live)
pub record IsWaiting (h : OpSet) (op : Op) : Type 0 where
  pub clear : IsClearOp h op
  pub not_live : IsLiveOp h op → ⊥

-- the entries are the set's walk, and what waits are exactly its clear inserts and deletes that are not live
pub record IsSettled (h : OpSet) (es : List Entry) (waiting : OpSet) : Type 0 where
  pub entries : es ≡ entries_of h
  pub waits : (o : Op) → (has_op waiting o ≡ true) ↔ IsWaiting h o

-- ---- on the way there

-- an element without its mark
abbrev pub bare : Entry → Stamp × Symbol
bare e = (e.stamp, e.symbol)

abbrev pub bare_of : Insertion → Stamp × Symbol
bare_of x = (x.stamp, x.symbol)

-- what an operation may hang on: the head, and then each entry
abbrev pub places : List Entry → List Stamp
places es = head ∷ stamps_of es

abbrev pub place_at : List Entry → ℕ → Stamp
place_at es j = slice_index_or (places es) j head

-- the entries are the walk of some clear inserts of the set, marked where a clear delete that does not wait targets
-- them; each other clear insert or delete waits
pub record IsFollowing (h : OpSet) (waits : Op → Bool) (es : List Entry) : Type 0 where
  pub inserts : List Insertion
  pub taken : IsTakenIn h inserts
  pub walk : map bare es ≡ map bare_of (walk_from inserts head)
  pub whole : (x : Insertion) → Among x inserts → Among x.stamp (stamps_of es)
  pub marks : (e : Entry) → Among e es → (e.deleted ≡ true)
      ↔ ((s : Stamp) × IsClearOp h (Delete s e.stamp) × (waits (Delete s e.stamp) ≡ false))
  pub clear : (o : Op) → waits o ≡ true → IsClearOp h o
  pub targets : (o : Op) → waits o ≡ true → HasTarget o
  pub untaken : (x : Insertion) → IsClearOp h (insert_of x) → Among x inserts ⊎ (waits (insert_of x) ≡ true)
  pub apart : (x : Insertion) → Among x inserts → waits (insert_of x) ≡ false
  pub deletes : (s t : Stamp) → IsClearOp h (Delete s t) → (waits (Delete s t) ≡ true) ⊎ Among t (stamps_of es)

-- nothing waits for the place
abbrev pub IsFree : (Op → Bool) → List Entry → ℕ → Type 0
IsFree waits es j = (o : Op) → waits o ≡ true → target_of o ≡ Some (place_at es j) → ⊥

-- what waits for a place waits for one from at to last
pub record IsDraining (h : OpSet) (waits : Op → Bool) (es : List Entry) (at last : ℕ) : Type 0 where
  pub follows : IsFollowing h waits es
  pub rest : (j : ℕ) → j < length (places es) → (j < at) ⊎ (last < j) → IsFree waits es j

-- the same tests, but for one operation that no longer waits
pub record IsWithout (old new : Op → Bool) (op : Op) : Type 0 where
  pub rest : (o : Op) → old o ≡ true → (op ≡ o) ⊎ (new o ≡ true)
  pub within : (o : Op) → new o ≡ true → old o ≡ true
  pub gone : new op ≡ false

abbrev pub new_entry : Stamp → Symbol → Entry
new_entry stamp symbol = record { stamp = stamp; symbol = symbol; deleted = false }

-- what an operation does that hangs on the place: an insert stands where the scan from there leads, a delete marks the
-- entry
abbrev pub IsActed : Op → ℕ → ℕ → List Entry → List Entry → ℕ → Type 0
IsActed (Insert stamp parent symbol) at last es after reach =
    (place : ℕ) × IsFirstBelow (stamps_of es) at stamp place × (after ≡ insert es place (new_entry stamp symbol))
    × (place < reach) × (last < reach)
IsActed (Delete stamp target) at last es after reach = (after ≡ with_mark es (at - 1)) × (reach ≡ last)
IsActed (Set stamp key value) at last es after reach = (after ≡ es) × (reach ≡ last)

-- where it can be done: an insert is not there and has room, a delete does not hang on the head
abbrev pub CanAct : Op → ℕ → ℕ → List Entry → Type 0
CanAct (Insert stamp parent symbol) at free es = (1 ≤ free) × IsAbsent stamp es
CanAct (Delete stamp target) at free es = 1 ≤ at
CanAct (Set stamp key value) at free es = Unit {0}

-- a lawful operation comes to a set whose walk and waiting operations these are, and none of which bears its stamp
pub record IsArrival (h : OpSet) (op : Op) (es : List Entry) (waiting : OpSet) : Type 0 where
  pub lawful : AllLawful h
  pub own : IsLawful op
  pub new : is_borne_in h (stamp_of op) ≡ false
  pub settled : IsSettled h es waiting
