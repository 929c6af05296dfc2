-- Honest worlds: each site makes its own stamps and keeps what it made, and what it is given some site holds.
use Rattle.std.specs.Prelude.{◌≡◌, ℕ, true, ◌⊎◌, List, [], ◌∷◌, Some}
use Rattle.std.specs.FinMap as fin
use Rattle.desk_ops.specs.declared.op.Stamp.{Stamp}
use Rattle.desk_ops.specs.declared.op.Op.{Op}
use Rattle.desk_ops.specs.declared.fault.CopyFault.{CopyFault}
use Rattle.desk_ops.specs.declared.fault.FaultKind.TheVariants.{Waiting}
use Rattle.desk_ops.specs.Stamp.{head}
use Rattle.desk_ops.specs.Op.{stamp_of, target_of}
use Rattle.desk_ops.specs.OpSet.{OpSet, no_ops, has_op, union, IsWithin}
use Rattle.desk_ops.specs.Lists.{Among}
use Rattle.desk_ops.specs.Held.{IsUnforked}
use Rattle.desk_ops.specs.Live.{IsOfLiveInsert}
use Rattle.desk_ops.specs.Faults.{faults_of}
use Rattle.desk_ops.specs.Laws.{IsOneOrder}
use Rattle.desk_replica.specs.Laws.{AnswerAlike}
use Rattle.script_world.specs.Sites.{Sites}

-- the union of sets
abbrev pub union_of : List OpSet → OpSet
union_of [] = no_ops
union_of (set ∷ sets) = union set (union_of sets)

-- the union of the sites' sets
abbrev pub all_ops : Sites → OpSet
all_ops sites = union_of (fin.values sites)

-- a site of this number is there, and it holds the operation
abbrev pub IsHeldAt : Sites → ℕ → Op → Type 0
IsHeldAt sites n op = (set : OpSet) × (fin.get sites n ≡ Some set) × (has_op set op ≡ true)

-- in the union of the sites' sets
pub record IsHonest (sites : Sites) : Type 0 where
  -- no stamp is forked
  pub unforked : IsUnforked (all_ops sites)
  -- every target is the head or a live insert
  pub targets : (op : Op) (target : Stamp) → has_op (all_ops sites) op ≡ true → target_of op ≡ Some target
      → (target ≡ head) ⊎ IsOfLiveInsert (all_ops sites) target
  -- every stamp's site is a site of the world, and that site holds the operation
  pub own : (op : Op) → has_op (all_ops sites) op ≡ true → IsHeldAt sites (stamp_of op).site op

-- what an honest world says of a site that holds the set
pub record StandsIn (sites : Sites) (set : OpSet) : Type 0 where
  pub within : IsWithin set (all_ops sites)
  -- what it shows stands in the path order of the union, which is one total order of the union's live inserts
  pub order : IsOneOrder set (all_ops sites)
  -- no fault of it is forked or void
  pub waits : (fault : CopyFault) → Among fault (faults_of set) → fault.kind ≡ Waiting
  -- and if it holds all of the union it has no fault
  pub whole : IsWithin (all_ops sites) set → faults_of set ≡ []
  -- a site that holds the same operations answers alike
  pub alike : (n : ℕ) (other : OpSet) → fin.get sites n ≡ Some other → ((op : Op) → has_op set op ≡ has_op other op)
      → AnswerAlike set other
