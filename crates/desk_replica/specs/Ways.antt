-- Where the ways of a set's operations end, from target to target: what hangs on each of them.
use Rattle.std.specs.Prelude.{◌≡◌, ℕ, ◌<◌, Bool, true, false, List, [], ◌∷◌, length, map, slice_index_or, take, Option}
use Rattle.std.specs.Prelude.{Some}
use Rattle.std.specs.List.{filter_map}
use Rattle.desk_ops.specs.declared.op.Stamp.{Stamp}
use Rattle.desk_ops.specs.declared.op.Op.{Op}
use Rattle.desk_ops.specs.declared.op.Op.TheVariants.{Insert, Delete, Set}
use Rattle.desk_ops.specs.declared.fault.FaultKind.{FaultKind}
use Rattle.desk_ops.specs.declared.fault.FaultKind.TheVariants.{Void}
use Rattle.desk_ops.specs.declared.fault.CopyFault.{CopyFault}
use Rattle.desk_ops.specs.Stamp.{same}
use Rattle.desk_ops.specs.Op.{stamp_of}
use Rattle.desk_ops.specs.OpSet.{OpSet, AllLawful, in_order}
use Rattle.desk_ops.specs.Held.{bearing, end_of}
use Rattle.desk_ops.specs.Faults.{stamps, fault_of_end, fault_among, marked}

-- what a clear operation is whose target is s
abbrev pub kind_at : List Op → Stamp → Option FaultKind
kind_at ops s = fault_of_end ops (end_of ops s)

-- what clear operations are whose targets are the stamps of the first operations
abbrev pub ways_before : List Op → ℕ → List (Option FaultKind)
ways_before ops i = map (λ op. kind_at ops (stamp_of op)) (take i ops)

-- of the stamps of the first operations
abbrev pub faults_before : List Op → ℕ → List CopyFault
faults_before ops i = filter_map (λ s. marked s (fault_among ops (bearing ops s))) (stamps (take i ops))

-- the operations of a set of lawful ones, in order
pub record IsInOrder (ops : List Op) : Type 0 where
  pub set : OpSet
  pub lawful : AllLawful set
  pub is : ops ≡ in_order set

-- the k-th operation bears the stamp
pub record IsBearer (ops : List Op) (s : Stamp) (k : ℕ) : Type 0 where
  pub within : k < length ops
  pub bears : (d : Op) → stamp_of (slice_index_or ops k d) ≡ s

-- what bears the stamp stands before the place
abbrev pub AreBefore : List Op → Stamp → ℕ → Type 0
AreBefore ops s i = (k : ℕ) → IsBearer ops s k → k < i

-- whether the last of the operations bears the stamp
abbrev pub ends_with : List Op → Stamp → Bool
ends_with [] s = false
ends_with (o ∷ []) s = same (stamp_of o) s
ends_with (o ∷ p ∷ os) s = ends_with (p ∷ os) s

-- whether the first of the operations bears the stamp
abbrev pub begins_with : List Op → Stamp → Bool
begins_with [] s = false
begins_with (o ∷ os) s = same (stamp_of o) s

-- what hangs on a clear operation with the fault: no text stands behind a delete or a setting
abbrev pub hanging_on : Op → Option FaultKind → Option FaultKind
hanging_on (Insert stamp parent symbol) kind = kind
hanging_on (Delete stamp target) kind = Some Void
hanging_on (Set stamp key value) kind = Some Void

-- what the first operations give
pub record AreReported (ops : List Op) (i : ℕ) (hanging : List (Option FaultKind)) (faults : List CopyFault)
    : Type 0 where
  pub hanging_are : hanging ≡ ways_before ops i
  pub faults_are : faults ≡ faults_before ops i
