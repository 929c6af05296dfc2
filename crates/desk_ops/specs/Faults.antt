-- The copy faults of a set: stamps whose operations do not act, and why.
use Rattle.std.specs.Prelude.{◌≡◌, true, false, not, List, [], ◌∷◌, Option, Some, None}
use Rattle.std.specs.List.{AllByRecursion, filter, filter_map}
use Rattle.desk_ops.specs.declared.op.Stamp.{Stamp}
use Rattle.desk_ops.specs.declared.op.Op.{Op}
use Rattle.desk_ops.specs.declared.op.Op.TheVariants.{Insert, Delete, Set}
use Rattle.desk_ops.specs.declared.fault.FaultKind.{FaultKind}
use Rattle.desk_ops.specs.declared.fault.FaultKind.TheVariants.{Forked, Void, Waiting}
use Rattle.desk_ops.specs.declared.fault.CopyFault.{CopyFault}
use Rattle.desk_ops.specs.Stamp.{same, before, head}
use Rattle.desk_ops.specs.Op.{stamp_of, target_of, Insertion}
use Rattle.desk_ops.specs.OpSet.{OpSet, in_order}
use Rattle.desk_ops.specs.Held.{bearing, is_borne, end_of, is_forked_in, is_borne_in, clear_inserts_of}
use Rattle.desk_ops.specs.Lists.{Among}
use Rattle.desk_ops.specs.Live.{IsClearOp, IsLiveOp}

-- each stamp once
abbrev pub stamps : List Op → List Stamp
stamps [] = []
stamps (o ∷ os) = stamp_of o ∷ filter (λ s. not (same s (stamp_of o))) (stamps os)

-- where the way from a target ends decides: at the head, at a stamp that some operation bears, or at one that none does
abbrev pub fault_of_end : List Op → Stamp → Option FaultKind
fault_of_end ops s =
    elim (same s head) [
      | true ↦ None
      | false ↦ elim (is_borne ops s) [ true ↦ Some Void | false ↦ Some Waiting ]
    ]

abbrev pub fault_of : List Op → Op → Option FaultKind
fault_of ops (Insert stamp parent symbol) = fault_of_end ops (end_of ops parent)
fault_of ops (Delete stamp target) = fault_of_end ops (end_of ops target)
fault_of ops (Set stamp key value) = None

-- of all that bear one stamp
abbrev pub fault_among : List Op → List Op → Option FaultKind
fault_among ops [] = None
fault_among ops (o ∷ []) = fault_of ops o
fault_among ops (o ∷ p ∷ os) = Some Forked

abbrev pub marked : Stamp → Option FaultKind → Option CopyFault
marked s None = None
marked s (Some kind) = Some (record { stamp = s; kind = kind })

-- one per stamp, in stamp order
unfoldable pub copy_faults : List Op → List CopyFault
copy_faults ops = filter_map (λ s. marked s (fault_among ops (bearing ops s))) (stamps ops)

abbrev pub faults_of : OpSet → List CopyFault
faults_of h = copy_faults (in_order h)

-- ---- in words

-- from s on, through clear inserts to their parents, one comes at last to t, which no clear insert bears
pub data EndsAt (h : OpSet) (t : Stamp) : Stamp → Type 0 where
  stops : ((x : Insertion) → Among x (clear_inserts_of h) → x.stamp ≡ t → ⊥) → EndsAt h t t
  goes : (x : Insertion) → Among x (clear_inserts_of h) → EndsAt h t x.parent → EndsAt h t x.stamp

-- a clear insert or delete that is not live, and that bears s: followed to its target, and on, it ends at t
pub record IsStuck (h : OpSet) (s t : Stamp) : Type 0 where
  pub op : Op
  pub bears : stamp_of op ≡ s
  pub clear : IsClearOp h op
  pub not_live : IsLiveOp h op → ⊥
  pub target : Stamp
  pub targets : target_of op ≡ Some target
  pub ends : EndsAt h t target

-- more than one operation bears the stamp; or it is stuck at a stamp that some operation bears; or at one that none
-- does
abbrev pub HasFault : OpSet → Stamp → FaultKind → Type 0
HasFault h s Forked = is_forked_in h s ≡ true
HasFault h s Void = (t : Stamp) × IsStuck h s t × (is_borne_in h t ≡ true)
HasFault h s Waiting = (t : Stamp) × IsStuck h s t × (is_borne_in h t ≡ false)

-- each stamp is greater than those before it
abbrev pub IsByStamp : List CopyFault → Type 0
IsByStamp [] = Unit {0}
IsByStamp (f ∷ fs) = AllByRecursion (λ g. before f.stamp g.stamp ≡ true) fs × IsByStamp fs
