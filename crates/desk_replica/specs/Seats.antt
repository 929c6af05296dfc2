-- Lists by stamp, and where in them a stamp stands or would stand.
use Rattle.std.specs.Prelude.{◌≡◌, ◌≤◌, ◌<◌, ℕ, true, false, List, length, slice_index_or}
use Rattle.std.specs.List.{AllWithin}
use Rattle.desk_ops.specs.declared.op.Stamp.{Stamp}
use Rattle.desk_ops.specs.declared.fault.CopyFault.{CopyFault}
use Rattle.desk_ops.specs.Stamp.{before}

abbrev pub fault_stamp : CopyFault → Stamp
fault_stamp fault = fault.stamp

-- no stamp is smaller than one before it
abbrev pub Rise : {X : Type 0} → (X → Stamp) → List X → Type 0
Rise {X} borne xs = (i j : ℕ) (d : X) → i ≤ j → j < length xs
    → before (borne (slice_index_or xs j d)) (borne (slice_index_or xs i d)) ≡ false

-- the first place whose stamp is not smaller
pub record IsSeat {X : Type 0} (borne : X → Stamp) (xs : List X) (s : Stamp) (place : ℕ) : Type 0 where
  pub within : place ≤ length xs
  pub early : AllWithin (λ x. before (borne x) s ≡ true) xs 0 place
  pub late : AllWithin (λ x. before (borne x) s ≡ false) xs place (length xs)
