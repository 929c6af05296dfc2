-- What a set says of each setting of the job.
use Rattle.std.specs.Prelude.{◌≡◌, ◌⊎◌, ℕ, ◌==◌, true, false, List, [], ◌∷◌, Option, Some, None}
use Rattle.std.specs.List.{filter_map}
use Rattle.desk_ops.specs.declared.op.Stamp.{Stamp}
use Rattle.desk_ops.specs.declared.op.Key.{Key}
use Rattle.desk_ops.specs.declared.op.Op.{Op}
use Rattle.desk_ops.specs.declared.op.Op.TheVariants.{Insert, Delete, Set}
use Rattle.desk_ops.specs.Stamp.{before}
use Rattle.desk_ops.specs.Order.{key_code}
use Rattle.desk_ops.specs.OpSet.{OpSet, in_order}
use Rattle.desk_ops.specs.Held.{clear_ops}
use Rattle.desk_ops.specs.Live.{IsLiveOp}

abbrev pub value_for : Key → Op → Option ℕ
value_for key (Insert stamp parent symbol) = None
value_for key (Delete stamp target) = None
value_for key (Set stamp k value) = elim (key_code k == key_code key) [ true ↦ Some value | false ↦ None ]

abbrev pub last : List ℕ → Option ℕ
last [] = None
last (x ∷ []) = Some x
last (x ∷ y ∷ ys) = last (y ∷ ys)

-- the value of the clear set of the key with the greatest stamp
unfoldable pub setting : List Op → Key → Option ℕ
setting ops key = last (filter_map (value_for key) (clear_ops ops))

abbrev pub setting_of : OpSet → Key → Option ℕ
setting_of h key = setting (in_order h) key

-- ---- in words

-- the value of the live set of the key with the greatest stamp, or none where there is no live set of it
abbrev pub IsSetting : OpSet → Key → Option ℕ → Type 0
IsSetting h key None = (s : Stamp) (n : ℕ) → IsLiveOp h (Set s key n) → ⊥
IsSetting h key (Some value) =
    (s : Stamp) × IsLiveOp h (Set s key value)
    × ((t : Stamp) (n : ℕ) → IsLiveOp h (Set t key n) → (t ≡ s) ⊎ (before t s ≡ true))
