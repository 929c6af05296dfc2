-- What holds of a set that is renumbered.
use Rattle.std.specs.Prelude.{◌≡◌, ◌↔◌, ℕ, false, true}
use Rattle.desk_ops.specs.declared.op.Op.{Op}
use Rattle.desk_ops.specs.declared.op.Stamp.{Stamp}
use Rattle.desk_ops.specs.OpSet.{OpSet, has_op, size, union}
use Rattle.desk_ops.specs.Held.{IsUnforked}
use Rattle.feed_sites.specs.Moving.{IsMoved, collides, renumbered, set_renumbered}
use Rattle.feed_sites.specs.Refusing.{MayMove}

-- it holds exactly what the operations of the feed become
abbrev pub HoldsWhatTheyBecome : Type 0
HoldsWhatTheyBecome =
    (site : ℕ) (feed moved : OpSet) (op : Op) → (has_op (set_renumbered site moved feed) op ≡ true)
    ↔ ((old : Op) × (has_op feed old ≡ true) × (renumbered site moved old ≡ op))

-- an operation that is not moved stays as it is
abbrev pub OthersStay : Type 0
OthersStay =
    (site : ℕ) (feed other moved : OpSet) → MayMove site feed other moved → (op : Op) → has_op feed op ≡ true
    → (IsMoved feed other op → ⊥) → has_op (set_renumbered site moved feed) op ≡ true

-- it has as many operations as the feed
abbrev pub NoneIsLost : Type 0
NoneIsLost = (site : ℕ) (feed other moved : OpSet) → MayMove site feed other moved
    → size (set_renumbered site moved feed) ≡ size feed

-- no stamp collides any more
abbrev pub NothingCollides : Type 0
NothingCollides = (site : ℕ) (feed other moved : OpSet) → MayMove site feed other moved → (stamp : Stamp)
    → collides (set_renumbered site moved feed) other stamp ≡ false

-- where neither had a fork, a merge of the two has none
abbrev pub MergesWithNoFork : Type 0
MergesWithNoFork =
    (site : ℕ) (feed other moved : OpSet) → MayMove site feed other moved → IsUnforked feed → IsUnforked other
    → IsUnforked (union (set_renumbered site moved feed) other)
