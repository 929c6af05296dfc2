-- Why no operation is moved.
use Rattle.std.specs.Prelude.{◌≡◌, ◌≢◌, ◌⊎◌, ℕ, Bool, true, false, not, ◌&&◌, ◌||◌, ◌==◌, if◌then◌else◌, List, [], ◌∷◌}
use Rattle.std.specs.Prelude.{Option, None, Some}
use Rattle.std.specs.List.{list_any}
use Rattle.desk_ops.specs.declared.op.Stamp.{Stamp}
use Rattle.desk_ops.specs.declared.op.Op.{Op}
use Rattle.desk_ops.specs.Op.{stamp_of, target_of}
use Rattle.desk_ops.specs.OpSet.{OpSet, has_op, in_order}
use Rattle.desk_ops.specs.Held.{is_borne_in}
use Rattle.feed_sites.specs.Moving.{AreMoved}
use Rattle.feed_sites.specs.declared.fault.NumberFault.{NumberFault}
use Rattle.feed_sites.specs.declared.fault.NumberFault.TheVariants as numbers

-- ---- in use

abbrev pub is_of : ℕ → Stamp → Bool
is_of site stamp = stamp.site == site

-- an operation names a stamp of which something holds
abbrev pub names : (Stamp → Bool) → Option Stamp → Bool
names test None = false
names test (Some stamp) = test stamp

-- an operation bears or names a stamp of the site
abbrev pub uses : ℕ → Op → Bool
uses site op = is_of site (stamp_of op) || names (is_of site) (target_of op)

abbrev pub is_used : ℕ → OpSet → Bool
is_used site set = list_any (uses site) (in_order set)

-- ---- seen

-- an operation that is not moved names a stamp that is
abbrev pub sees : OpSet → Op → Bool
sees moved op = not (has_op moved op) && names (is_borne_in moved) (target_of op)

-- an operation of the other set names a stamp that is moved, and that none of its set bears
abbrev pub sees_from : OpSet → OpSet → Op → Bool
sees_from moved other op = names (λ stamp. is_borne_in moved stamp && not (is_borne_in other stamp)) (target_of op)

-- the stamp of the first operation of which something holds
abbrev pub first_stamp : (Op → Bool) → List Op → Option Stamp
first_stamp test [] = None
first_stamp test (op ∷ ops) = if test op then Some (stamp_of op) else first_stamp test ops

abbrev pub or_else : Option Stamp → Option Stamp → Option Stamp
or_else None other = other
or_else (Some stamp) other = Some stamp

-- the stamp of the first operation that has seen what is moved: one of the feed, or else of the other set
abbrev pub seen : OpSet → OpSet → OpSet → Option Stamp
seen moved feed other =
    or_else (first_stamp (sees moved) (in_order feed)) (first_stamp (sees_from moved other) (in_order other))

-- ---- a clash

-- two that are moved from different sites have one counter, and would bear one stamp
abbrev pub Clash : OpSet → Type 0
Clash moved = (one other : Op) × (has_op moved one ≡ true) × (has_op moved other ≡ true)
    × ((stamp_of one).counter ≡ (stamp_of other).counter) × ((stamp_of one).site ≢ (stamp_of other).site)

-- two operations that follow one another have one counter and not one site
abbrev pub clash : Op → Op → Bool
clash one other = (stamp_of one).counter == (stamp_of other).counter
    && not ((stamp_of one).site == (stamp_of other).site)

abbrev pub clashes_with : Op → List Op → Bool
clashes_with op [] = false
clashes_with op (next ∷ ops) = clash op next

abbrev pub has_clash : List Op → Bool
has_clash [] = false
has_clash (op ∷ ops) = clashes_with op ops || has_clash ops

-- ---- a number that serves

-- neither set uses the number
pub record IsFree (site : ℕ) (feed other : OpSet) : Type 0 where
  pub of_feed : is_used site feed ≡ false
  pub of_other : is_used site other ≡ false

-- The number is free, and these operations are moved to it. No other operation has seen them, and no two of different
-- sites would bear one stamp.
pub record MayMove (site : ℕ) (feed other moved : OpSet) : Type 0 where
  pub free : IsFree site feed other
  pub are_moved : AreMoved feed other moved
  pub unseen : seen moved feed other ≡ None
  pub apart : Clash moved → ⊥

-- why a number does not serve for the operations that are moved; of memory nothing is said
abbrev pub IsRefused : ℕ → OpSet → OpSet → NumberFault → Type 0
IsRefused site feed other numbers.InUse = (is_used site feed ≡ true) ⊎ (is_used site other ≡ true)
IsRefused site feed other (numbers.Seen stamp) = IsFree site feed other × (moved : OpSet) × AreMoved feed other moved
    × (seen moved feed other ≡ Some stamp)
IsRefused site feed other numbers.Clash = IsFree site feed other × (moved : OpSet) × AreMoved feed other moved
    × (seen moved feed other ≡ None) × Clash moved
IsRefused site feed other numbers.NoMemory = Unit {0}
