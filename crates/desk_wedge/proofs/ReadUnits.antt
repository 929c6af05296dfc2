-- Reading the units of a wedge one after another.
use Rattle.std.proofs.Common.{◌≡◌, ◌≢◌, ℕ, ◌+◌, ◌≤◌, ◌<◌, false, List, length, take, get_or, Some, None, arith}
use Rattle.std.specs.Prelude.{All, nat_le, ◌&&◌, option_and_then}
use Rattle.std.proofs.lemmas.List.{take_more_set, take_all}
use Rattle.std.proofs.lemmas.Bool.Decides.{nat_tests}
use Rattle.std.proofs.lemmas.List.Elements.{All-push, All-nil}
use Rattle.std.proofs.Math.ListN.{set, length-set}
use Rattle.toml.specs.declared.value.Value.{Value}
use Rattle.toml.specs.View.{view, items_view}
use Rattle.desk_wedge.specs.Keys.{number_of}
use Rattle.desk_wedge.specs.Items.{each_of, so_many}
use Rattle.desk_wedge.proofs.Items.{AreReadTo, none_read, one_read, fault_read, wrong_length, right_length}
use Rattle.desk_wedge.specs.Wedge.{IsUnits, AreUnits}

pub other_length : (vs : List Value) → length vs ≢ 15 → None ≡ option_and_then (so_many 15 15) (each_of (number_of 1 24) (items_view vs))
other_length vs other =
    let outside : (nat_le 15 (length vs) && nat_le (length vs) 15) ≡ false = grind (arith, nat_tests) in
    wrong_length (number_of 1 24) vs 15 15 outside

-- what the loop over the rows keeps
pub record AreUnitsReadTo (vs : List Value) (i : ℕ) (units : List ℕ) : Type 0 where
  pub read : AreReadTo (number_of 1 24) vs i (take i units)
  pub rows : length units ≡ 15
  pub each : All IsUnits (take i units)

pub one_more : (vs : List Value) (i : ℕ) (units : List ℕ) (v : Value) (n : ℕ) → length vs ≡ 15 → i < length vs → v ≡ get_or vs i v
    → Some n ≡ number_of 1 24 (view v) → IsUnits n → AreUnitsReadTo vs i units → AreUnitsReadTo vs (i + 1) (set units i n)
one_more vs i units v n fifteen within is said in_range so_far =
    let room : i < length units = omega (arith, so_far.rows) in
    let more = take_more_set units i n room in
    record {
      read = rw more (one_read (number_of 1 24) vs i (take i units) v n within is said so_far.read);
      rows = rw (length-set {A = ℕ}) so_far.rows;
      each = rw more (All-push IsUnits (take i units) n so_far.each in_range);
    }

pub rows_read : (vs : List Value) (i : ℕ) (units : List ℕ) → length vs ≡ 15 → length vs ≤ i → AreUnitsReadTo vs i units → AreUnits units
rows_read vs i units fifteen end so_far =
    let whole : take i units ≡ units = take_all i units (omega (arith, so_far.rows)) in
    record { rows = so_far.rows; each = rw whole at so_far.each }

pub all_read : (vs : List Value) (i : ℕ) (units : List ℕ) → length vs ≡ 15 → length vs ≤ i → AreUnitsReadTo vs i units
    → Some units ≡ option_and_then (so_many 15 15) (each_of (number_of 1 24) (items_view vs))
all_read vs i units fifteen end so_far =
    let whole : take i units ≡ units = take_all i units (omega (arith, so_far.rows)) in
    right_length (number_of 1 24) vs i 15 15 units end (rw whole at so_far.read) (omega (arith, fifteen)) (omega (arith, fifteen))

pub nothing_read : (vs : List Value) (units : List ℕ) → length units ≡ 15 → AreUnitsReadTo vs 0 units
nothing_read vs units rows = record { read = none_read (number_of 1 24) vs; rows = rows; each = All-nil IsUnits }

pub none_there : (vs : List Value) (i : ℕ) (units : List ℕ) (v : Value) → i < length vs → v ≡ get_or vs i v
    → None ≡ number_of 1 24 (view v) → AreUnitsReadTo vs i units → None ≡ option_and_then (so_many 15 15) (each_of (number_of 1 24) (items_view vs))
none_there vs i units v within is said so_far =
    rw (fault_read (number_of 1 24) vs i (take i units) v within is said so_far.read)
