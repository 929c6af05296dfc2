-- A set that one site made from nothing, with the copy and the settings of another.
use Rattle.std.specs.Prelude.{◌≡◌, ◌⊎◌, ℕ, ◌+◌, ◌==◌, true, cond, [], length, Option, None, Some, IfSome}
use Rattle.desk_ops.specs.declared.op.Stamp.{Stamp}
use Rattle.desk_ops.specs.declared.op.Key.{Key}
use Rattle.desk_ops.specs.declared.op.Key.TheVariants.{Measure, Tight, Loose, Case, Wedge}
use Rattle.desk_ops.specs.declared.op.Op.{Op}
use Rattle.desk_ops.specs.Stamp.{head}
use Rattle.desk_ops.specs.Op.{IsValue, stamp_of, target_of}
use Rattle.desk_ops.specs.Order.{key_code}
use Rattle.desk_ops.specs.OpSet.{OpSet, AllLawful, has_op, size}
use Rattle.desk_ops.specs.Held.{IsUnforked, greatest_counter_of}
use Rattle.desk_ops.specs.Live.{IsOfLiveInsert}
use Rattle.desk_ops.specs.Shown.{copy_of}
use Rattle.desk_ops.specs.Faults.{faults_of}
use Rattle.desk_ops.specs.Settings.{setting_of}
use Rattle.desk_replica.specs.JobSettings.{settings_of}
use Rattle.desk_replica.specs.declared.settings.Settings.{Settings}

-- each operation of a set is borne by the site
abbrev pub IsBySite : ℕ → OpSet → Type 0
IsBySite site set = (op : Op) → has_op set op ≡ true → (stamp_of op).site ≡ site

-- ---- a set on the way

-- What a site has made from nothing, edit after edit: no stamp is forked, every target is the head or a live insert,
-- and the counters are those from 1 on.
pub record IsOwn (site : ℕ) (set : OpSet) : Type 0 where
  pub lawful : AllLawful set
  pub by_site : IsBySite site set
  pub unforked : IsUnforked set
  pub targets : (op : Op) (target : Stamp) → has_op set op ≡ true → target_of op ≡ Some target → (target ≡ head)
      ⊎ IsOfLiveInsert set target
  pub counters : greatest_counter_of set ≡ size set

-- ---- settings

-- the first of two values that is there
abbrev pub or_else : Option ℕ → Option ℕ → Option ℕ
or_else None other = other
or_else (Some value) other = Some value

-- settings in which a key has a value, if one is given
abbrev pub with_value : (Key → Option ℕ) → Key → Option ℕ → Key → Option ℕ
with_value settings key value other =
    cond (key_code other == key_code key) (or_else value (settings other)) (settings other)

-- how many values are there
abbrev pub one_if : Option ℕ → ℕ
one_if None = 0
one_if (Some value) = 1

abbrev pub values_in : Settings → ℕ
values_in s = one_if s.measure + one_if s.tight + one_if s.loose + one_if s.case + one_if s.wedge

-- each value that is there is in the range of its key
pub record AreInRange (s : Settings) : Type 0 where
  pub measure : IfSome s.measure (IsValue Measure)
  pub tight : IfSome s.tight (IsValue Tight)
  pub loose : IfSome s.loose (IsValue Loose)
  pub case : IfSome s.case (IsValue Case)
  pub wedge : IfSome s.wedge (IsValue Wedge)

-- no setting has a value
abbrev pub HasNone : OpSet → Type 0
HasNone set = (key : Key) → setting_of set key ≡ None

-- ---- the set that is made

-- The copy and the settings of another set, all made by one site: with no copy fault, and by one operation for each
-- symbol and each value, under the counters from 1 on.
pub record IsAnew (site : ℕ) (old set : OpSet) : Type 0 where
  pub copy : copy_of set ≡ copy_of old
  pub settings : settings_of set ≡ settings_of old
  pub faultless : faults_of set ≡ []
  pub by_site : IsBySite site set
  pub few : size set ≡ length (copy_of old) + values_in (settings_of old)
  pub counters : greatest_counter_of set ≡ size set
