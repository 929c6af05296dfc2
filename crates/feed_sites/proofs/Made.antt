-- The copy and the settings of a set, made anew.
use Rattle.std.proofs.Common.{◌≡◌, ℕ, ◌+◌, ◌≤◌, List, [], ◌∷◌, length, refl, ap, ◌∙◌, arith}
use Rattle.desk_ops.specs.declared.op.Symbol.{Symbol}
use Rattle.desk_ops.specs.declared.op.Key.{Key}
use Rattle.desk_ops.specs.OpSet.{OpSet, AllLawful, max_ops, no_ops, size}
use Rattle.desk_ops.specs.Settings.{setting_of}
use Rattle.desk_ops.specs.Shown.{copy_of}
use Rattle.desk_ops.proofs.OpSets.{none-lawful}
use Rattle.desk_replica.specs.JobSettings.{settings_of}
use Rattle.desk_replica.specs.declared.settings.Settings.{Settings}
use Rattle.feed_sites.specs.Anew.{IsAnew, IsOwn, values_in}
use Rattle.feed_sites.proofs.Few.{all_few}
use Rattle.feed_sites.proofs.Own.{none_sized, own_faultless}
use Rattle.feed_sites.proofs.Settings.{settings_stay}

none_long : (copy : List Symbol) → length copy ≤ 0 → copy ≡ []
none_long [] few = refl
none_long (symbol ∷ copy) few = absurd (omega (arith, few))

-- no operation, no symbol
pub none_shown : copy_of no_ops ≡ []
none_shown = none_long (copy_of no_ops) (let few = all_few no_ops none-lawful in let none = none_sized in omega (arith, few, none))

-- the copy has room behind the settings
pub has_room : (old given : OpSet) (settings : Settings) (copy : List Symbol) → AllLawful old → size old ≤ max_ops → settings ≡ settings_of old → copy ≡ copy_of old → size given ≡ values_in settings → size given + length copy ≤ max_ops
has_room old given settings copy lawful within are is count =
    let few = all_few old lawful in
    let values : values_in settings ≡ values_in (settings_of old) = ap values_in are in
    let long : length copy ≡ length (copy_of old) = ap length is in
    omega (arith, few, values, long, within, count)

-- settings first, and then the copy
pub anew : (site : ℕ) (old given made : OpSet) (settings : Settings) (copy : List Symbol) → settings ≡ settings_of old → copy ≡ copy_of old
    → size given ≡ values_in settings → settings_of given ≡ settings
    → IsOwn site made → size made ≡ size given + length copy → copy_of made ≡ copy → ((k : Key) → setting_of made k ≡ setting_of given k) → IsAnew site old made
anew site old given made settings copy are is count set own more shows stay = record {
  copy = shows ∙ is;
  settings = settings_stay given made stay ∙ set ∙ are;
  faultless = own_faultless site made own;
  by_site = own.by_site;
  few =
      let values : values_in settings ≡ values_in (settings_of old) = ap values_in are in
      let long : length copy ≡ length (copy_of old) = ap length is in
      omega (arith, values, long, count, more);
  counters = own.counters;
}
