-- Settings that are given one after the other.
use Rattle.std.proofs.Common.{◌≡◌, ℕ, Option, None, Some, refl, ap, ◌∙◌}
use Rattle.desk_ops.specs.declared.op.Key.{Key}
use Rattle.desk_ops.specs.declared.op.Key.TheVariants.{Measure, Tight, Loose, Case, Wedge}
use Rattle.desk_ops.specs.OpSet.{OpSet, AllLawful, no_ops}
use Rattle.desk_ops.specs.Settings.{IsSetting, setting_of}
use Rattle.desk_ops.proofs.Values.{is_setting}
use Rattle.desk_replica.specs.JobSettings.{settings_of}
use Rattle.desk_replica.specs.declared.settings.Settings.{Settings}
use Rattle.feed_sites.specs.Anew.{AreInRange, HasNone, or_else, with_value}
use Rattle.feed_sites.proofs.Few.{setting_in}
use Rattle.feed_sites.proofs.Own.{no_op}

or_none : (value : Option ℕ) → or_else value None ≡ value
or_none None = refl
or_none (Some value) = refl

-- a key's value is given to it
given : (value before : Option ℕ) → before ≡ None → or_else value before ≡ value
given value before none = ap (or_else value) none ∙ or_none value

pub all_given : (s a b c d e : OpSet) (wanted : Settings) → HasNone s
    → ((k : Key) → setting_of a k ≡ with_value (setting_of s) Measure wanted.measure k)
    → ((k : Key) → setting_of b k ≡ with_value (setting_of a) Tight wanted.tight k)
    → ((k : Key) → setting_of c k ≡ with_value (setting_of b) Loose wanted.loose k)
    → ((k : Key) → setting_of d k ≡ with_value (setting_of c) Case wanted.case k)
    → ((k : Key) → setting_of e k ≡ with_value (setting_of d) Wedge wanted.wedge k)
    → settings_of e ≡ wanted
all_given s a b c d e wanted none fa fb fc fd fe i = record {
  measure = measure i;
  tight = tight i;
  loose = loose i;
  case = of_case i;
  wedge = wedge i;
}
  where
    measure : setting_of e Measure ≡ wanted.measure
    measure = fe Measure ∙ fd Measure ∙ fc Measure ∙ fb Measure ∙ fa Measure ∙ given wanted.measure (setting_of s Measure) (none Measure)

    tight : setting_of e Tight ≡ wanted.tight
    tight = fe Tight ∙ fd Tight ∙ fc Tight ∙ fb Tight ∙ given wanted.tight (setting_of a Tight) (fa Tight ∙ none Tight)

    loose : setting_of e Loose ≡ wanted.loose
    loose = fe Loose ∙ fd Loose ∙ fc Loose ∙ given wanted.loose (setting_of b Loose) (fb Loose ∙ fa Loose ∙ none Loose)

    of_case : setting_of e Case ≡ wanted.case
    of_case = fe Case ∙ fd Case ∙ given wanted.case (setting_of c Case) (fc Case ∙ fb Case ∙ fa Case ∙ none Case)

    wedge : setting_of e Wedge ≡ wanted.wedge
    wedge = fe Wedge ∙ given wanted.wedge (setting_of d Wedge) (fd Wedge ∙ fc Wedge ∙ fb Wedge ∙ fa Wedge ∙ none Wedge)

-- ---- of a set

-- no operation, no setting
pub none_set : HasNone no_ops
none_set key = go (setting_of no_ops key) (is_setting no_ops key)
  where
    go : (value : Option ℕ) → IsSetting no_ops key value → value ≡ None
    go None is = refl
    go (Some value) is = no_op _ is.1.0.0

pub in_range : (set : OpSet) → AllLawful set → AreInRange (settings_of set)
in_range set lawful = record {
  measure = setting_in set Measure (setting_of set Measure) lawful (is_setting set Measure);
  tight = setting_in set Tight (setting_of set Tight) lawful (is_setting set Tight);
  loose = setting_in set Loose (setting_of set Loose) lawful (is_setting set Loose);
  case = setting_in set Case (setting_of set Case) lawful (is_setting set Case);
  wedge = setting_in set Wedge (setting_of set Wedge) lawful (is_setting set Wedge);
}

-- settings of which none changed
pub settings_stay : (a b : OpSet) → ((k : Key) → setting_of b k ≡ setting_of a k) → settings_of b ≡ settings_of a
settings_stay a b same i = record { measure = same Measure i; tight = same Tight i; loose = same Loose i; case = same Case i; wedge = same Wedge i }
