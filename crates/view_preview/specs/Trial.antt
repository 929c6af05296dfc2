-- Settings that are tried in place of those of a copy.
use Rattle.std.specs.Prelude.{◌≡◌, ◌≢◌, ℕ, suc, ◌==◌, List, [], ◌∷◌, ◌++◌, length, Option, Some, None, if◌then◌else◌}
use Rattle.std.specs.Prelude.{codes}
use Rattle.std.specs.Option.{option_or}
use Rattle.std.specs.List.{before_first, after_first, position_or_len}
use Rattle.std.specs.Borrow.{Bor}
use Rattle.std.proofs.Common.{eqb}
use Rattle.desk_ops.specs.OpSet.{OpSet}
use Rattle.desk_ops.specs.Op.{is_value}
use Rattle.desk_ops.specs.Settings.{setting_of}
use Rattle.desk_ops.specs.declared.op.Key.{Key}
use Rattle.desk_ops.specs.declared.op.Key.TheVariants as keys
use Rattle.desk_replica.specs.JobSettings.{settings_of}
use Rattle.desk_replica.specs.declared.settings.Settings.{Settings}
use Rattle.desk_job.specs.Answer.{by_key}
use Rattle.script_answers.specs.Grammar.{command_of}
use Rattle.script_answers.specs.Reading.{◌>>=◌}
use Rattle.script_answers.specs.Command.{CommandValues, SetTo}
use Rattle.script_answers.specs.Command as commands
use Rattle.view_preview.specs.declared.trial.TrialFault.{TrialFault}
use Rattle.view_preview.specs.declared.trial.TrialFault.TheVariants as fault

-- ---- what is tried

-- settings with those that are tried in their place
abbrev pub tried_with : Settings → Settings → Settings
tried_with trial given = record {
  measure = option_or trial.measure given.measure;
  tight = option_or trial.tight given.tight;
  loose = option_or trial.loose given.loose;
  case = option_or trial.case given.case;
  wedge = option_or trial.wedge given.wedge;
}

-- the settings of a set, with those that are tried in their place
abbrev pub tried : Settings → OpSet → Key → Option ℕ
tried trial set = by_key (tried_with trial (settings_of set))

-- nothing is tried
abbrev pub no_trial : Settings
no_trial = record { measure = None; tight = None; loose = None; case = None; wedge = None }

-- Where nothing is tried each key has the value that the set gives it.
abbrev pub NothingIsAsSet : Type 0
NothingIsAsSet = (set : OpSet) (key : Key) → tried no_trial set key ≡ setting_of set key

-- ---- texts that try a setting

-- The command that a text as `loose=200` stands for: `set 1 loose 200`.
unfoldable pub line_of : List ℕ → Option (List ℕ)
line_of text =
    if position_or_len (λ b. eqb b 61) text == length text then None
    else Some (codes "set 1 " ++ before_first (λ b. eqb b 61) text ++ codes " " ++ after_first (λ b. eqb b 61) text)

-- the key and the value that a command sets, where the key may have the value
abbrev pub set_by : CommandValues → Option (Key × ℕ)
set_by (commands.Site n) = None
set_by (commands.Insert site place copy) = None
set_by (commands.Delete site place) = None
set_by (SetTo site key value) = if is_value key value then Some (key, value) else None
set_by (commands.Take site bytes) = None
set_by (commands.Send from to range) = None
set_by (commands.Merge to from) = None
set_by (commands.Show site) = None
set_by (commands.Faults site) = None
set_by (commands.Settings site) = None
set_by (commands.Feed site) = None
set_by (commands.Ribbon site case wedge) = None
set_by (commands.Cast site case wedge) = None
set_by (commands.Restart site) = None

-- what the command of a line sets
abbrev pub set_in : List ℕ → Option (Key × ℕ)
set_in line = command_of line >>= set_by

-- what a text tries
unfoldable pub tried_by : List ℕ → Option (Key × ℕ)
tried_by text = line_of text >>= set_in

-- a setting takes a value
abbrev pub with_value : Settings → Key → ℕ → Settings
with_value settings keys.Measure value = record settings { measure = Some value }
with_value settings keys.Tight value = record settings { tight = Some value }
with_value settings keys.Loose value = record settings { loose = Some value }
with_value settings keys.Case value = record settings { case = Some value }
with_value settings keys.Wedge value = record settings { wedge = Some value }

-- with what a text tries
abbrev pub with_text : Settings → Option (Key × ℕ) → Option Settings
with_text settings None = None
with_text settings (Some (key, value)) = Some (with_value settings key value)

-- what texts try one after another, where each tries something: of one key the last counts
abbrev pub trial_from : Settings → List (Bor (List ℕ)) → Option Settings
trial_from settings [] = Some settings
trial_from settings (text ∷ texts) = with_text settings (tried_by text.now) >>= (λ more. trial_from more texts)

abbrev pub trial_of : List (Bor (List ℕ)) → Option Settings
trial_of texts = trial_from no_trial texts

-- a place where a text tries nothing, or else a later one
abbrev pub idle_or : ℕ → Option (Key × ℕ) → Option ℕ → Option ℕ
idle_or here None later = Some here
idle_or here (Some found) later = later

-- the place of the first text that tries nothing, where the first of them has this place
abbrev pub first_idle : ℕ → List (Bor (List ℕ)) → Option ℕ
first_idle here [] = None
first_idle here (text ∷ texts) = idle_or here (tried_by text.now) (first_idle (suc here) texts)

-- The refusal has the place of the first text that tries nothing; out of memory may come in place of any.
abbrev pub HasPlace : TrialFault → List (Bor (List ℕ)) → Type 0
HasPlace (fault.NoSetting place) texts = first_idle 0 texts ≡ Some place
HasPlace fault.NoMemory texts = Unit {0}

-- The first text has an equals sign.
abbrev pub HasLine : List (Bor (List ℕ)) → Type 0
HasLine [] = ⊥
HasLine (text ∷ texts) = line_of text.now ≢ None
