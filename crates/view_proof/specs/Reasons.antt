-- Why there is no galley, with what it takes to mend it: all the settings that are missing, or both numbers.
use Rattle.std.specs.Prelude.{◌≡◌, ℕ, not, ◌==◌, if◌then◌else◌, List, [], ◌∷◌, ◌++◌, length, codes, Option, Some, None}
use Rattle.std.specs.Prelude.{Result, Ok, Err, MatchResult}
use Rattle.std.specs.Fmt.{decimal}
use Rattle.desk_ops.specs.Words.{key_words}
use Rattle.desk_ops.specs.declared.op.Key.{Key}
use Rattle.desk_ops.specs.declared.op.Key.TheVariants as keys
use Rattle.desk_replica.specs.declared.settings.Settings.{Settings}
use Rattle.desk_case.specs.Case.{CaseValues}
use Rattle.desk_wedge.specs.Wedge.{WedgeValues}
use Rattle.desk_job.specs.Answer.{by_key}
use Rattle.desk_job.specs.Job.{values_of}
use Rattle.desk_job.specs.declared.JobFault.{JobFault}
use Rattle.desk_job.specs.declared.terms.Values.{Values}
use Rattle.view_proof.specs.Faults.{cause_text}
use Rattle.view_proof.specs.declared.reasons.NoGalley.{NoGalley}
use Rattle.view_proof.specs.declared.reasons.NoGalley.TheVariants as reasons
use Rattle.view_proof.specs.declared.reasons.OtherNumber.{OtherNumber}
use Rattle.view_proof.specs.declared.reasons.OtherNumber.TheVariants as others

-- ---- settings that are missing

-- a key, where it has no value
abbrev pub missing_if : Option ℕ → Key → List Key
missing_if None key = key ∷ []
missing_if (Some value) key = []

-- the keys that have no value
abbrev pub missing : (Key → Option ℕ) → List Key
missing settings =
    missing_if (settings keys.Measure) keys.Measure
    ++ (missing_if (settings keys.Tight) keys.Tight
    ++ (missing_if (settings keys.Loose) keys.Loose
    ++ (missing_if (settings keys.Case) keys.Case ++ missing_if (settings keys.Wedge) keys.Wedge)))

-- Where all keys have values none is missing; else the least that has none is the first of the missing.
abbrev pub MissingBegin : Type 0
MissingBegin =
    (settings : Key → Option ℕ)
    → MatchResult (values_of settings) (λ _. missing settings ≡ []) (λ key. (more : List Key)
    × (missing settings ≡ key ∷ more))

-- what stands before a name that so many others follow
abbrev pub before_name : ℕ → List ℕ
before_name more = if more == 0 then codes " and " else codes ", "

-- the names behind the first
abbrev pub more_names : List Key → List ℕ
more_names [] = []
more_names (key ∷ more) = before_name (length more) ++ (key_words key ++ more_names more)

abbrev pub one_text : Key → List ℕ
one_text key = codes "the setting " ++ (key_words key ++ codes " has no value")

abbrev pub several_text : Key → List Key → List ℕ
several_text key more = codes "the settings " ++ (key_words key ++ (more_names more ++ codes " have no value"))

-- one setting, or several
abbrev pub missing_text : List Key → List ℕ
missing_text [] = []
missing_text (key ∷ more) = if length more == 0 then one_text key else several_text key more

-- ---- a number that is another

-- the number of the case that is not the setting's, or else that of the wedge
abbrev pub other_of : CaseValues → WedgeValues → Values → Option OtherNumber
other_of case wedge values =
    if not (values.case == case.number) then Some (others.Case values.case case.number)
    else if not (values.wedge == wedge.number) then Some (others.Wedge values.wedge wedge.number)
    else None

abbrev pub other_if : CaseValues → WedgeValues → Result Values Key → Option OtherNumber
other_if case wedge (Err key) = None
other_if case wedge (Ok values) = other_of case wedge values

-- where all settings have values
abbrev pub other_number : (Key → Option ℕ) → CaseValues → WedgeValues → Option OtherNumber
other_number settings case wedge = other_if case wedge (values_of settings)

-- both numbers, of a setting and of what it names
abbrev pub is_text : ℕ → List ℕ
is_text set = codes " is " ++ decimal set

abbrev pub has_text : ℕ → List ℕ
has_text number = codes " has the number " ++ decimal number

abbrev pub set_text : (name : List ℕ) → (set : ℕ) → List ℕ
set_text name set = codes "the setting " ++ (name ++ is_text set)

abbrev pub number_text : (name : List ℕ) → (number : ℕ) → List ℕ
number_text name number = codes ", and the " ++ (name ++ has_text number)

abbrev pub numbers_text : (name : List ℕ) → (set number : ℕ) → List ℕ
numbers_text name set number = set_text name set ++ number_text name number

abbrev pub other_text : OtherNumber → List ℕ
other_text (others.Case set number) = numbers_text (codes "case") set number
other_text (others.Wedge set number) = numbers_text (codes "wedge") set number

-- ---- why there is no galley

abbrev pub with_values : Option OtherNumber → JobFault → NoGalley
with_values (Some other) fault = reasons.Other other
with_values None fault = reasons.Fault fault

abbrev pub by_given : Settings → CaseValues → WedgeValues → JobFault → Result Values Key → NoGalley
by_given settings case wedge fault (Err key) = reasons.Missing settings
by_given settings case wedge fault (Ok values) = with_values (other_of case wedge values) fault

-- the settings that are missing, or else the number that is another, or else the fault
abbrev pub why_none : Settings → CaseValues → WedgeValues → JobFault → NoGalley
why_none settings case wedge fault = by_given settings case wedge fault (values_of (by_key settings))

abbrev pub reason_text : NoGalley → List ℕ
reason_text (reasons.Missing settings) = missing_text (missing (by_key settings))
reason_text (reasons.Other other) = other_text other
reason_text (reasons.Fault fault) = cause_text fault
