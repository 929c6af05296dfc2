-- The ribbon of a job, cast, is the copy line by line.
use Rattle.std.proofs.Common.{◌≡◌, ℕ, ◌≤◌, List, [], ◌∷◌, map, length, refl, sym, ap, ◌∙◌, subst, arith, Option, Result, Ok, Err}
use Rattle.std.specs.Prelude.{IfOk}
use Rattle.desk_ops.specs.declared.op.Symbol.{Symbol}
use Rattle.desk_ops.specs.declared.op.Key.{Key}
use Rattle.desk_signals.specs.declared.RibbonRow.{RibbonRow}
use Rattle.desk_wedge.specs.Wedge.{WedgeValues}
use Rattle.desk_case.specs.Case.{CaseValues}
use Rattle.desk_ribbon.specs.Ribbon as ribbon
use Rattle.desk_caster.specs.Caster.{cast}
use Rattle.desk_caster.specs.Lines.{line_cast}
use Rattle.desk_caster.proofs.CastLaw.{lines_come_back}
use Rattle.desk_lines.specs.Words.{most_symbols}
use Rattle.desk_job.specs.Job.{Terms, lines, line_faults, lacking, rows_of, rows_or, or_faults, terms_of, values_of}
use Rattle.desk_job.specs.Terms.{IsUsable}
use Rattle.desk_job.specs.Answer.{IsMade, set_copy}
use Rattle.desk_job.specs.Reading.{CastsCopy, CastsLines}
use Rattle.desk_job.specs.declared.JobFault.{JobFault}
use Rattle.desk_job.specs.declared.terms.Values.{Values}
use Rattle.desk_job.proofs.Bounds.{copy_few}
use Rattle.desk_job.proofs.SetLaws.{lines_punched}
use Rattle.desk_job.proofs.NoFaults.{copy_can_be_set}

one_fault : (fault : JobFault) (faults : List JobFault) → (fault ∷ faults) ≡ [] → ⊥
one_fault fault faults none = let e : length (fault ∷ faults) ≡ 0 = ap length none in omega (arith, e)

no_faults : (bytes : List ℕ) (rows : List RibbonRow) (faults : List JobFault) → IsMade bytes (rows_or rows faults) → (faults ≡ []) × (bytes ≡ ribbon.ribbon rows)
no_faults bytes rows [] made = (refl, made)
no_faults bytes rows (fault ∷ faults) made = absurd made

neither_list : (a b : List JobFault) → or_faults a b ≡ [] → (a ≡ []) × (b ≡ [])
neither_list [] b none = (refl, none)
neither_list (fault ∷ faults) b none = absurd (one_fault fault faults none)

comes_back : (terms : Terms) (copy : List Symbol) (bytes : List ℕ) → IsUsable terms → length copy ≤ most_symbols →
    lacking terms.case 0 copy ≡ [] → line_faults terms 1 (lines terms copy) ≡ [] → bytes ≡ ribbon.ribbon (rows_of terms (lines terms copy)) →
    CastsLines terms (lines terms copy) bytes
comes_back terms copy bytes usable small known none is =
    let ls = lines terms copy in
    let set = lines_punched terms ls usable.case (copy_can_be_set terms copy usable known none) in
    let few = (copy_few terms copy usable).rows in
    let same : ribbon.ribbon_rows set.punched ≡ rows_of terms ls = ap (λ (l : List RibbonRow). ribbon.head_row ∷ l) set.rows in
    record {
      rows = rows_of terms ls;
      is = record { is = is; number = omega (arith, few, small); lawful = ((omega arith, omega arith), set.lawful) };
      got = map (line_cast terms.case terms.wedge) set.punched;
      casts = ap (cast terms.case terms.wedge) (sym same) ∙ lines_come_back terms.case terms.wedge set.punched set.have;
      are = set.read;
    }

-- Bytes that are the ribbon of a copy by its terms, cast, are the copy.
pub set_comes : (terms : Terms) (copy : List Symbol) (bytes : List ℕ) → IsUsable terms → length copy ≤ most_symbols → IsMade bytes (set_copy terms copy) →
    CastsLines terms (lines terms copy) bytes
set_comes terms copy bytes usable small made =
    let none = no_faults bytes (rows_of terms (lines terms copy)) (or_faults (lacking terms.case 0 copy) (line_faults terms 1 (lines terms copy))) made in
    let parts = neither_list (lacking terms.case 0 copy) (line_faults terms 1 (lines terms copy)) none.0 in
    comes_back terms copy bytes usable small parts.0 parts.1 none.1

-- and so where the terms are those of a job's settings
pub job_comes : (copy : List Symbol) (settings : Key → Option ℕ) (case : CaseValues) (wedge : WedgeValues) (values : Values) (terms : Terms) (bytes : List ℕ) →
    Ok values ≡ values_of settings → terms ≡ terms_of case wedge values → CastsLines terms (lines terms copy) bytes →
    CastsCopy copy settings case wedge bytes
job_comes copy settings case wedge values terms bytes given is comes =
    let lines_come = subst (λ (t : Terms). CastsLines t (lines t copy) bytes) is comes in
    record { values = values; given = sym given; rows = lines_come.rows; is = lines_come.is; got = lines_come.got; casts = lines_come.casts; are = lines_come.are }

pub each_ok : {A E : Type 0} (P Q : A → Type 0) (r : Result A E) → ((a : A) → P a → Q a) → IfOk r P → IfOk r Q
each_ok P Q (Ok a) f p = f a p
each_ok P Q (Err e) f p = tt
