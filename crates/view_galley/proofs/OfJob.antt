-- The job by its galley.
use Rattle.std.proofs.Common.{◌≡◌, ℕ, ◌≤◌, List, [], ◌∷◌, length, refl, sym, ap, ◌∙◌, subst, arith, Option, Ok}
use Rattle.std.specs.List.{All, flat_map}
use Rattle.desk_ops.specs.declared.op.Symbol.{Symbol}
use Rattle.desk_ops.specs.declared.op.Key.{Key}
use Rattle.desk_signals.specs.declared.RibbonRow.{RibbonRow}
use Rattle.desk_wedge.specs.Wedge.{WedgeValues}
use Rattle.desk_case.specs.Case.{CaseValues}
use Rattle.desk_ribbon.specs.Ribbon.{head_row}
use Rattle.desk_lines.specs.Words.{most_symbols}
use Rattle.desk_job.specs.Job.{Terms, job, job_of, lacking, line_faults, lines, or_faults, rows_of, rows_or, terms_fault, terms_of, values_of}
use Rattle.desk_job.specs.declared.JobFault.{JobFault}
use Rattle.desk_job.specs.declared.terms.Values.{Values}
use Rattle.view_galley.specs.Values.{LineValues}
use Rattle.view_galley.specs.Galley.{Stands, galley_of, rows_of_line}
use Rattle.view_galley.proofs.Lines.{faults_are_of_job, rows_are_of_galley}
use Rattle.view_galley.proofs.Standing.{galley_stands}

rows_same : (a b : List RibbonRow) (faults : List JobFault) → (faults ≡ [] → a ≡ b) → rows_or a faults ≡ rows_or b faults
rows_same a b [] same = ap Ok (same refl)
rows_same a b (fault ∷ faults) same = refl

later_none : (first later : List JobFault) → or_faults first later ≡ [] → later ≡ []
later_none [] later none = none
later_none (fault ∷ faults) later none = absurd (let e : length (fault ∷ faults) ≡ 0 = ap length none in omega (arith, e))

-- a job whose terms go together, by the lines of its galley
by_lines : (terms : Terms) (copy : List Symbol) →
    rows_or (rows_of terms (lines terms copy)) (or_faults (lacking terms.case 0 copy) (line_faults terms 1 (lines terms copy)))
    ≡ rows_or (head_row ∷ flat_map (rows_of_line terms.case copy) (galley_of terms copy)) (or_faults (lacking terms.case 0 copy) (flat_map (λ (line : LineValues). line.faults) (galley_of terms copy)))
by_lines terms copy =
    rows_same (rows_of terms (lines terms copy)) (head_row ∷ flat_map (rows_of_line terms.case copy) (galley_of terms copy))
    (or_faults (lacking terms.case 0 copy) (line_faults terms 1 (lines terms copy)))
    (λ none. rows_are_of_galley terms copy (later_none (lacking terms.case 0 copy) (line_faults terms 1 (lines terms copy)) none))
    ∙ ap (λ (fs : List JobFault). rows_or (head_row ∷ flat_map (rows_of_line terms.case copy) (galley_of terms copy)) (or_faults (lacking terms.case 0 copy) fs))
    (sym (faults_are_of_job terms copy))

given_is : (copy : List Symbol) (case : CaseValues) (wedge : WedgeValues) (values : Values) → terms_fault (terms_of case wedge values) values ≡ [] →
    job_of copy case wedge (Ok values)
    ≡ rows_or (rows_of (terms_of case wedge values) (lines (terms_of case wedge values) copy))
    (or_faults (lacking case 0 copy) (line_faults (terms_of case wedge values) 1 (lines (terms_of case wedge values) copy)))
given_is copy case wedge values fits =
    let terms = terms_of case wedge values in
    ap (λ (fs : List JobFault). rows_or (rows_of terms (lines terms copy)) (or_faults fs (or_faults (lacking case 0 copy) (line_faults terms 1 (lines terms copy))))) fits

ends : (copy : List Symbol) (terms other : Terms) (lack missing : List JobFault) (found : List LineValues) → terms ≡ other → lack ≡ missing → found ≡ galley_of terms copy →
    rows_or (head_row ∷ flat_map (rows_of_line terms.case copy) found) (or_faults lack (flat_map (λ (line : LineValues). line.faults) found))
    ≡ rows_or (head_row ∷ flat_map (rows_of_line other.case copy) (galley_of other copy)) (or_faults missing (flat_map (λ (line : LineValues). line.faults) (galley_of other copy)))
ends copy terms other lack missing found same lacks are =
    ap (λ (l : List LineValues). rows_or (head_row ∷ flat_map (rows_of_line terms.case copy) l) (or_faults lack (flat_map (λ (line : LineValues). line.faults) l))) are
    ∙ (ap (λ (fs : List JobFault). rows_or (head_row ∷ flat_map (rows_of_line terms.case copy) (galley_of terms copy)) (or_faults fs (flat_map (λ (line : LineValues). line.faults) (galley_of terms copy)))) lacks
    ∙ ap (λ (t : Terms). rows_or (head_row ∷ flat_map (rows_of_line t.case copy) (galley_of t copy)) (or_faults missing (flat_map (λ (line : LineValues). line.faults) (galley_of t copy)))) same)

pub job_is : (copy : List Symbol) (settings : Key → Option ℕ) (case : CaseValues) (wedge : WedgeValues) (values : Values) (terms : Terms)
    (lack : List JobFault) (found : List LineValues) →
    Ok values ≡ values_of settings → terms ≡ terms_of case wedge values → terms_fault (terms_of case wedge values) values ≡ [] →
    lack ≡ lacking case 0 copy → found ≡ galley_of terms copy →
    job copy settings case wedge
    ≡ rows_or (head_row ∷ flat_map (rows_of_line terms.case copy) found) (or_faults lack (flat_map (λ (line : LineValues). line.faults) found))
job_is copy settings case wedge values terms lack found given is fits lacks are =
    ap (job_of copy case wedge) (sym given)
    ∙ (given_is copy case wedge values fits
    ∙ (by_lines (terms_of case wedge values) copy
    ∙ sym (ends copy terms (terms_of case wedge values) lack (lacking case 0 copy) found is lacks are)))

pub stand_is : (copy : List Symbol) (case : CaseValues) (wedge : WedgeValues) (values : Values) (terms : Terms) (found : List LineValues) →
    terms ≡ terms_of case wedge values → found ≡ galley_of terms copy → length copy ≤ most_symbols → All (Stands copy case) found
stand_is copy case wedge values terms found is are small =
    subst (λ (c : CaseValues). All (Stands copy c) found) (ap (λ (t : Terms). t.case) is)
    (subst (λ (l : List LineValues). All (Stands copy terms.case) l) (sym are) (galley_stands terms copy small))
