-- The rows of lines whose cells the case has, cast from the last to the first, give these lines again.
use Rattle.std.proofs.Common.{◌≡◌, ℕ, suc, ◌+◌, List, [], ◌∷◌, ◌++◌, map, length, refl, Some, Ok, Option, append_assoc, arith}
use Rattle.std.specs.List.{flat_map}
use Rattle.std.proofs.lemmas.List.{append-nil}
use Rattle.desk_units.specs.WedgeSum.{sum_at}
use Rattle.desk_wedge.specs.Wedge.{WedgeValues}
use Rattle.desk_case.specs.Case.{CaseValues}
use Rattle.desk_signals.specs.declared.RibbonRow.{RibbonRow}
use Rattle.desk_signals.specs.declared.RibbonRow.TheVariants.{Coarse, FineOut}
use Rattle.desk_ribbon.specs.Ribbon.{punch_row, line_rows, ribbon_rows}
use Rattle.desk_ribbon.specs.declared.Punch.{Punch}
use Rattle.desk_ribbon.specs.declared.PunchLine.{PunchLine}
use Rattle.desk_caster.specs.Caster.{State, Line, idle, cast_rows, cast_matrix, cast, all_sent}
use Rattle.desk_caster.specs.Lines.{HasAll, LinesHaveAll, line_cast}
use Rattle.desk_caster.specs.declared.CastMatrix.{CastMatrix}

-- the matrices of a line that is cast at these positions
abbrev pub casts : CaseValues → WedgeValues → ℕ → ℕ → List Punch → List CastMatrix
casts case wedge coarse fine punches = map (λ punch. cast_matrix case wedge (sum_at coarse fine) punch.cell punch.s) punches

-- a caster with a line in progress
abbrev pub at_line : Option ℕ → ℕ → ℕ → ℕ → List CastMatrix → List Line → State
at_line position started coarse fine matrices sent =
    record { fine = position; line = Some (record { started = started; coarse = coarse; fine = fine; matrices = matrices }); sent = sent }

-- matrices that the case has are cast onto the prefix of the line in progress
pub cells_cast : (case : CaseValues) (wedge : WedgeValues) (place after : ℕ) (punches : List Punch) (rest : List RibbonRow)
    (position : Option ℕ) (started coarse fine : ℕ) (matrices : List CastMatrix) (sent : List Line) →
    HasAll case punches → after ≡ place + length punches →
    cast_rows case wedge after rest ≡ Ok (at_line position started coarse fine matrices sent) →
    cast_rows case wedge place (map punch_row punches ++ rest)
    ≡ Ok (at_line position started coarse fine (casts case wedge coarse fine punches ++ matrices) sent)
cells_cast case wedge place after [] rest position started coarse fine matrices sent has here before =
    let e : place ≡ after = omega arith in rw e before
cells_cast case wedge place after (punch ∷ punches) rest position started coarse fine matrices sent has here before =
    let e : after ≡ suc place + length punches = omega arith in
    rw (cells_cast case wedge (suc place) after punches rest position started coarse fine matrices sent has.1 e before, has.0) refl

-- the caster after the rows of these lines, the first of which stands at this place
abbrev pub after_lines : {A : Type 0} → CaseValues → WedgeValues → ℕ → List (PunchLine A) → State
after_lines case wedge place [] = idle
after_lines case wedge place (line ∷ lines) =
    at_line (Some line.fine) (place + length line.matrices) line.coarse line.fine
    (casts case wedge line.coarse line.fine line.matrices) (map (line_cast case wedge) lines)

-- the next FineOut sends the first of them out
pub all_lines_sent : {A : Type 0} (case : CaseValues) (wedge : WedgeValues) (place : ℕ) (lines : List (PunchLine A)) →
    all_sent (after_lines case wedge place lines).line (after_lines case wedge place lines).sent
    ≡ map (line_cast case wedge) lines
all_lines_sent case wedge place [] = refl
all_lines_sent case wedge place (line ∷ lines) = refl

pub lines_cast : {A : Type 0} (case : CaseValues) (wedge : WedgeValues) (place : ℕ) (lines : List (PunchLine A)) → LinesHaveAll case lines →
    cast_rows case wedge place (flat_map line_rows lines) ≡ Ok (after_lines case wedge place lines)
lines_cast case wedge place [] has = refl
lines_cast case wedge place (line ∷ lines) has =
    let after = place + length line.matrices in
    let tail : cast_rows case wedge after (Coarse line.coarse ∷ FineOut line.fine ∷ flat_map line_rows lines)
    ≡ Ok (at_line (Some line.fine) after line.coarse line.fine [] (map (line_cast case wedge) lines)) =
    rw (lines_cast case wedge (suc (suc after)) lines has.1, all_lines_sent case wedge (suc (suc after)) lines) refl in
    let whole = cells_cast case wedge place after line.matrices (Coarse line.coarse ∷ FineOut line.fine ∷ flat_map line_rows lines)
    (Some line.fine) after line.coarse line.fine [] (map (line_cast case wedge) lines) has.0 refl tail in
    rw append_assoc (rw (append-nil (casts case wedge line.coarse line.fine line.matrices)) at whole)

pub lines_come_back : {A : Type 0} (case : CaseValues) (wedge : WedgeValues) (lines : List (PunchLine A)) → LinesHaveAll case lines →
    cast case wedge (ribbon_rows lines) ≡ Ok (map (line_cast case wedge) lines)
lines_come_back case wedge lines has =
    rw (lines_cast case wedge 1 lines has, all_lines_sent case wedge 1 lines) refl
