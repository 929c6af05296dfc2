-- What is reported of the bytes of a ribbon.
use Rattle.std.specs.Prelude.{◌≡◌, ℕ, Bool, List, Result, Ok, Err}
use Rattle.std.specs.Result.{is_ok}
use Rattle.desk_case.specs.Case.{CaseValues}
use Rattle.desk_units.specs.declared.Pica.{Pica}
use Rattle.desk_wedge.specs.Wedge.{WedgeValues}
use Rattle.view_ribbon.specs.declared.extent.Extent.{Extent}
use Rattle.view_ribbon.specs.declared.extent.Extent.TheVariants as extents
use Rattle.view_ribbon.specs.Casting.{Cast, IsOutcome}
use Rattle.view_ribbon.specs.Figures.{summary_text}
use Rattle.view_ribbon.specs.Lines.{ribbon_text}

-- the lines that rows cast, or their figures
abbrev pub extent_text : Pica → Extent → Cast → List ℕ
extent_text pica (extents.Lines shown) cast = ribbon_text pica shown cast
extent_text pica (extents.Figures pitch) cast = summary_text pica pitch cast.rows cast.lines

-- these, or the line of the first fault
abbrev pub outcome_text : Pica → Extent → Result Cast (List ℕ) → List ℕ
outcome_text pica extent (Ok cast) = extent_text pica extent cast
outcome_text pica extent (Err line) = line

-- this is reported of bytes, and they are a ribbon that is cast without a fault, or not
abbrev pub IsReported : List ℕ → CaseValues → WedgeValues → Extent → List ℕ → Bool → Type 0
IsReported bytes case wedge extent reported whole =
    (outcome : Result Cast (List ℕ)) × IsOutcome bytes case wedge outcome
    × (reported ≡ outcome_text wedge.pica extent outcome) × (whole ≡ is_ok outcome)
