-- What a reader of the cast lines sees, and how short the lines are.
use Rattle.std.specs.Prelude.{◌≡◌, ℕ, ◌*◌, if◌then◌else◌, pos, ◌-ℤ◌, ◌≤ℤ◌, ◌<ℤ◌, List, [], ◌∷◌, ◌++◌, Option, Ok}
use Rattle.std.specs.List.{flat_map}
use Rattle.desk_ops.specs.declared.op.Symbol.{Symbol}
use Rattle.desk_ops.specs.declared.op.Key.{Key}
use Rattle.desk_ops.specs.Op.{space}
use Rattle.desk_units.specs.Widths.{step}
use Rattle.desk_signals.specs.declared.RibbonRow.{RibbonRow}
use Rattle.desk_wedge.specs.Wedge.{WedgeValues}
use Rattle.desk_case.specs.Case.{CaseValues}
use Rattle.desk_caster.specs.Caster.{Line, cast}
use Rattle.desk_caster.specs.Lines.{reading}
use Rattle.desk_caster.specs.Reading.{IsRibbon}
use Rattle.desk_job.specs.Job.{Terms, SetLine, measure, spaces, has_added, lines, terms_of, values_of}
use Rattle.desk_job.specs.declared.terms.Values.{Values}

-- words with a space before each
abbrev pub spaced : List (List Symbol) → List Symbol
spaced words = flat_map (λ word. space ∷ word) words

-- words joined by one space
abbrev pub joined : List (List Symbol) → List Symbol
joined [] = []
joined (word ∷ words) = word ++ spaced words

-- the text of a line: its words, and one space more where one was added
abbrev pub text : Terms → SetLine → List Symbol
text terms line = joined line.words ++ (if has_added terms line then space ∷ [] else [])

-- the cast line is this line: it reads so, and is short of the measure by less than a step for each space
pub record IsLine (terms : Terms) (line : SetLine) (got : Line) : Type 0 where
  pub reads : reading got.matrices ≡ text terms line
  pub not_over : pos 0 ≤ℤ (pos (measure terms) -ℤ got.total)
  pub short : (pos (measure terms) -ℤ got.total) <ℤ pos (step * spaces terms line)

-- The cast lines are these lines, one by one.
abbrev pub AreLines : Terms → List SetLine → List Line → Type 0
AreLines terms [] [] = Unit {0}
AreLines terms (line ∷ lines) (got ∷ more) = IsLine terms line got × AreLines terms lines more
AreLines terms [] (got ∷ more) = ⊥
AreLines terms (line ∷ lines) [] = ⊥

-- the bytes are a ribbon, and its rows cast with the same case and wedge are these lines, one by one
pub record CastsLines (terms : Terms) (ls : List SetLine) (bytes : List ℕ) : Type 0 where
  pub rows : List RibbonRow
  pub is : IsRibbon bytes rows
  pub got : List Line
  pub casts : cast terms.case terms.wedge rows ≡ Ok got
  pub are : AreLines terms ls got

-- the bytes are a ribbon, and its rows cast with the same case and wedge are the copy line by line
pub record CastsCopy (copy : List Symbol) (settings : Key
    → Option ℕ) (case : CaseValues) (wedge : WedgeValues) (bytes : List ℕ) : Type 0 where
  pub values : Values
  pub given : values_of settings ≡ Ok values
  pub rows : List RibbonRow
  pub is : IsRibbon bytes rows
  pub got : List Line
  pub casts : cast case wedge rows ≡ Ok got
  pub are : AreLines (terms_of case wedge values) (lines (terms_of case wedge values) copy) got
