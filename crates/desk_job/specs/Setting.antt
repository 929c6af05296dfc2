-- A line as the program finds it in the copy, and what it is set by.
use Rattle.std.specs.Prelude.{◌≡◌, ℕ, ℤ, pos, ◌≤◌, Bool, false, List, [], ◌∷◌, length, map, Some, Result, Ok, Err}
use Rattle.desk_ops.specs.declared.op.Symbol.{Symbol}
use Rattle.desk_lines.specs.declared.words.Word.{Word}
use Rattle.desk_lines.specs.Words.{spelled}
use Rattle.desk_units.specs.WedgeSum.{coarse_of, fine_of, pair_of}
use Rattle.desk_signals.specs.declared.RibbonRow.{RibbonRow}
use Rattle.desk_lines.specs.Groups.{FitsIn}
use Rattle.desk_job.specs.Job.{Terms, SetLine, measure, widths, tight_space, has_added, fills, wedge_sum, sum_fault}
use Rattle.desk_job.specs.Job.{line_fault, line_punches, rows_at}
use Rattle.desk_job.specs.declared.JobFault.{JobFault}
use Rattle.desk_job.specs.declared.setting.Setting.{Setting}

-- words by their places in a copy
abbrev pub words_at : List Symbol → List Word → List (List Symbol)
words_at copy places = map (spelled copy) places

abbrev pub line_at : List Symbol → List Word → Bool → SetLine
line_at copy places filled = record { words = words_at copy places; filled = filled }

-- The word stands in the copy.
pub record IsWord (copy : List Symbol) (word : Word) : Type 0 where
  pub order : word.from ≤ word.to
  pub within : word.to ≤ length copy

-- what the line is set by
pub record IsSetting (terms : Terms) (line : SetLine) (setting : Setting) : Type 0 where
  pub added : setting.added ≡ has_added terms line
  pub fills : setting.fills.items ≡ fills terms line
  pub number : length setting.fills.items ≤ length terms.case.fill
  pub sum : pair_of (wedge_sum terms line) ≡ Some (coarse_of setting.sum, fine_of setting.sum)

-- what the line is set by, or its fault
abbrev pub Sets : Terms → ℕ → SetLine → Result Setting JobFault → Type 0
Sets terms n line (Ok setting) = IsSetting terms line setting × (line_fault terms n line ≡ [])
Sets terms n line (Err fault) = line_fault terms n line ≡ fault ∷ []

-- A line that is not to be filled has a space, and fits in the measure at tight.
abbrev pub Fits : Terms → SetLine → Type 0
Fits terms line =
    line.filled ≡ false → (2 ≤ length line.words)
    × FitsIn (tight_space terms) (pos (measure terms)) (widths terms line.words)

-- the wedge sum that sets a line with so many spaces, where they take up the rest at this number, or the line's fault
abbrev pub SetsAt : Terms → ℕ → Bool → ℕ → ℤ → Result ℕ JobFault → Type 0
SetsAt terms n filled spaces sum (Ok found) =
    (pair_of sum ≡ Some (coarse_of found, fine_of found)) × (sum_fault terms n filled spaces sum ≡ [])
SetsAt terms n filled spaces sum (Err fault) = sum_fault terms n filled spaces sum ≡ fault ∷ []

-- the rows of words that are set so
abbrev pub set_rows : Terms → List (List Symbol) → Setting → List RibbonRow
set_rows terms ws setting =
    rows_at (line_punches terms.case ws setting.added setting.fills.items)
    (Some (coarse_of setting.sum, fine_of setting.sum))
