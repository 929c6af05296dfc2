-- The lines of a copy, one by one.
use Rattle.std.specs.Prelude.{◌≡◌, ℕ, suc, ◌+◌, ◌-◌, ◌≤◌, Bool, not, ◌||◌, ◌==◌, pos, List, [], ◌∷◌, ◌++◌, length, drop}
use Rattle.std.specs.Prelude.{Option, Ok, IfSome, option_and_then}
use Rattle.std.specs.List.{All, flat_map}
use Rattle.desk_ops.specs.declared.op.Symbol.{Symbol}
use Rattle.desk_ops.specs.declared.op.Key.{Key}
use Rattle.desk_lines.specs.declared.words.Word.{Word}
use Rattle.desk_lines.specs.declared.groups.Group.{Group}
use Rattle.desk_lines.specs.Words.{words_of}
use Rattle.desk_lines.specs.Groups.{groups_of}
use Rattle.desk_wedge.specs.Wedge.{WedgeValues}
use Rattle.desk_case.specs.Case.{CaseValues}
use Rattle.desk_ribbon.specs.declared.Punch.{Punch}
use Rattle.desk_signals.specs.declared.RibbonRow.{RibbonRow}
use Rattle.desk_units.specs.WedgeSum.{pair_of}
use Rattle.desk_job.specs.declared.JobFault.{JobFault}
use Rattle.desk_job.specs.Job.{Terms, measure, tight_space, widths, lacking, terms_of, terms_fault}
use Rattle.desk_job.specs.Job.{values_of as given_values, line_punches, rows_at, or_faults}
use Rattle.desk_job.specs.Making.{group_words}
use Rattle.desk_job.specs.Setting.{IsWord, words_at}
use Rattle.view_galley.specs.Line.{Placed, values_of}
use Rattle.view_galley.specs.Values.{GalleyValues, LineValues}

-- where the lines of groups of a paragraph's words stand, the last of which is the last of the paragraph
abbrev pub placed_at : List Word → List Group → List Placed
placed_at words [] = []
placed_at words (group ∷ groups) =
    record {
      words = group_words words group;
      filled = (length groups == 0) || (group.to - group.from == 1);
      after = drop group.to words;
    } ∷ placed_at words groups

-- where the lines of a paragraph stand
abbrev pub placed_in : Terms → List Symbol → List Word → List Placed
placed_in terms copy words =
    placed_at words (groups_of (tight_space terms) (pos (measure terms)) (widths terms (words_at copy words)))

-- where the lines of paragraphs stand
abbrev pub all_placed : Terms → List Symbol → List (List Word) → List Placed
all_placed terms copy found = flat_map (placed_in terms copy) found

-- what is known of lines, the first of which has this number
abbrev pub numbered : Terms → List Symbol → ℕ → List Placed → List LineValues
numbered terms copy n [] = []
numbered terms copy n (placed ∷ more) = values_of terms copy n placed ∷ numbered terms copy (suc n) more

-- the lines of a copy
abbrev pub galley_of : Terms → List Symbol → List LineValues
galley_of terms copy = numbered terms copy 1 (all_placed terms copy (words_of copy))

-- lines, and after them those that stand at these places
abbrev pub with_lines : Terms → List Symbol → List LineValues → List Placed → List LineValues
with_lines terms copy done more = done ++ numbered terms copy (length done + 1) more

-- the galley of a copy, by settings that have values and go with the case and the wedge
pub record IsGalley (copy : List Symbol) (settings : Key
    → Option ℕ) (case : CaseValues) (wedge : WedgeValues) (galley : GalleyValues) : Type 0 where
  pub wedge_is : galley.wedge ≡ wedge
  pub given : given_values settings ≡ Ok galley.values
  pub terms : galley.terms ≡ terms_of case wedge galley.values
  pub fits : terms_fault galley.terms galley.values ≡ []
  pub lacking : galley.lacking ≡ lacking case 0 copy
  pub lines : galley.lines ≡ galley_of galley.terms copy

-- The line has words, which stand in the copy as the word after them does, and uses no fill that the case lacks.
pub record Stands (copy : List Symbol) (case : CaseValues) (line : LineValues) : Type 0 where
  pub some : 1 ≤ length line.words
  pub words : All (IsWord copy) line.words
  pub fills : length line.fills ≤ length case.fill
  pub next : IfSome line.next (λ next. IsWord copy next.word)

-- The line has a fault.
abbrev pub is_faulty : LineValues → Bool
is_faulty line = not (length line.faults == 0)

-- the faults of a galley: the symbols that the case lacks, or else those of the lines
abbrev pub galley_faults : GalleyValues → List JobFault
galley_faults galley = or_faults galley.lacking (flat_map (λ line. line.faults) galley.lines)

-- the matrices of a line
abbrev pub matrices_of : CaseValues → List Symbol → LineValues → List Punch
matrices_of case copy line = line_punches case (words_at copy line.words) line.added line.fills

-- its rows: the matrices, and the positions of its wedge sum
abbrev pub rows_of_line : CaseValues → List Symbol → LineValues → List RibbonRow
rows_of_line case copy line = rows_at (matrices_of case copy line) (option_and_then pair_of line.wedge_sum)
