-- What is found of a copy, line by line.
use Rattle.std.specs.Prelude.{◌≡◌, ℕ, ◌+◌, ◌-◌, ◌^◌, ◌<◌, ◌≤◌, ◌||◌, ◌==◌, List, [], ◌∷◌, ◌++◌, length, take, drop}
use Rattle.std.specs.List.{All, AllByRecursion, flat_map}
use Rattle.desk_ops.specs.declared.op.Symbol.{Symbol}
use Rattle.desk_signals.specs.declared.RibbonRow.{RibbonRow}
use Rattle.desk_lines.specs.Words.{most_words}
use Rattle.desk_lines.specs.declared.words.Word.{Word}
use Rattle.desk_lines.specs.declared.groups.Group.{Group}
use Rattle.desk_job.specs.Job.{Terms, SetLine, line_rows, line_faults, lines_of_words}
use Rattle.desk_job.specs.Setting.{Fits, IsWord, words_at, line_at}
use Rattle.desk_job.specs.declared.JobFault.{JobFault}

-- the number of the next line, the faults found, and the rows punched as long as there is no fault
pub record Found : Type 0 where
  pub next : ℕ
  pub faults : List JobFault
  pub rows : List RibbonRow

-- what is found of these lines has come to what was found before
pub record Adds (terms : Terms) (ls : List SetLine) (old new : Found) : Type 0 where
  pub numbered : new.next ≡ old.next + length ls
  pub faulted : new.faults ≡ old.faults ++ line_faults terms old.next ls
  pub punched : new.faults ≡ [] → new.rows ≡ old.rows ++ flat_map (line_rows terms) ls

-- The lines can be added: each that is not to be filled fits, the ribbon gets fewer than 2 ^ 32 rows, and each line a
-- number.
pub record CanAdd (terms : Terms) (ls : List SetLine) (old : Found) : Type 0 where
  pub fit : AllByRecursion (Fits terms) ls
  pub rows : old.faults ≡ [] → length old.rows + length (flat_map (line_rows terms) ls) + 1 < 2 ^ 32
  pub numbers : old.next + length ls < 2 ^ 32

-- the lines of a paragraph, by the places of its words
abbrev pub paragraph_lines : Terms → List Symbol → List Word → List SetLine
paragraph_lines terms copy places = lines_of_words terms (words_at copy places)

-- the lines of paragraphs
abbrev pub all_lines : Terms → List Symbol → List (List Word) → List SetLine
all_lines terms copy found = flat_map (paragraph_lines terms copy) found

-- the words of a group
abbrev pub group_words : List Word → Group → List Word
group_words words group = take (group.to - group.from) (drop group.from words)

-- the lines of groups, the last of which is the last of its paragraph
abbrev pub lines_at : List Symbol → List Word → List Group → List SetLine
lines_at copy words [] = []
lines_at copy words (group ∷ groups) =
    line_at copy (group_words words group)
    ((length groups == 0) || (group.to - group.from == 1)) ∷ lines_at copy words groups

-- The group is of some of so many words.
pub record IsRange (words : ℕ) (group : Group) : Type 0 where
  pub order : group.from < group.to
  pub within : group.to ≤ words

-- words of a copy of a paragraph's
pub record AreWordsOf (copy : List Symbol) (words : List Word) : Type 0 where
  pub number : length words ≤ most_words
  pub each : All (IsWord copy) words
