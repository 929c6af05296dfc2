-- What is known of a line by the definitions of the job.
use Rattle.std.specs.Prelude.{ℕ, ◌+◌, ◌*◌, Bool, ◌==◌, ℤ, pos, ◌+ℤ◌, ◌-ℤ◌, List, [], ◌∷◌, Option, Some, None}
use Rattle.std.specs.Prelude.{if◌then◌else◌, sum_by}
use Rattle.desk_ops.specs.declared.op.Symbol.{Symbol}
use Rattle.desk_lines.specs.declared.words.Word.{Word}
use Rattle.desk_lines.specs.Groups.{group_width}
use Rattle.desk_job.specs.Job.{Terms, SetLine, measure, widths, word_width, space_width, tight_space, has_added, spaces}
use Rattle.desk_job.specs.Job.{rest, fills, wedge_sum, line_fault}
use Rattle.desk_job.specs.Setting.{line_at, words_at}
use Rattle.view_galley.specs.Values.{LineValues}
use Rattle.view_galley.specs.declared.line.Next.{Next}

-- where a line stands in a copy: its words, whether it is to be filled, and the words after it in its paragraph
pub record Placed : Type 0 where
  pub words : List Word
  pub filled : Bool
  pub after : List Word

-- the line of the job that stands there
abbrev pub line_of : List Symbol → Placed → SetLine
line_of copy placed = line_at copy placed.words placed.filled

-- the words and spaces of a line, with the wedges at neutral
abbrev pub neutral_width : Terms → SetLine → ℕ
neutral_width terms line = sum_by (word_width terms) line.words + spaces terms line * space_width terms

-- the number that drives so many spaces, where there are some
abbrev pub sum_if : ℕ → ℤ → Option ℤ
sum_if spaces sum = if spaces == 0 then None else Some sum

-- what is free for a part of the next word: the measure less the words with a space after each, at tight
abbrev pub free : Terms → List (List Symbol) → ℤ
free terms ws = pos (measure terms) -ℤ (group_width (tight_space terms) (widths terms ws) +ℤ tight_space terms)

-- the first of the words after a line where so much is free, by how much it is wider than that, and what is free
abbrev pub next_at : ℤ → List Word → List ℤ → Option Next
next_at room [] found = None
next_at room (word ∷ after) [] = None
next_at room (word ∷ after) (width ∷ found) = Some (record { word = word; over = width -ℤ room; free = room })

-- what is known of the line of this number that stands there
abbrev pub values_of : Terms → List Symbol → ℕ → Placed → LineValues
values_of terms copy n placed =
    let line = line_of copy placed in
    record {
      number = n;
      words = placed.words;
      filled = placed.filled;
      added = has_added terms line;
      spaces = spaces terms line;
      width = neutral_width terms line;
      rest = rest terms line;
      fills = fills terms line;
      wedge_sum = sum_if (spaces terms line) (wedge_sum terms line);
      faults = line_fault terms n line;
      next = next_at (free terms line.words) placed.after (widths terms (words_at copy placed.after));
    }
