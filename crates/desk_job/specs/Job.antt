-- What a ribbon is made of, and why there may be none.
use Rattle.std.specs.Prelude.{ℕ, suc, ◌+◌, ◌-◌, ◌*◌, Bool, true, false, not, if◌then◌else◌, ◌&&◌, ◌||◌, ◌==◌, nat_lt}
use Rattle.std.specs.Prelude.{is_some, ℤ, pos, ◌+ℤ◌, ◌-ℤ◌, int_le, int_lt, List, [], ◌∷◌, ◌++◌, map, length, replicate}
use Rattle.std.specs.Prelude.{take, drop, sum_by, Option, Some, None, Result, Ok, Err}
use Rattle.std.specs.List.{flat_map, zip}
use Rattle.desk_ops.specs.declared.op.Symbol.{Symbol}
use Rattle.desk_ops.specs.declared.op.Key.{Key}
use Rattle.desk_ops.specs.declared.op.Key.TheVariants as key
use Rattle.desk_units.specs.Widths.{measure_width}
use Rattle.desk_units.specs.WedgeSum.{greatest, pair_of, widening}
use Rattle.desk_signals.specs.declared.Cell.{Cell}
use Rattle.desk_signals.specs.declared.RibbonRow.{RibbonRow}
use Rattle.desk_signals.specs.declared.RibbonRow.TheVariants.{Coarse, FineOut}
use Rattle.desk_wedge.specs.Wedge.{WedgeValues}
use Rattle.desk_case.specs.Case.{CaseValues, cell_of}
use Rattle.desk_case.specs.File.{is_descending, units_of_cells}
use Rattle.desk_ops.specs.Op.{is_line_feed, is_space}
use Rattle.desk_lines.specs.Words.{paragraphs, words}
use Rattle.desk_lines.specs.Groups.{group_width, groups}
use Rattle.desk_justify.specs.Filled.{fills_of, taken}
use Rattle.desk_justify.specs.Positions.{sum_of}
use Rattle.desk_ribbon.specs.Ribbon.{head_row, punch_row}
use Rattle.desk_ribbon.specs.declared.Punch.{Punch}
use Rattle.desk_caster.specs.Caster.{row_width}
use Rattle.desk_job.specs.declared.terms.Values.{Values}
use Rattle.desk_job.specs.declared.JobFault.{JobFault}
use Rattle.desk_job.specs.declared.JobFault.TheVariants.{MissingSetting, OtherCase, OtherWedge, Crossed, FillOrder}
use Rattle.desk_job.specs.declared.JobFault.TheVariants.{SpaceVanishes, NoMatrix, TooWide, TooLoose, CannotFill}

-- what a line is set by: the case, the wedge, the measure in points, and the least and the greatest wedge sum
pub record Terms : Type 0 where
  pub case : CaseValues
  pub wedge : WedgeValues
  pub points : ℕ
  pub tight : ℕ
  pub loose : ℕ

-- the words of a line, and whether it is to be filled
pub record SetLine : Type 0 where
  pub words : List (List Symbol)
  pub filled : Bool

-- ---- widths, in atoms

abbrev pub measure : Terms → ℕ
measure terms = measure_width terms.points terms.wedge.pica

abbrev pub cell_width : WedgeValues → Option Cell → ℕ
cell_width wedge None = 0
cell_width wedge (Some cell) = row_width wedge cell.row

-- a symbol of the case; one that the case lacks has no width
abbrev pub symbol_width : Terms → Symbol → ℕ
symbol_width terms symbol = cell_width terms.wedge (cell_of terms.case symbol)

abbrev pub word_width : Terms → List Symbol → ℕ
word_width terms word = sum_by (symbol_width terms) word

abbrev pub widths : Terms → List (List Symbol) → List ℤ
widths terms ws = map (λ word. pos (word_width terms word)) ws

-- a space with the wedges at neutral
abbrev pub space_width : Terms → ℕ
space_width terms = row_width terms.wedge terms.case.space.row

-- a space at the wedge sum tight
abbrev pub tight_space : Terms → ℤ
tight_space terms = pos (space_width terms) +ℤ widening terms.tight

abbrev pub widths_of : WedgeValues → List Cell → List ℤ
widths_of wedge cells = map (λ cell. pos (row_width wedge cell.row)) cells

abbrev pub fill_widths : Terms → List ℤ
fill_widths terms = widths_of terms.wedge terms.case.fill

-- ---- the lines of a copy

-- the list cut into parts of these sizes
abbrev pub cut : {A : Type 0} → List ℕ → List A → List (List A)
cut [] xs = []
cut (size ∷ sizes) xs = take size xs ∷ cut sizes (drop size xs)

-- The last group of a paragraph, and each group of one word, is to be filled.
abbrev pub marked : List (List (List Symbol)) → List SetLine
marked [] = []
marked (group ∷ []) = record { words = group; filled = true } ∷ []
marked (group ∷ next ∷ more) = record { words = group; filled = length group == 1 } ∷ marked (next ∷ more)

-- words in groups, each of which is set in one line
abbrev pub lines_of_words : Terms → List (List Symbol) → List SetLine
lines_of_words terms ws = marked (cut (groups (tight_space terms) (pos (measure terms)) (widths terms ws)) ws)

-- the lines of each paragraph, one paragraph after the other
abbrev pub lines : Terms → List Symbol → List SetLine
lines terms copy = flat_map (λ paragraph. lines_of_words terms (words paragraph)) (paragraphs copy)

-- ---- one line

-- whether one space is added after the words: a line that is to be filled has room for it at tight
abbrev pub has_added : Terms → SetLine → Bool
has_added terms line =
    line.filled && int_le (group_width (tight_space terms) (widths terms line.words) +ℤ tight_space terms)
    (pos (measure terms))

abbrev pub spaces : Terms → SetLine → ℕ
spaces terms line = (length line.words - 1) + (if has_added terms line then 1 else 0)

-- the measure less the width with all spaces at neutral
abbrev pub rest : Terms → SetLine → ℤ
rest terms line =
    pos (measure terms) -ℤ pos (sum_by (word_width terms) line.words + spaces terms line * space_width terms)

-- how often each fill is used: none in a line that is not to be filled
abbrev pub fills : Terms → SetLine → List ℕ
fills terms line =
    if line.filled then fills_of (rest terms line) (fill_widths terms) else []

-- what the spaces are to take up: the rest, less the fills
abbrev pub left : Terms → SetLine → ℤ
left terms line = rest terms line -ℤ pos (taken (fills terms line) (fill_widths terms))

abbrev pub wedge_sum : Terms → SetLine → ℤ
wedge_sum terms line = sum_of (left terms line) (spaces terms line)

-- a fault where there is one
abbrev pub fault_if : Bool → JobFault → List JobFault
fault_if true fault = fault ∷ []
fault_if false fault = []

-- why a line of so many spaces and this wedge sum can't be set, if so
abbrev pub sum_fault : Terms → ℕ → Bool → ℕ → ℤ → List JobFault
sum_fault terms n filled spaces sum =
    if spaces == 0 then TooWide n ∷ []
    else if filled then fault_if (int_lt sum (pos terms.tight) || int_lt (pos greatest) sum) (CannotFill n)
    else fault_if (int_lt (pos terms.loose) sum) (TooLoose n)

-- why the line of this number can't be set, if so
abbrev pub line_fault : Terms → ℕ → SetLine → List JobFault
line_fault terms n line = sum_fault terms n line.filled (spaces terms line) (wedge_sum terms line)

-- the faults of lines, the first of which has this number
abbrev pub line_faults : Terms → ℕ → List SetLine → List JobFault
line_faults terms n [] = []
line_faults terms n (line ∷ more) = line_fault terms n line ++ line_faults terms (suc n) more

-- ---- the rows of a line

abbrev pub plain : Option Cell → List Punch
plain None = []
plain (Some cell) = record { cell = cell; s = false } ∷ []

-- the matrices of a word
abbrev pub word_punches : CaseValues → List Symbol → List Punch
word_punches case word = flat_map (λ symbol. plain (cell_of case symbol)) word

-- a space that is justified
abbrev pub space_punch : CaseValues → Punch
space_punch case = record { cell = case.space; s = true }

-- words with a space before each
abbrev pub spaced_punches : CaseValues → List (List Symbol) → List Punch
spaced_punches case words = flat_map (λ word. space_punch case ∷ word_punches case word) words

-- words with a space between each two
abbrev pub words_punches : CaseValues → List (List Symbol) → List Punch
words_punches case [] = []
words_punches case (word ∷ more) = word_punches case word ++ spaced_punches case more

-- each fill as often as it is used
abbrev pub fill_punches : List (ℕ × Cell) → List Punch
fill_punches [] = []
fill_punches (fill ∷ more) = replicate fill.0 (record { cell = fill.1; s = false }) ++ fill_punches more

-- the matrices of words, of the space that may be added, and of the fills, each used so often
abbrev pub line_punches : CaseValues → List (List Symbol) → Bool → List ℕ → List Punch
line_punches case words added counts =
    words_punches case words
    ++ ((if added then space_punch case ∷ [] else [])
    ++ fill_punches (zip counts case.fill))

-- the matrices of a line: its words, the added space, the fills
abbrev pub punches : Terms → SetLine → List Punch
punches terms line = line_punches terms.case line.words (has_added terms line) (fills terms line)

-- matrices, and then the positions of the wedges
abbrev pub rows_at : List Punch → Option (ℕ × ℕ) → List RibbonRow
rows_at ps None = []
rows_at ps (Some pair) = map punch_row ps ++ (Coarse pair.0 ∷ FineOut pair.1 ∷ [])

abbrev pub line_rows : Terms → SetLine → List RibbonRow
line_rows terms line = rows_at (punches terms line) (pair_of (wedge_sum terms line))

-- the rows of a ribbon of these lines
abbrev pub rows_of : Terms → List SetLine → List RibbonRow
rows_of terms ls = head_row ∷ flat_map (line_rows terms) ls

-- ---- the job

-- whether the case lacks the symbol, which is no separator
abbrev pub is_lacking : CaseValues → Symbol → Bool
is_lacking case symbol = not ((is_space symbol || is_line_feed symbol) || is_some (cell_of case symbol))

-- the place of each symbol that the case lacks, where the first symbol stands here
abbrev pub lacking : CaseValues → ℕ → List Symbol → List JobFault
lacking case here [] = []
lacking case here (symbol ∷ copy) = fault_if (is_lacking case symbol) (NoMatrix here) ++ lacking case (suc here) copy

-- the values, or the least key that has none
abbrev pub all_given : (measure tight loose case wedge : Option ℕ) → Result Values Key
all_given None tight loose case wedge = Err key.Measure
all_given (Some measure) None loose case wedge = Err key.Tight
all_given (Some measure) (Some tight) None case wedge = Err key.Loose
all_given (Some measure) (Some tight) (Some loose) None wedge = Err key.Case
all_given (Some measure) (Some tight) (Some loose) (Some case) None = Err key.Wedge
all_given (Some measure) (Some tight) (Some loose) (Some case) (Some wedge) =
    Ok (record { measure = measure; tight = tight; loose = loose; case = case; wedge = wedge })

abbrev pub values_of : (Key → Option ℕ) → Result Values Key
values_of settings =
    all_given (settings key.Measure) (settings key.Tight) (settings key.Loose) (settings key.Case) (settings key.Wedge)

abbrev pub terms_of : CaseValues → WedgeValues → Values → Terms
terms_of case wedge values =
    record { case = case; wedge = wedge; points = values.measure; tight = values.tight; loose = values.loose }

-- why settings, case and wedge don't go together, the first cause that holds
abbrev pub terms_fault : Terms → Values → List JobFault
terms_fault terms values =
    if not (values.case == terms.case.number) then OtherCase ∷ []
    else if not (values.wedge == terms.wedge.number) then OtherWedge ∷ []
    else if nat_lt terms.loose terms.tight then Crossed ∷ []
    else if not (is_descending (units_of_cells terms.wedge terms.case.fill)) then FillOrder ∷ []
    else fault_if (int_le (tight_space terms) (pos 0)) SpaceVanishes

-- the first list of faults that isn't empty
abbrev pub or_faults : List JobFault → List JobFault → List JobFault
or_faults [] later = later
or_faults (fault ∷ faults) later = fault ∷ faults

-- the faults of a copy whose settings all have values
abbrev pub faults_of : Terms → Values → List Symbol → List JobFault
faults_of terms values copy =
    or_faults (terms_fault terms values)
    (or_faults (lacking terms.case 0 copy) (line_faults terms 1 (lines terms copy)))

-- rows, where there are no faults
abbrev pub rows_or : List RibbonRow → List JobFault → Result (List RibbonRow) (List JobFault)
rows_or rows [] = Ok rows
rows_or rows (fault ∷ faults) = Err (fault ∷ faults)

abbrev pub job_of : List Symbol → CaseValues → WedgeValues → Result Values Key → Result (List RibbonRow) (List JobFault)
job_of copy case wedge (Err key) = Err (MissingSetting key ∷ [])
job_of copy case wedge (Ok values) =
    let terms = terms_of case wedge values in
    rows_or (rows_of terms (lines terms copy)) (faults_of terms values copy)

-- the rows of the ribbon of a copy, or its faults
abbrev pub job : List Symbol → (Key → Option ℕ) → CaseValues → WedgeValues → Result (List RibbonRow) (List JobFault)
job copy settings case wedge = job_of copy case wedge (values_of settings)
