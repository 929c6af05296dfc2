-- What is said of a file, without its name.
use Rattle.std.specs.Prelude.{ℕ, ◌/◌, ◌%◌, ◌==◌, if◌then◌else◌, List, [], ◌∷◌, ◌++◌, length, codes, Option, Some, None}
use Rattle.std.specs.Prelude.{option_map, Result, Ok, Err}
use Rattle.std.specs.Fmt.{decimal}
use Rattle.desk_ops.specs.declared.op.Symbol.{Symbol}
use Rattle.desk_ops.specs.OpSet.{OpSet, max_ops, size}
use Rattle.desk_ops.specs.Shown.{copy_of}
use Rattle.desk_ops.specs.Faults.{faults_of}
use Rattle.desk_codec.specs.declared.fault.FeedFault.{FeedFault}
use Rattle.desk_codec.specs.declared.fault.FeedWhy.{FeedWhy}
use Rattle.desk_codec.specs.declared.fault.FeedWhy.TheVariants as whys
use Rattle.desk_signals.specs.declared.Cell.{Cell}
use Rattle.desk_signals.specs.declared.RibbonRow.{RibbonRow}
use Rattle.desk_image.specs.declared.BadImage.{BadImage}
use Rattle.desk_image.specs.Words.{bad_image_words}
use Rattle.desk_caster.specs.declared.RibbonFault.{RibbonFault}
use Rattle.desk_caster.specs.declared.RibbonFault.TheVariants as ribbons
use Rattle.desk_units.specs.declared.Pica.{Pica}
use Rattle.desk_units.specs.declared.Pica.TheVariants as picas
use Rattle.desk_wedge.specs.File as wedge_files
use Rattle.desk_wedge.specs.Wedge.{WedgeValues}
use Rattle.desk_wedge.specs.declared.WedgeFault.{WedgeFault}
use Rattle.desk_wedge.specs.declared.WedgeFault.TheVariants as wedges
use Rattle.desk_case.specs.File as case_files
use Rattle.desk_case.specs.Case.{CaseValues}
use Rattle.desk_signals.specs.Words.{cell_words}
use Rattle.desk_ops.specs.Words.{symbol_words, unlawful_words}
use Rattle.desk_case.specs.declared.CaseFault.{CaseFault}
use Rattle.desk_case.specs.declared.CaseFault.TheVariants as cases
use Rattle.desk_case.specs.declared.CaseKey.{CaseKey}
use Rattle.feed_check.specs.declared.rows.RowsFault.{RowsFault}
use Rattle.feed_check.specs.declared.rows.RowsFault.TheVariants as rows
use Rattle.feed_check.specs.Sorts.{sorts}
use Rattle.script_answers.specs.Reply.{Faults}
use Rattle.script_answers.specs.Text.{text}
use Rattle.feed_files.specs.declared.files.FileRefusal.{FileRefusal}
use Rattle.feed_files.specs.declared.files.FileRefusal.TheVariants as refusals

-- ---- feeds

-- why no set comes of a feed's bytes: their first fault, or that a replica holds fewer operations
pub data NoSet : Type 0 where
  Wrong : FeedFault → NoSet
  Crowded : NoSet

abbrev pub operations_words : ℕ → List ℕ
operations_words count = codes "ok: " ++ decimal count ++ codes " operations, "

abbrev pub shown_words : ℕ → List ℕ
shown_words count = decimal count ++ codes " symbols shown, "

abbrev pub set_words : OpSet → List ℕ
set_words set = operations_words (size set) ++ shown_words (length (copy_of set)) ++ text (Faults (faults_of set))

abbrev pub why_words : FeedWhy → List ℕ
why_words whys.Magic = codes "no feed begins so"
why_words whys.Kind = codes "no such kind of operation"
why_words (whys.Unlawful cause) = codes "unlawful: " ++ unlawful_words cause
why_words whys.Cut = codes "cut off"
why_words whys.Run = codes "no run has so many"

abbrev pub feed_fault_words : FeedFault → List ℕ
feed_fault_words fault = codes "feed refused: byte " ++ decimal fault.at ++ codes ": " ++ why_words fault.why

abbrev pub crowded_words : List ℕ
crowded_words = codes "feed refused: more than " ++ decimal max_ops ++ codes " operations"

abbrev pub feed_words : Result OpSet NoSet → Option (List ℕ)
feed_words (Ok set) = Some (set_words set)
feed_words (Err (Wrong fault)) = Some (feed_fault_words fault)
feed_words (Err Crowded) = Some crowded_words

-- ---- ribbons

abbrev pub row_fault_words : ℕ → BadImage → List ℕ
row_fault_words place why = codes "row " ++ decimal place ++ codes ": " ++ bad_image_words why

-- the fault of a ribbon; where memory ran out, nothing is written
abbrev pub ribbon_fault_words : RibbonFault → Option (List ℕ)
ribbon_fault_words ribbons.Magic = Some (codes "no ribbon begins so")
ribbon_fault_words ribbons.Count = Some (codes "it has not as many rows as it says")
ribbon_fault_words (ribbons.Row place why) = Some (row_fault_words place why)
ribbon_fault_words ribbons.NoMemory = None

abbrev pub rows_words : ℕ → List ℕ
rows_words count = codes "ok: " ++ decimal count ++ codes " rows"

abbrev pub ribbon_words : Result (List RibbonRow) RibbonFault → Option (List ℕ)
ribbon_words (Ok rows) = Some (rows_words (length rows))
ribbon_words (Err fault) = option_map (λ words. codes "ribbon refused: " ++ words) (ribbon_fault_words fault)

-- ---- wedges

-- the quarters that a number has over a whole
abbrev pub quarter_words : ℕ → List ℕ
quarter_words n = if n == 0 then [] else if n == 1 then codes ".25" else if n == 2 then codes ".5" else codes ".75"

abbrev pub pica_word : Pica → List ℕ
pica_word picas.Sixth = codes "sixth"
pica_word picas.American = codes "american"

-- quarter points in points
abbrev pub points_words : ℕ → List ℕ
points_words q = decimal (q / 4) ++ quarter_words (q % 4)

abbrev pub count_words : ℕ → List ℕ
count_words q = codes " (" ++ decimal q ++ codes " quarter points)"

-- a set in points and in quarter points
abbrev pub set_q_words : ℕ → List ℕ
set_q_words q = points_words q ++ count_words q

-- the fault of a wedge file; where memory ran out, nothing is written
abbrev pub wedge_fault_words : WedgeFault → Option (List ℕ)
wedge_fault_words wedges.NotToml = Some (codes "it is not TOML")
wedge_fault_words (wedges.Missing key) = Some (codes "`" ++ wedge_files.key_name key ++ codes "` is missing")
wedge_fault_words (wedges.Range key) =
    Some (codes "`" ++ wedge_files.key_name key ++ codes "` is of another type, length or value")
wedge_fault_words (wedges.Descending row) =
    Some (codes "row " ++ decimal row ++ codes " has fewer units than the row before")
wedge_fault_words wedges.NoMemory = None

abbrev pub values_words : WedgeValues → List ℕ
values_words wedge = codes "ok: wedge " ++ decimal wedge.number ++ codes ", set " ++ set_q_words wedge.set_q
    ++ codes ", pica " ++ pica_word wedge.pica

abbrev pub wedge_words : Result WedgeValues WedgeFault → Option (List ℕ)
wedge_words (Ok wedge) = Some (values_words wedge)
wedge_words (Err fault) = option_map (λ words. codes "wedge refused: " ++ words) (wedge_fault_words fault)

-- ---- cases

abbrev pub cell_fault_words : Cell → List ℕ → List ℕ
cell_fault_words cell what = codes "cell " ++ cell_words cell ++ what

-- a cell and the symbol that it holds
abbrev pub held_words : Cell → Symbol → List ℕ
held_words cell symbol = codes "cell " ++ cell_words cell ++ codes " holds " ++ symbol_words symbol

-- a cell between two texts
abbrev pub around_words : List ℕ → Cell → List ℕ → List ℕ
around_words before cell after = before ++ cell_words cell ++ after

abbrev pub other_words : Cell → List ℕ
other_words cell = around_words (codes ", which stands in ") cell (codes " too")

abbrev pub twice_words : Symbol → List ℕ
twice_words symbol = symbol_words symbol ++ codes " stands in two cells"

abbrev pub doubled_from : Cell → List Cell → Symbol → List ℕ
doubled_from first [] symbol = twice_words symbol
doubled_from first (second ∷ more) symbol = held_words second symbol ++ other_words first

-- a symbol that stands in two cells, with the first two of those that hold it
abbrev pub doubled_words : List Cell → Symbol → List ℕ
doubled_words [] symbol = twice_words symbol
doubled_words (first ∷ rest) symbol = doubled_from first rest symbol

-- so many of something
abbrev pub counted_words : ℕ → (one many : List ℕ) → List ℕ
counted_words n one many = decimal n ++ (if n == 1 then one else many)

-- how many texts a row has, and how many are wanted
abbrev pub row_words : (row texts wanted : ℕ) → List ℕ
row_words row texts wanted =
    (codes "row " ++ decimal row ++ codes " has ") ++ (counted_words texts (codes " text") (codes " texts")
    ++ (codes ", and " ++ decimal wanted ++ codes " are wanted"))

-- the number that is wrong in rows
abbrev pub rows_fault_words : RowsFault → List ℕ
rows_fault_words (rows.Rows count) = counted_words count (codes " row") (codes " rows") ++ codes ", and 15 are wanted"
rows_fault_words (rows.Row row texts wanted) = row_words row texts wanted

-- a key that holds no such value, with the number that is wrong in rows, if one is
abbrev pub shape_words : CaseKey → Option RowsFault → List ℕ
shape_words key None = codes "`" ++ case_files.key_name key ++ codes "` is of another type, number, length or name"
shape_words key (Some fault) = codes "`" ++ case_files.key_name key ++ codes "`: " ++ rows_fault_words fault

-- the fault of a case file, with the cells that hold its symbol and the number that is wrong in its rows; where memory
-- ran out, nothing is written
abbrev pub case_fault_words : List Cell → Option RowsFault → CaseFault → Option (List ℕ)
case_fault_words holders rows_fault cases.NotToml = Some (codes "it is not TOML")
case_fault_words holders rows_fault (cases.Missing key) =
    Some (codes "`" ++ case_files.key_name key ++ codes "` is missing")
case_fault_words holders rows_fault (cases.Shape key) = Some (shape_words key rows_fault)
case_fault_words holders rows_fault (cases.BadText cell) =
    Some (cell_fault_words cell (codes " has a text that is no symbol"))
case_fault_words holders rows_fault (cases.Doubled symbol) = Some (doubled_words holders symbol)
case_fault_words holders rows_fault (cases.NotBlank cell) =
    Some (cell_fault_words cell (codes ", the space or a fill, holds a symbol"))
case_fault_words holders rows_fault cases.FillOrder = Some (codes "the units of the fills do not descend")
case_fault_words holders rows_fault cases.NoMemory = None

abbrev pub number_words : ℕ → List ℕ
number_words number = codes "ok: case " ++ decimal number

abbrev pub cells_words : ℕ → List ℕ
cells_words cells = codes ", " ++ decimal cells ++ codes " cells"

abbrev pub sorts_words : ℕ → List ℕ
sorts_words sorts = codes ", " ++ decimal sorts ++ codes " sorts"

-- what a case file gives, with how many cells it has texts for; or its fault, with the cells that hold its symbol and
-- the number that is wrong in its rows
abbrev pub case_words : ℕ → (CaseFault → List Cell) → (CaseFault → Option RowsFault) → Result CaseValues CaseFault
    → Option (List ℕ)
case_words cells holders rows_fault (Ok case) =
    Some (number_words case.number ++ cells_words cells ++ sorts_words (sorts case.grid))
case_words cells holders rows_fault (Err fault) =
    option_map (λ words. codes "case refused: " ++ words) (case_fault_words (holders fault) (rows_fault fault) fault)

-- ---- others

-- a file that was not read; where memory ran out, nothing is written
abbrev pub refusal_words : FileRefusal → Option (List ℕ)
refusal_words refusals.Missing = Some (codes "no file")
refusal_words refusals.Device = Some (codes "file fault")
refusal_words refusals.Large = Some (codes "too large")
refusal_words refusals.NoMemory = None
