-- The lines at fault as a table: number and place, cause, and way out.
use Rattle.std.specs.Prelude.{ℕ, List, [], ◌∷◌, ◌++◌, codes, if◌then◌else◌}
use Rattle.std.specs.Fmt.{decimal}
use Rattle.desk_ops.specs.declared.op.Symbol.{Symbol}
use Rattle.desk_job.specs.declared.JobFault.{JobFault}
use Rattle.view_galley.specs.Values.{LineValues}
use Rattle.view_proof.specs.Faults.{cause_and_limits}
use Rattle.view_proof.specs.Parts.{begin_of}
use Rattle.view_proof.specs.declared.scale.Scale.{Scale}
use Rattle.view_preview.specs.Proofing.{are_set}
use Rattle.view_pages.specs.Tags.{cell_next, link_end, no_fault, row_begin, row_end, table_begin, table_end}
use Rattle.view_pages.specs.Ways.{escaped_way}

-- the number of a line, as a link to it
unfoldable pub link_text : (number : ℕ) → List ℕ
link_text number = row_begin ++ (decimal number ++ (codes "\">" ++ (decimal number ++ link_end)))

-- that, and its place
unfoldable pub line_cells : LineValues → List ℕ
line_cells line = link_text line.number ++ (decimal (begin_of line.words) ++ cell_next)

-- its fault, and the way out
unfoldable pub cells_text : List Symbol → Scale → LineValues → JobFault → List ℕ
cells_text copy scale line fault =
    cause_and_limits scale line.wedge_sum fault ++ (cell_next ++ (escaped_way copy scale line fault ++ row_end))

-- of a line, which has one fault or none
abbrev pub row_if_any : List Symbol → Scale → LineValues → List JobFault → List ℕ
row_if_any copy scale line [] = []
row_if_any copy scale line (fault ∷ more) = line_cells line ++ cells_text copy scale line fault

abbrev pub rows_text : List Symbol → Scale → List LineValues → List ℕ
rows_text copy scale [] = []
rows_text copy scale (line ∷ lines) = row_if_any copy scale line line.faults ++ rows_text copy scale lines

-- the lines at fault
unfoldable pub faulty_table : List Symbol → Scale → List LineValues → List ℕ
faulty_table copy scale lines = table_begin ++ (rows_text copy scale lines ++ table_end)

-- these, or that none is
unfoldable pub table_text : List Symbol → Scale → List LineValues → List ℕ
table_text copy scale lines = if are_set lines then no_fault else faulty_table copy scale lines
