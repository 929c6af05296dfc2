-- A galley as text.
use Rattle.std.specs.Prelude.{ℕ, ◌+◌, ◌==◌, unsigned_abs, List, [], ◌∷◌, ◌++◌, length, codes, if◌then◌else◌}
use Rattle.std.specs.Fmt.{decimal}
use Rattle.desk_ops.specs.declared.op.Symbol.{Symbol}
use Rattle.desk_ops.specs.declared.fault.CopyFault.{CopyFault}
use Rattle.desk_job.specs.Job.{tight_space}
use Rattle.desk_job.specs.declared.terms.Values.{Values}
use Rattle.view_galley.specs.Values.{GalleyValues, LineValues}
use Rattle.view_galley.specs.Galley.{is_faulty}
use Rattle.view_proof.specs.declared.proof.Extent.{Extent}
use Rattle.view_proof.specs.declared.proof.Extent.TheVariants as extents
use Rattle.view_proof.specs.declared.scale.Scale.{Scale}
use Rattle.view_proof.specs.Lines.{columns_text, lines_text}
use Rattle.view_proof.specs.declared.reasons.NoGalley.{NoGalley}
use Rattle.view_proof.specs.Reasons.{reason_text}
use Rattle.view_proof.specs.Faults.{copy_faults_text, lacking_text, line_faults_text}

-- what the figures of a galley are written by
abbrev pub scale_of : GalleyValues → Scale
scale_of galley =
    record {
      pica = (galley.wedge).pica;
      tight = (galley.values).tight;
      loose = (galley.values).loose;
      space = unsigned_abs (tight_space galley.terms);
    }

-- how many lines have a fault
abbrev pub faulty_lines : List LineValues → ℕ
faulty_lines [] = 0
faulty_lines (line ∷ lines) = (if is_faulty line then 1 else 0) + faulty_lines lines

-- how many lines there are, and how many are at fault
abbrev pub counts_text : List LineValues → List ℕ
counts_text lines = decimal (length lines) ++ codes " lines, " ++ decimal (faulty_lines lines) ++ codes " at fault, "

-- how many symbols the case lacks, each at each of its places, where it lacks any
abbrev pub sorts_text : ℕ → List ℕ
sorts_text count = if count == 0 then [] else if count == 1 then codes "1 missing sort, "
    else decimal count ++ codes " missing sorts, "

-- what the lines are set by
abbrev pub values_text : Values → List ℕ
values_text values =
    codes "measure " ++ decimal values.measure ++ codes " points, tight " ++ decimal values.tight ++ codes ", loose "
    ++ decimal values.loose

-- all three
abbrev pub head_words : GalleyValues → List ℕ
head_words galley = counts_text galley.lines ++ (sorts_text (length galley.lacking) ++ values_text galley.values)

abbrev pub head_text : GalleyValues → List ℕ
head_text galley = codes "GALLEY " ++ (head_words galley ++ codes "\n")

-- the lines with their figures, under the names of their columns
abbrev pub whole_text : List Symbol → Scale → List LineValues → List ℕ
whole_text copy scale lines = columns_text ++ lines_text copy scale lines

-- the lines with their figures, where they are wanted
abbrev pub body_text : List Symbol → GalleyValues → Extent → List ℕ
body_text copy galley extents.Whole = whole_text copy (scale_of galley) galley.lines
body_text copy galley extents.Faults = []

-- the faults of the copy above all, the head, the symbols that the case lacks, the lines with their figures, and the
-- faults of lines
abbrev pub proof_text : List Symbol → List CopyFault → GalleyValues → Extent → List ℕ
proof_text copy faults galley extent =
    copy_faults_text faults ++ head_text galley ++ lacking_text copy galley.lacking ++ body_text copy galley extent
    ++ line_faults_text copy (scale_of galley) galley.lines

-- where there is no galley: the faults of the copy, and why
abbrev pub no_galley_text : List CopyFault → NoGalley → List ℕ
no_galley_text faults why = copy_faults_text faults ++ codes "no galley: " ++ reason_text why ++ codes "\n"
