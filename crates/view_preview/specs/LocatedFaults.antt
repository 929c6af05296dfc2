-- Faults where they are in a text, each on one line, as editors read it.
use Rattle.std.specs.Prelude.{ℕ, List, [], ◌∷◌, ◌++◌, codes, Option, Some, None, slice_get, unwrap_or}
use Rattle.std.specs.Fmt.{decimal}
use Rattle.desk_ops.specs.Words.{copy_fault_words}
use Rattle.desk_ops.specs.declared.op.Symbol.{Symbol}
use Rattle.desk_ops.specs.declared.fault.CopyFault.{CopyFault}
use Rattle.desk_job.specs.declared.JobFault.{JobFault}
use Rattle.desk_job.specs.declared.JobFault.TheVariants as jobs
use Rattle.text_copy.specs.declared.fault.Place.{Place}
use Rattle.text_copy.specs.Plain.{plain_text}
use Rattle.view_galley.specs.Values.{GalleyValues, LineValues}
use Rattle.view_proof.specs.declared.scale.Scale.{Scale}
use Rattle.view_proof.specs.declared.reasons.NoGalley.{NoGalley}
use Rattle.view_proof.specs.Faults.{cause_and_limits, style_text}
use Rattle.view_proof.specs.Parts.{begin_of, symbols_text}
use Rattle.view_proof.specs.Proof.{no_galley_text, scale_of}
use Rattle.view_preview.specs.declared.located_faults.Located.{Located}

-- where the symbol at a place of the copy is; where there is none, the end
abbrev pub position_of : Located → ℕ → Place
position_of at place = unwrap_or (slice_get (at.places).now place) at.end

-- the name, line and column of a place of the copy
abbrev pub position_text : Located → ℕ → List ℕ
position_text at place =
    plain_text (at.name).now ++ (codes ":" ++ decimal (position_of at place).line ++ codes ":"
    ++ decimal (position_of at place).column ++ codes ": ")

-- what is of no place stands behind the name alone
abbrev pub name_text : (name : List ℕ) → List ℕ
name_text name = plain_text name ++ codes ": "

-- the faults of the copy
abbrev pub named_fault : (name : List ℕ) → CopyFault → List ℕ
named_fault name fault = name_text name ++ (copy_fault_words fault ++ codes "\n")

abbrev pub named_faults : (name : List ℕ) → List CopyFault → List ℕ
named_faults name [] = []
named_faults name (fault ∷ faults) = named_fault name fault ++ named_faults name faults

-- a symbol by its style and its character as it is shown
abbrev pub symbol_text : Symbol → List ℕ
symbol_text s = style_text s.style ++ codes " " ++ symbols_text (s ∷ [])

-- that the case lacks the symbol at a place
abbrev pub missing_text : Located → ℕ → Option Symbol → List ℕ
missing_text at place None = []
missing_text at place (Some s) = position_text at place ++ (codes "no matrix for " ++ (symbol_text s ++ codes "\n"))

abbrev pub missing_of : Located → List Symbol → JobFault → List ℕ
missing_of at copy (jobs.NoMatrix place) = missing_text at place (slice_get copy place)
missing_of at copy (jobs.MissingSetting key) = []
missing_of at copy jobs.OtherCase = []
missing_of at copy jobs.OtherWedge = []
missing_of at copy jobs.Crossed = []
missing_of at copy jobs.FillOrder = []
missing_of at copy jobs.SpaceVanishes = []
missing_of at copy (jobs.TooWide line) = []
missing_of at copy (jobs.TooLoose line) = []
missing_of at copy (jobs.CannotFill line) = []

-- each at each of its places
abbrev pub all_missing : Located → List Symbol → List JobFault → List ℕ
all_missing at copy [] = []
all_missing at copy (fault ∷ faults) = missing_of at copy fault ++ all_missing at copy faults

-- the fault of a line, where its first word begins
abbrev pub line_text : Located → Scale → LineValues → JobFault → List ℕ
line_text at scale line fault =
    position_text at (begin_of line.words) ++ (cause_and_limits scale line.wedge_sum fault ++ codes "\n")

abbrev pub line_if_any : Located → Scale → LineValues → List JobFault → List ℕ
line_if_any at scale line [] = []
line_if_any at scale line (fault ∷ more) = line_text at scale line fault

abbrev pub lines_text : Located → Scale → List LineValues → List ℕ
lines_text at scale [] = []
lines_text at scale (line ∷ lines) = line_if_any at scale line line.faults ++ lines_text at scale lines

-- the faults of the copy, the symbols that the case lacks, and the faults of lines
abbrev pub located_text : Located → List Symbol → List CopyFault → GalleyValues → List ℕ
located_text at copy faults galley =
    named_faults (at.name).now faults ++ (all_missing at copy galley.lacking
    ++ lines_text at (scale_of galley) galley.lines)

-- where there is no galley: the faults of the copy, and why
abbrev pub located_no_galley : (name : List ℕ) → List CopyFault → NoGalley → List ℕ
located_no_galley name faults why = named_faults name faults ++ (name_text name ++ no_galley_text [] why)
