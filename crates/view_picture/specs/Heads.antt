-- What stands above the galley: the faults of the copy, the head, and the symbols that the case lacks.
use Rattle.std.specs.Prelude.{ℕ, ◌+◌, ◌*◌, List, [], ◌∷◌, ◌++◌, length, slice_get, Option, Some, None, codes}
use Rattle.std.specs.Fmt.{decimal}
use Rattle.desk_ops.specs.declared.op.Symbol.{Symbol}
use Rattle.desk_ops.specs.declared.fault.CopyFault.{CopyFault}
use Rattle.desk_ops.specs.Words.{copy_fault_words, style_words}
use Rattle.desk_job.specs.declared.JobFault.{JobFault}
use Rattle.desk_job.specs.declared.JobFault.TheVariants as jobs
use Rattle.view_galley.specs.Values.{GalleyValues}
use Rattle.view_proof.specs.Proof.{head_words}
use Rattle.view_proof.specs.Faults.{cause_text, code_text, meaning_text}
use Rattle.view_galley.specs.Svg.{escaped_char, text_end}
use Rattle.view_picture.specs.Lines.{text_at}

-- where the head of this number stands, from 0
abbrev pub head_y : ℕ → ℕ
head_y number = 2000 + 1200 * number

-- a fault of the copy
abbrev pub copy_fault : (y : ℕ) → CopyFault → List ℕ
copy_fault y fault = text_at (codes "c") 1000 y ++ (copy_fault_words fault ++ (meaning_text fault.kind ++ text_end))

-- faults of the copy, the first of which has this number
abbrev pub copy_faults : ℕ → List CopyFault → List ℕ
copy_faults number [] = []
copy_faults number (fault ∷ faults) = copy_fault (head_y number) fault ++ copy_faults (number + 1) faults

abbrev pub head : (y : ℕ) → GalleyValues → List ℕ
head y galley = text_at (codes "h") 1000 y ++ (head_words galley ++ text_end)

-- a symbol by its style, its character and its code
abbrev pub name_text : Symbol → List ℕ
name_text symbol =
    codes " for " ++ (style_words symbol.style
    ++ (codes " '" ++ (escaped_char symbol.ch ++ (codes "' (" ++ (code_text symbol.ch ++ codes ")")))))

abbrev pub name_if : Option Symbol → List ℕ
name_if None = []
name_if (Some symbol) = name_text symbol

-- a symbol at a place
abbrev pub lacking_at : List Symbol → ℕ → List ℕ
lacking_at copy place = name_if (slice_get copy place) ++ (codes " at place " ++ decimal place)

abbrev pub lacking_of : List Symbol → JobFault → List ℕ
lacking_of copy (jobs.NoMatrix place) = lacking_at copy place
lacking_of copy (jobs.MissingSetting key) = []
lacking_of copy jobs.OtherCase = []
lacking_of copy jobs.OtherWedge = []
lacking_of copy jobs.Crossed = []
lacking_of copy jobs.FillOrder = []
lacking_of copy jobs.SpaceVanishes = []
lacking_of copy (jobs.TooWide line) = []
lacking_of copy (jobs.TooLoose line) = []
lacking_of copy (jobs.CannotFill line) = []

-- a symbol that the case lacks
abbrev pub lack : List Symbol → (y : ℕ) → JobFault → List ℕ
lack copy y fault = text_at (codes "c") 1000 y ++ (cause_text fault ++ (lacking_of copy fault ++ text_end))

abbrev pub lacks : List Symbol → ℕ → List JobFault → List ℕ
lacks copy number [] = []
lacks copy number (fault ∷ faults) = lack copy (head_y number) fault ++ lacks copy (number + 1) faults

-- all of these, one under the other
abbrev pub heads_text : List Symbol → List CopyFault → GalleyValues → List ℕ
heads_text copy faults galley =
    copy_faults 0 faults ++ (head (head_y (length faults)) galley ++ lacks copy (length faults + 1) galley.lacking)

-- how many they are
abbrev pub head_count : List CopyFault → GalleyValues → ℕ
head_count faults galley = length faults + 1 + length galley.lacking
