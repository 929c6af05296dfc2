-- Faults at their text, and the way out in figures.
use Rattle.std.specs.Prelude.{ℕ, ◌+◌, ◌-◌, ◌^◌, Bool, true, false, ◌==◌, ℤ, pos, ◌-ℤ◌, int_le, int_lt, unsigned_abs}
use Rattle.std.specs.Prelude.{min, List, [], ◌∷◌, ◌++◌, length, take, drop, slice_get, Option, Some, None, codes}
use Rattle.std.specs.Prelude.{if◌then◌else◌}
use Rattle.std.specs.Fmt.{decimal, digits, format_spec, padded_integral}
use Rattle.desk_ops.specs.declared.op.Key.{Key}
use Rattle.desk_ops.specs.declared.op.Key.TheVariants as keys
use Rattle.desk_ops.specs.declared.op.Style.{Style}
use Rattle.desk_ops.specs.declared.op.Style.TheVariants.{Roman, Italic, SmallCap}
use Rattle.desk_ops.specs.declared.op.Symbol.{Symbol}
use Rattle.desk_ops.specs.Words.{copy_fault_words}
use Rattle.desk_ops.specs.declared.fault.CopyFault.{CopyFault}
use Rattle.desk_ops.specs.declared.fault.FaultKind.{FaultKind}
use Rattle.desk_ops.specs.declared.fault.FaultKind.TheVariants as kinds
use Rattle.desk_lines.specs.declared.words.Word.{Word}
use Rattle.desk_units.specs.declared.Pica.{Pica}
use Rattle.desk_units.specs.WedgeSum.{greatest}
use Rattle.desk_job.specs.declared.JobFault.{JobFault}
use Rattle.desk_job.specs.declared.JobFault.TheVariants as jobs
use Rattle.view_galley.specs.declared.line.Next.{Next}
use Rattle.view_galley.specs.Values.{LineValues}
use Rattle.view_proof.specs.declared.scale.Scale.{Scale}
use Rattle.view_proof.specs.Parts.{marked_text, word_text, begin_of, end_of, points_down, points_up, symbols_text}
use Rattle.view_proof.specs.Lines.{set_text, sum_text}

-- ---- causes

abbrev pub missing_text : Key → List ℕ
missing_text keys.Measure = codes "the setting measure has no value"
missing_text keys.Tight = codes "the setting tight has no value"
missing_text keys.Loose = codes "the setting loose has no value"
missing_text keys.Case = codes "the setting case has no value"
missing_text keys.Wedge = codes "the setting wedge has no value"

abbrev pub cause_text : JobFault → List ℕ
cause_text (jobs.MissingSetting key) = missing_text key
cause_text jobs.OtherCase = codes "the setting case is not the number of the case"
cause_text jobs.OtherWedge = codes "the setting wedge is not the number of the wedge"
cause_text jobs.Crossed = codes "the setting tight is above loose"
cause_text jobs.FillOrder = codes "the units of the fills do not descend"
cause_text jobs.SpaceVanishes = codes "a space at tight has no width"
cause_text (jobs.NoMatrix place) = codes "no matrix"
cause_text (jobs.TooWide line) = codes "too wide"
cause_text (jobs.TooLoose line) = codes "too loose"
cause_text (jobs.CannotFill line) = codes "cannot be filled"

-- the wedge sum and a limit, between these words
abbrev pub limit_text : Option ℤ → (before : List ℕ) → (limit : ℕ) → (after : List ℕ) → List ℕ
limit_text sum before limit after = codes " (wedge sum " ++ (sum_text sum ++ (before ++ (decimal limit ++ after)))

-- the wedge sum, and the limits between which a line is filled: tight, and the greatest wedge sum
abbrev pub filling_text : Option ℤ → (tight : ℕ) → List ℕ
filling_text sum tight = limit_text sum (codes ", limits ") tight (codes " and ") ++ (decimal greatest ++ codes ")")

-- the wedge sum and the limit or limits for it, where the fault is of the wedge sum
abbrev pub limits_text : Scale → Option ℤ → JobFault → List ℕ
limits_text scale sum (jobs.TooLoose line) = limit_text sum (codes ", limit ") scale.loose (codes ")")
limits_text scale sum (jobs.CannotFill line) = filling_text sum scale.tight
limits_text scale sum (jobs.MissingSetting key) = []
limits_text scale sum jobs.OtherCase = []
limits_text scale sum jobs.OtherWedge = []
limits_text scale sum jobs.Crossed = []
limits_text scale sum jobs.FillOrder = []
limits_text scale sum jobs.SpaceVanishes = []
limits_text scale sum (jobs.NoMatrix place) = []
limits_text scale sum (jobs.TooWide line) = []

-- ---- the way out

abbrev pub spaces_text : ℕ → List ℕ
spaces_text count = if count == 1 then codes "1 space" else decimal count ++ codes " spaces"

-- by how much a word that leaves so much of the measure is too wide to have the least space
abbrev pub too_wide_text : Scale → ℤ → List ℕ
too_wide_text scale rest = points_up scale.pica (unsigned_abs (pos scale.space -ℤ rest)) ++ codes " points too wide"

-- of a line without a space: the least space, and by how much its word is too wide to have it
abbrev pub lone_text : Scale → ℤ → List ℕ
lone_text scale rest =
    codes "one word and no space to justify it; with one of at least "
    ++ (points_up scale.pica scale.space ++ (codes " points it is " ++ too_wide_text scale rest))

-- what is free for a part of the next word
abbrev pub free_text : Pica → ℤ → List ℕ
free_text pica free =
    if int_le free (pos 0) then codes "nothing is free for a part of it"
    else points_down pica (unsigned_abs free) ++ codes " points are free for a part of it"

-- by how much the next word did not fit, and what is free for a part of it
abbrev pub over_text : Pica → Next → List ℕ
over_text pica next = (points_up pica (unsigned_abs next.over) ++ codes " points too wide; ")
    ++ free_text pica next.free

-- a word, and that of it
abbrev pub next_word_text : List Symbol → Pica → Next → List ℕ
next_word_text copy pica next = codes "; the next word, '"
    ++ (word_text copy next.word ++ (codes "', is " ++ over_text pica next))

abbrev pub next_text : List Symbol → Pica → Option Next → List ℕ
next_text copy pica None = []
next_text copy pica (Some next) = next_word_text copy pica next

abbrev pub wider_text : Pica → ℤ → List ℕ
wider_text pica rest =
    codes "; " ++ (points_up pica (unsigned_abs rest) ++ codes " points wider than the measure at neutral")

abbrev pub shorter_text : Pica → ℤ → List ℕ
shorter_text pica rest =
    codes "; " ++ (points_down pica (unsigned_abs rest) ++ codes " points short of the measure at neutral")

-- what the words and the spaces at neutral leave of the measure
abbrev pub rest_text : Pica → ℤ → List ℕ
rest_text pica rest = if int_lt rest (pos 0) then wider_text pica rest else shorter_text pica rest

-- a line that is too loose may take a part of the next word; of any other fault the width is written
abbrev pub is_loose : JobFault → Bool
is_loose (jobs.TooLoose line) = true
is_loose (jobs.CannotFill line) = false
is_loose (jobs.MissingSetting key) = false
is_loose jobs.OtherCase = false
is_loose jobs.OtherWedge = false
is_loose jobs.Crossed = false
is_loose jobs.FillOrder = false
is_loose jobs.SpaceVanishes = false
is_loose (jobs.NoMatrix place) = false
is_loose (jobs.TooWide line) = false

-- of a line with spaces
abbrev pub spaced_text : List Symbol → Scale → LineValues → JobFault → List ℕ
spaced_text copy scale line fault =
    spaces_text line.spaces ++ (if is_loose fault then next_text copy scale.pica line.next
    else rest_text scale.pica line.rest)

abbrev pub way_text : List Symbol → Scale → LineValues → JobFault → List ℕ
way_text copy scale line fault = if line.spaces == 0 then lone_text scale line.rest
    else spaced_text copy scale line fault

-- ---- faults of lines

-- what a fault is, and where it is of the wedge sum, that and the limit or limits for it
abbrev pub cause_and_limits : Scale → Option ℤ → JobFault → List ℕ
cause_and_limits scale sum fault = cause_text fault ++ limits_text scale sum fault

abbrev pub lead_text : ℕ → List ℕ
lead_text number = codes "\nline " ++ decimal number ++ codes ": "

abbrev pub places_text : List Word → List ℕ
places_text words = codes ", places " ++ decimal (begin_of words) ++ codes ".." ++ decimal (end_of words) ++ codes "\n"

-- the number of a line, its fault and its places
abbrev pub title_text : Scale → LineValues → JobFault → List ℕ
title_text scale line fault = lead_text line.number
    ++ (cause_and_limits scale line.wedge_sum fault ++ places_text line.words)

abbrev pub shown_text : List Symbol → LineValues → List ℕ
shown_text copy line = codes "  | " ++ set_text copy line

abbrev pub way_line : List Symbol → Scale → LineValues → JobFault → List ℕ
way_line copy scale line fault = codes "  = " ++ (way_text copy scale line fault ++ codes "\n")

-- that, the text of the line, and the way out
abbrev pub fault_text : List Symbol → Scale → LineValues → JobFault → List ℕ
fault_text copy scale line fault = title_text scale line fault
    ++ (shown_text copy line ++ way_line copy scale line fault)

-- of one line, which has one fault or none
abbrev pub fault_if_any : List Symbol → Scale → LineValues → List JobFault → List ℕ
fault_if_any copy scale line [] = []
fault_if_any copy scale line (fault ∷ more) = fault_text copy scale line fault

abbrev pub line_faults_text : List Symbol → Scale → List LineValues → List ℕ
line_faults_text copy scale [] = []
line_faults_text copy scale (line ∷ lines) = fault_if_any copy scale line line.faults
    ++ line_faults_text copy scale lines

-- ---- symbols that the case lacks

abbrev pub style_text : Style → List ℕ
style_text Roman = codes "Roman"
style_text Italic = codes "italic"
style_text SmallCap = codes "small capital"

-- four hexadecimal digits at least
abbrev pub code_text : ℕ → List ℕ
code_text ch = codes "U+" ++ padded_integral (format_spec 32 0 4 4 (2 ^ 64 - 1)) false [] (digits 16 true ch)

-- where what surrounds a place begins, 24 symbols before it or with the copy, and where it ends
abbrev pub around_from : ℕ → ℕ
around_from place = place - 24

abbrev pub around_to : List Symbol → ℕ → ℕ
around_to copy place = min (place + 25) (length copy)

abbrev pub around_text : List Symbol → ℕ → List ℕ
around_text copy place = marked_text (take (around_to copy place - around_from place) (drop (around_from place) copy))

-- a symbol by its style, its character as it is shown and its code
abbrev pub name_text : Symbol → List ℕ
name_text s = style_text s.style ++ codes " '" ++ symbols_text (s ∷ []) ++ codes "' (" ++ code_text s.ch ++ codes ")"

abbrev pub at_text : ℕ → List ℕ
at_text place = codes " at place " ++ decimal place ++ codes "\n  | "

abbrev pub lack_title : Symbol → ℕ → List ℕ
lack_title s place = codes "\nno matrix for " ++ (name_text s ++ at_text place)

-- a symbol at a place, and what surrounds it
abbrev pub lack_text : List Symbol → ℕ → Option Symbol → List ℕ
lack_text copy place None = []
lack_text copy place (Some s) = lack_title s place ++ around_text copy place ++ codes "\n"

abbrev pub lacking_fault_text : List Symbol → JobFault → List ℕ
lacking_fault_text copy (jobs.NoMatrix place) = lack_text copy place (slice_get copy place)
lacking_fault_text copy (jobs.MissingSetting key) = []
lacking_fault_text copy jobs.OtherCase = []
lacking_fault_text copy jobs.OtherWedge = []
lacking_fault_text copy jobs.Crossed = []
lacking_fault_text copy jobs.FillOrder = []
lacking_fault_text copy jobs.SpaceVanishes = []
lacking_fault_text copy (jobs.TooWide line) = []
lacking_fault_text copy (jobs.TooLoose line) = []
lacking_fault_text copy (jobs.CannotFill line) = []

abbrev pub lacking_text : List Symbol → List JobFault → List ℕ
lacking_text copy [] = []
lacking_text copy (fault ∷ faults) = lacking_fault_text copy fault ++ lacking_text copy faults

-- ---- faults of the copy

-- what a fault of this kind means, behind the fault
abbrev pub meaning_text : FaultKind → List ℕ
meaning_text kinds.Forked = codes ": more than one operation has this stamp"
meaning_text kinds.Void = codes ": what it hangs on cannot act"
meaning_text kinds.Waiting = codes ": what it hangs on has not come"

abbrev pub copy_fault_text : CopyFault → List ℕ
copy_fault_text fault = copy_fault_words fault ++ (meaning_text fault.kind ++ codes "\n")

abbrev pub copy_faults_text : List CopyFault → List ℕ
copy_faults_text [] = []
copy_faults_text (fault ∷ faults) = copy_fault_text fault ++ copy_faults_text faults
