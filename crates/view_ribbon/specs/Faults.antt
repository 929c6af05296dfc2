-- The first fault of a ribbon, on one line.
use Rattle.std.specs.Prelude.{ℕ, List, [], ◌++◌, codes}
use Rattle.std.specs.Fmt.{decimal}
use Rattle.desk_image.specs.Words.{bad_image_words}
use Rattle.desk_caster.specs.declared.RibbonFault.{RibbonFault}
use Rattle.desk_caster.specs.declared.RibbonFault.TheVariants as ribbons
use Rattle.desk_caster.specs.declared.CastFault.{CastFault}
use Rattle.desk_caster.specs.declared.CastFault.TheVariants as casts

-- a row by its place in punched order, from 0
abbrev pub row_text : ℕ → List ℕ
row_text place = codes "row " ++ decimal place ++ codes ": "

-- why bytes are no ribbon; out of memory is no such cause
abbrev pub ribbon_fault_words : RibbonFault → List ℕ
ribbon_fault_words ribbons.Magic = codes "it does not begin with MRB1"
ribbon_fault_words ribbons.Count = codes "it has not as many rows as it says"
ribbon_fault_words (ribbons.Row place why) = row_text place ++ bad_image_words why
ribbon_fault_words ribbons.NoMemory = []

abbrev pub ribbon_fault_text : RibbonFault → List ℕ
ribbon_fault_text fault = codes "no ribbon: " ++ (ribbon_fault_words fault ++ codes "\n")

-- why the caster stops at a row; out of memory is no such cause
abbrev pub cast_fault_words : CastFault → List ℕ
cast_fault_words (casts.NoWedges place) =
    row_text place ++ codes "no wedges: the caster meets it before the wedges of a line are set"
cast_fault_words (casts.NoMatrix place) =
    row_text place ++ codes "no matrix: the case has neither a symbol, its space nor a fill there"
cast_fault_words (casts.NotSentOut place) =
    row_text place ++ codes "not sent out: nothing sends out the line that this row starts"
cast_fault_words casts.NoMemory = []

abbrev pub cast_fault_text : CastFault → List ℕ
cast_fault_text fault = cast_fault_words fault ++ codes "\n"
