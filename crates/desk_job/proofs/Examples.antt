-- Worked examples, computed.
use Rattle.std.proofs.Common.{◌≡◌, ℕ, true, false, List, [], ◌∷◌, ◌++◌, map, replicate, length, refl, Some, None, Ok, Err, Option, Result}
use Rattle.std.specs.Prelude.{ℤ, pos}
use Rattle.std.specs.List.{flat_map}
use Rattle.desk_ops.specs.declared.op.Symbol.{Symbol}
use Rattle.desk_ops.specs.declared.op.Style.TheVariants.{Roman, Italic, SmallCap}
use Rattle.desk_ops.specs.declared.op.Key.{Key}
use Rattle.desk_ops.specs.declared.op.Key.TheVariants.{Measure, Tight, Loose, Case, Wedge}
use Rattle.desk_units.specs.declared.Pica.TheVariants.{Sixth}
use Rattle.desk_signals.specs.declared.Cell.{Cell}
use Rattle.desk_signals.specs.declared.Column.TheVariants as column
use Rattle.desk_signals.specs.declared.RibbonRow.{RibbonRow}
use Rattle.desk_signals.specs.declared.RibbonRow.TheVariants as row
use Rattle.desk_wedge.specs.Wedge.{WedgeValues}
use Rattle.desk_case.specs.Case.{CaseValues}
use Rattle.desk_caster.specs.Caster.{Line, cast}
use Rattle.desk_caster.specs.declared.CastFault.{CastFault}
use Rattle.desk_caster.specs.declared.CastFault.TheVariants as cast_fault
use Rattle.desk_job.specs.Job.{job}
use Rattle.desk_job.specs.declared.JobFault.{JobFault}
use Rattle.desk_job.specs.declared.JobFault.TheVariants as fault

abbrev wedge : WedgeValues
wedge = record { number = 5; set_q = 48; pica = Sixth; units = 5 ∷ 6 ∷ 7 ∷ 8 ∷ 9 ∷ 9 ∷ 9 ∷ 10 ∷ 10 ∷ 11 ∷ 12 ∷ 13 ∷ 14 ∷ 15 ∷ 18 ∷ [] }

abbrev roman : ℕ → Symbol
roman c = record { style = Roman; ch = c }

abbrev row_of : (a b c : Option Symbol) → List (Option Symbol)
row_of a b c = a ∷ b ∷ c ∷ replicate 14 None

abbrev blank : List (Option Symbol)
blank = replicate 17 None

abbrev space : Cell
space = record { column = column.G; row = 1 }

abbrev o15 : Cell
o15 = record { column = column.O; row = 15 }

abbrev a5 : Cell
a5 = record { column = column.A; row = 5 }

abbrev case_one : CaseValues
case_one = record {
  number = 1;
  grid = row_of (Some (roman 46)) None None ++ blank ++ blank ++ row_of (Some (roman 116)) None None
      ++ row_of None (Some (roman 97)) (Some (record { style = Italic; ch = 97 })) ++ blank ++ blank ++ row_of (Some (roman 110)) None None
      ++ blank ++ blank ++ blank ++ blank ++ blank ++ row_of (Some (roman 109)) None None
      ++ row_of (Some (roman 77)) (Some (record { style = SmallCap; ch = 77 })) None;
  space = space;
  fill = o15 ∷ a5 ∷ [];
}

-- the same with the symbol q in NI8
abbrev case_seventeen : CaseValues
case_seventeen = record case_one {
  grid = row_of (Some (roman 46)) None None ++ blank ++ blank ++ row_of (Some (roman 116)) None None
      ++ row_of None (Some (roman 97)) (Some (record { style = Italic; ch = 97 })) ++ blank ++ blank
      ++ (Some (roman 110) ∷ replicate 14 None ++ (Some (roman 113) ∷ None ∷ []))
      ++ blank ++ blank ++ blank ++ blank ++ blank ++ row_of (Some (roman 109)) None None
      ++ row_of (Some (roman 77)) (Some (record { style = SmallCap; ch = 77 })) None;
}

abbrev settings_of : (tight loose : ℕ) → Key → Option ℕ
settings_of tight loose Measure = Some 120
settings_of tight loose Tight = Some tight
settings_of tight loose Loose = Some loose
settings_of tight loose Case = Some 1
settings_of tight loose Wedge = Some 5

abbrev standard : Key → Option ℕ
standard = settings_of 38 150

empty_copy : job [] standard case_one wedge ≡ Ok (row.FineOut 8 ∷ [])
empty_copy = refl

abbrev plain : Cell → RibbonRow
plain cell = row.Cell cell.column cell.row false

abbrev empty_paragraph_rows : List RibbonRow
empty_paragraph_rows = row.FineOut 8 ∷ row.Cell column.G 1 true ∷ (replicate 9 (plain o15) ++ (plain a5 ∷ row.Coarse 8 ∷ row.FineOut 7 ∷ []))

empty_paragraph : job (roman 10 ∷ []) standard case_one wedge ≡ Ok empty_paragraph_rows
empty_paragraph = refl

-- how many matrices each line has, and its total
abbrev in_short : Result (List Line) CastFault → List (ℕ × ℤ)
in_short (Ok ls) = map (λ l. (length l.matrices, l.total)) ls
in_short (Err e) = []

empty_paragraph_cast : in_short (cast case_one wedge empty_paragraph_rows) ≡ (11, pos 2159952) ∷ []
empty_paragraph_cast = refl

-- one word of a matrix in NI, and the same rows where the case has none there
abbrev wide_word_rows : List RibbonRow
wide_word_rows =
    row.FineOut 8 ∷ row.Cell column.NI 8 false ∷ row.Cell column.G 1 true ∷ (replicate 9 (plain o15) ++ (row.Coarse 7 ∷ row.FineOut 3 ∷ []))

wide_word : job (roman 113 ∷ []) standard case_seventeen wedge ≡ Ok wide_word_rows
wide_word = refl

wide_word_cast : in_short (cast case_seventeen wedge wide_word_rows) ≡ (11, pos 2159640) ∷ []
wide_word_cast = refl

no_wide_word : job (roman 113 ∷ []) standard case_one wedge ≡ Err (fault.NoMatrix 0 ∷ [])
no_wide_word = refl

no_wide_matrix : cast case_one wedge wide_word_rows ≡ Err (cast_fault.NoMatrix 1)
no_wide_matrix = refl

too_wide : job (replicate 18 (roman 110)) standard case_one wedge ≡ Err (fault.TooWide 1 ∷ [])
too_wide = refl

-- six times nnn
abbrev six_words : List Symbol
six_words = flat_map (λ k. replicate k (roman 110) ++ roman 32 ∷ []) (3 ∷ 3 ∷ 3 ∷ 3 ∷ 3 ∷ []) ++ replicate 3 (roman 110)

abbrev cast_job : Result (List RibbonRow) (List JobFault) → List (ℕ × ℤ)
cast_job (Ok rows) = in_short (cast case_one wedge rows)
cast_job (Err e) = []

two_lines : cast_job (job six_words standard case_one wedge) ≡ (19, pos 2159232) ∷ (12, pos 2159664) ∷ []
two_lines = refl

too_loose : job six_words (settings_of 38 60) case_one wedge ≡ Err (fault.TooLoose 1 ∷ [])
too_loose = refl

cannot_fill : job (roman 10 ∷ []) standard (record case_one { fill = o15 ∷ [] }) wedge ≡ Err (fault.CannotFill 1 ∷ [])
cannot_fill = refl

cannot_fill_at : job (roman 10 ∷ []) (settings_of 128 150) case_one wedge ≡ Err (fault.CannotFill 1 ∷ [])
cannot_fill_at = refl

can_fill_at : job (roman 10 ∷ []) (settings_of 127 150) case_one wedge ≡ Ok empty_paragraph_rows
can_fill_at = refl

crossed : job [] (settings_of 100 60) case_one wedge ≡ Err (fault.Crossed ∷ [])
crossed = refl

no_matrices : job (roman 97 ∷ roman 113 ∷ roman 110 ∷ roman 122 ∷ []) standard case_one wedge
    ≡ Err (fault.NoMatrix 1 ∷ fault.NoMatrix 3 ∷ [])
no_matrices = refl

no_settings : job [] (λ key. None) case_one wedge ≡ Err (fault.MissingSetting Measure ∷ [])
no_settings = refl

fill_order : job [] standard (record case_one { fill = a5 ∷ o15 ∷ [] }) wedge ≡ Err (fault.FillOrder ∷ [])
fill_order = refl

vanishes : job [] (settings_of 16 150) case_one (record wedge { set_q = 20; units = 4 ∷ 6 ∷ 7 ∷ 8 ∷ 9 ∷ 9 ∷ 9 ∷ 10 ∷ 10 ∷ 11 ∷ 12 ∷ 13 ∷ 14 ∷ 15 ∷ 18 ∷ [] })
    ≡ Err (fault.SpaceVanishes ∷ [])
vanishes = refl
