-- What holds of the terms of every job that has no fault before its symbols.
use Rattle.std.specs.Prelude.{◌≡◌, ℕ, ◌^◌, ◌≤◌, true, ℤ, pos, ◌≤ℤ◌, ◌<ℤ◌}
use Rattle.desk_units.specs.WedgeSum.{IsWedgeSum}
use Rattle.desk_units.specs.Widths.{measure_width, units_width}
use Rattle.desk_units.specs.declared.Pica.TheVariants.{Sixth}
use Rattle.desk_wedge.specs.Wedge.{IsWedge}
use Rattle.desk_case.specs.Case.{IsCase}
use Rattle.desk_case.specs.File.{is_descending, units_of_cells}
use Rattle.desk_ops.specs.Op.{IsValue}
use Rattle.desk_ops.specs.declared.op.Key.TheVariants.{Measure, Tight, Loose}
use Rattle.desk_job.specs.declared.terms.Values.{Values}
use Rattle.desk_job.specs.Job.{Terms, tight_space}

-- the longest measure: 720 points, by the longer pica
abbrev pub longest_measure : ℕ
longest_measure = measure_width 720 Sixth

-- a bound of what is left of a measure, below zero: words are wider than the measure by no more
abbrev pub most_over : ℕ
most_over = 2 ^ 62

-- the widest matrix at neutral: 24 units, at the greatest set and by the longer pica
abbrev pub widest_at_neutral : ℕ
widest_at_neutral = units_width 24 96 Sixth

-- the case and the wedge are lawful, the values are in their ranges, the fills descend, and a space at tight is wider
-- than 0
pub record IsUsable (terms : Terms) : Type 0 where
  pub case : IsCase terms.case
  pub wedge : IsWedge terms.wedge
  pub points : (12 ≤ terms.points) × (terms.points ≤ 720)
  pub tight : IsWedgeSum terms.tight
  pub loose : IsWedgeSum terms.loose
  pub descend : is_descending (units_of_cells terms.wedge terms.case.fill) ≡ true
  pub space : pos 0 <ℤ tight_space terms

-- The width is above 0, and no more than the widest matrix has at neutral.
pub record IsSmall (width : ℤ) : Type 0 where
  pub some : pos 1 ≤ℤ width
  pub limit : width ≤ℤ pos widest_at_neutral

-- The values are in their ranges.
pub record AreLawful (values : Values) : Type 0 where
  pub measure : IsValue Measure values.measure
  pub tight : IsValue Tight values.tight
  pub loose : IsValue Loose values.loose
