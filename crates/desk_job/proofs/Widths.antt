-- The widths of a case's fills: all more than 0, and each less than the one before it.
use Rattle.std.proofs.Common.{◌≡◌, ℕ, suc, ◌-◌, ◌*◌, ◌≤◌, ◌<◌, true, List, [], ◌∷◌, arith}
use Rattle.std.specs.Prelude.{nat_lt}
use Rattle.std.specs.List.{All, AllByRecursion}
use Rattle.std.proofs.lemmas.Int.{ints}
use Rattle.std.proofs.lemmas.Bool.{and_parts}
use Rattle.std.proofs.lemmas.Bool.Decides.{nat_tests}
use Rattle.std.proofs.lemmas.List.Elements.{All-get_or, recursion_from_All, All-from_recursion}
use Rattle.std.proofs.Math.Nat.{mul-le-mul_left}
use Rattle.desk_signals.specs.declared.Cell.{Cell}
use Rattle.desk_wedge.specs.Wedge.{WedgeValues, IsWedge, IsUnits, units_of_row}
use Rattle.desk_case.specs.Names.{IsCell}
use Rattle.desk_case.specs.File.{is_descending, units_of_cells}
use Rattle.desk_units.specs.Widths.{unit_atoms}
use Rattle.desk_units.specs.declared.Pica.{Pica}
use Rattle.desk_units.specs.declared.Pica.TheVariants.{Sixth, American}
use Rattle.desk_justify.specs.Filled.{ArePositive, Descend}
use Rattle.desk_caster.specs.Caster.{row_width}
use Rattle.desk_job.specs.Job.{Terms, widths_of, fill_widths}
use Rattle.desk_job.specs.Terms.{IsUsable, IsSmall, widest_at_neutral}

pub units_in : (w : WedgeValues) (cell : Cell) → IsWedge w → IsCell cell → IsUnits (units_of_row w cell.row)
units_in w cell is cell_is = All-get_or IsUnits w.units (cell.row - 1) 0 (let n = is.units.rows in omega (arith, n, cell_is.0, cell_is.1)) is.units.each

atoms_some : (p : Pica) → 1 ≤ unit_atoms p
atoms_some Sixth = omega arith
atoms_some American = omega arith

some_product : (a b : ℕ) → 1 ≤ a → 1 ≤ b → 1 ≤ a * b
some_product a b h k = let more = mul-le-mul_left {m = 1} {n = b} a k in omega (arith, h, more)

-- the atoms of a unit
abbrev pub unit_width : WedgeValues → ℕ
unit_width w = w.set_q * unit_atoms w.pica

pub unit_some : (w : WedgeValues) → IsWedge w → 1 ≤ unit_width w
unit_some w is = some_product w.set_q (unit_atoms w.pica) (omega (arith, is.set_q.0)) (atoms_some w.pica)

pub row_width_is : (w : WedgeValues) (row : ℕ) → row_width w row ≡ units_of_row w row * unit_width w
row_width_is w row = omega arith

pub width_low : (w : WedgeValues) (cell : Cell) → IsWedge w → IsCell cell → unit_width w ≤ row_width w cell.row
width_low w cell is cell_is =
    let some = units_in w cell is cell_is in
    let more = mul-le-mul_left {m = 1} {n = units_of_row w cell.row} (unit_width w) some.0 in
    let e = row_width_is w cell.row in
    omega (arith, more, e)

pub all_positive : (w : WedgeValues) (cells : List Cell) → IsWedge w → AllByRecursion IsCell cells → ArePositive (widths_of w cells)
all_positive w [] is cells_are = tt
all_positive w (cell ∷ cells) is cells_are =
    let low = width_low w cell is cells_are.0 in
    let some = unit_some w is in
    let e : 1 ≤ row_width w cell.row = omega (arith, low, some) in
    (omega (arith, ints, e), all_positive w cells is cells_are.1)

less_width : (n u v : ℕ) → 1 ≤ n → v < u → v * n < u * n
less_width n u v some below =
    let more = mul-le-mul_left {m = suc v} {n = u} n below in omega (arith, some, more)

pub all_descend : (w : WedgeValues) (cells : List Cell) → IsWedge w → is_descending (units_of_cells w cells) ≡ true → Descend (widths_of w cells)
all_descend w [] is reported = tt
all_descend w (cell ∷ []) is reported = tt
all_descend w (cell ∷ next ∷ cells) is reported =
    let parts = and_parts (nat_lt (units_of_row w next.row) (units_of_row w cell.row)) (is_descending (units_of_cells w (next ∷ cells))) reported in
    let test = parts.0 in
    let below : units_of_row w next.row < units_of_row w cell.row = grind (arith, nat_tests) in
    let less = less_width (unit_width w) (units_of_row w cell.row) (units_of_row w next.row) (unit_some w is) below in
    let e = row_width_is w cell.row in
    let f = row_width_is w next.row in
    let g : row_width w next.row < row_width w cell.row = omega (arith, e, f, less) in
    (omega (arith, ints, g), all_descend w (next ∷ cells) is parts.1)

pub fills_positive : (terms : Terms) → IsUsable terms → ArePositive (fill_widths terms)
fills_positive terms is = all_positive terms.wedge terms.case.fill is.wedge (recursion_from_All IsCell terms.case.fill is.case.fill)

pub fills_descend : (terms : Terms) → IsUsable terms → Descend (fill_widths terms)
fills_descend terms is = all_descend terms.wedge terms.case.fill is.wedge is.descend

width_high : (w : WedgeValues) (cell : Cell) → IsWedge w → IsCell cell → row_width w cell.row ≤ widest_at_neutral
width_high w cell is cell_is =
    let some = units_in w cell is cell_is in
    let e = row_width_is w cell.row in
    let a : unit_width w ≤ 96 * 250 = unit_high w.pica w.set_q (omega (arith, is.set_q.1)) in
    let more = mul-le-mul_left {m = unit_width w} {n = 96 * 250} (units_of_row w cell.row) a in
    omega (arith, some.1, e, more)
  where
    unit_high : (p : Pica) (q : ℕ) → q ≤ 96 → q * unit_atoms p ≤ 96 * 250
    unit_high Sixth q h = omega (arith, h)
    unit_high American q h = omega (arith, h)

pub all_small : (w : WedgeValues) (cells : List Cell) → IsWedge w → AllByRecursion IsCell cells → AllByRecursion IsSmall (widths_of w cells)
all_small w [] is cells_are = tt
all_small w (cell ∷ cells) is cells_are =
    let low = width_low w cell is cells_are.0 in
    let some = unit_some w is in
    let high = width_high w cell is cells_are.0 in
    let e : 1 ≤ row_width w cell.row = omega (arith, low, some) in
    (record { some = omega (arith, ints, e); limit = omega (arith, ints, high) }, all_small w cells is cells_are.1)

pub fills_small : (terms : Terms) → IsUsable terms → All IsSmall (fill_widths terms)
fills_small terms is =
    All-from_recursion IsSmall (fill_widths terms) (all_small terms.wedge terms.case.fill is.wedge (recursion_from_All IsCell terms.case.fill is.case.fill))
