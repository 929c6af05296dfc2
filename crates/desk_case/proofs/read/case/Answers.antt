use Rattle.std.proofs.Common.{◌≡◌, ◌∙◌, ◌∷◌, Ok, None, length, sym, ap, arith}
use Rattle.desk_case.specs.Case.{IsIndexOf}
use Rattle.desk_case.specs.File.{grid_from, first_doubled, first_held}
use Rattle.desk_case.specs.Reading.{sheet_seen}
use Rattle.toml.specs.View.{table_view}
use Rattle.desk_case.proofs.Lawful.{lawful, key_length, grid_length}
use Rattle.desk_case.proofs.read.case.Goals as goal

pub grid-requires : goal.grid-requires
grid-requires c =
    let long = key_length (table_view c.args.table.now) (sheet_seen c.in_ok-sheet.sheet) c.in_ok-sheet.ensures in
    omega (arith, long, ap length c.as_slice.ensures.value)

pub cells-requires : goal.cells-requires
cells-requires c =
    let long = key_length (table_view c.args.table.now) (sheet_seen c.in_ok-sheet.sheet) c.in_ok-sheet.ensures in
    let same = grid_length 0 c.as_slice.result.now c.in_ok-grid.grid.items c.in_ok-grid.ensures in
    omega (arith, long, same, ap length c.as_slice.ensures.value, ap length c.as_slice-2.ensures.value)

pub first_held-requires : goal.first_held-requires
first_held-requires c =
    let long = key_length (table_view c.args.table.now) (sheet_seen c.in_ok-sheet.sheet) c.in_ok-sheet.ensures in
    let same = grid_length 0 c.as_slice.result.now c.in_ok-grid.grid.items c.in_ok-grid.ensures in
    omega (arith, long, same, ap length c.as_slice.ensures.value, ap length c.as_slice-3.ensures.value)

pub invariant_of-result : goal.invariant_of-result
invariant_of-result c =
    let read : grid_from 0 c.in_ok-sheet.sheet.matrices.items ≡ Ok c.in_ok-grid.grid.items = rw (← c.as_slice.ensures.value) c.in_ok-grid.ensures in
    let apart : first_doubled c.in_ok-grid.grid.items ≡ None = rw (← c.as_slice-2.ensures.value) (c.in_ok-cells.ensures.ok.0) in
    let index : IsIndexOf c.in_ok-cells.cells.entries c.in_ok-grid.grid.items = rw (← c.as_slice-2.ensures.value) (c.in_ok-cells.ensures.ok.1) in
    let blank : first_held c.in_ok-grid.grid.items (c.in_ok-space.space ∷ c.in_ok-fill.fill.items) ≡ None =
    ap (λ grid. first_held grid (c.in_ok-space.space ∷ c.in_ok-fill.fill.items)) (sym c.as_slice-3.ensures.value)
    ∙ ap (λ fill. first_held c.as_slice-3.result.now (c.in_ok-space.space ∷ fill)) (sym c.as_slice-4.ensures.value)
    ∙ sym c.in-None.ensures in (
      lawful (table_view c.args.table.now) c.in_ok-number.number (sheet_seen c.in_ok-sheet.sheet) c.in_ok-space.space c.in_ok-fill.fill.items c.in_ok-grid.grid.items
          (sym c.in_ok-number.ensures) c.in_ok-sheet.ensures (sym c.in_ok-space.ensures) c.in_ok-fill.ensures read apart blank,
      index,
    )
