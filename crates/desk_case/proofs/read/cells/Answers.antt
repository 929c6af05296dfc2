use Rattle.std.proofs.Common.{◌∙◌, sym, ap, None, ◌++◌, ◌∷◌, []}
use Rattle.indexmap.proofs.CallerLemmas.{insert_entry-new}
use Rattle.desk_ops.proofs.Lists.{none_of}
use Rattle.desk_case.specs.Case.{same_symbol}
use Rattle.desk_case.proofs.Indexes.{blank_indexed, symbol_indexed}
use Rattle.desk_case.proofs.read.cells.Goals as goal
use Rattle.desk_case.proofs.read.cells.Goals.{in-Some+else-contains_key+in_ok-insert, in_default}

pub loop-at-preserved : goal.loop-at-preserved
loop-at-preserved c =
    elim c.match-held.branch [
      | in-Some+else-contains_key+in_ok-insert w ↦
          let new = sym w.contains_key.ensures ∙ w.if-contains_key.false in
          rw (w.cells-is) (symbol_indexed c.args.grid.now c.loop-at.at c.loop-at.cells.entries w.insert.new.self.entries None w.in-Some.symbol c.loop-at-test.true w.in-Some.is new
          (w.in_ok-insert.ensures.entries ∙ insert_entry-new same_symbol c.loop-at.cells w.in-Some.symbol w.cell_of_place.result (none_of _ new)
          ∙ ap (λ cell. c.loop-at.cells.entries ++ (w.in-Some.symbol, cell) ∷ []) w.cell_of_place.ensures)
          c.loop-at.invariant)
      | in_default w ↦ rw (w.cells-is) (blank_indexed c.args.grid.now c.loop-at.at c.loop-at.cells.entries None c.loop-at-test.true w.in_default.is c.loop-at.invariant)
    ]
