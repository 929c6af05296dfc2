use Rattle.std.proofs.Common.{sym, ◌∙◌, ap, get_or}
use Rattle.std.specs.Map.{lookup}
use Rattle.std.specs.Ordering.{is_eq}
use Rattle.std.proofs.lemmas.Option.{slice_get-get_or}
use Rattle.desk_ops.specs.declared.op.Symbol.{Symbol}
use Rattle.desk_ops.specs.declared.op.Style.TheVariants.{Roman}
use Rattle.view_punch.specs.Sorts.{symbol_cmp}
use Rattle.view_punch.proofs.PlaceByPlace.{found_more, found_none, found_skipped}
use Rattle.view_punch.proofs.places.find.Goals as goal
use Rattle.view_punch.proofs.places.find.Goals.{then-lacks+in_ok-add, else-lacks}

pub loop-place-init : goal.loop-place-init
loop-place-init g c =
    found_none c.args.copy.now c.args.case.now c.new-found.result (λ q. ap (lookup (λ k. is_eq (symbol_cmp q k))) c.new-found.ensures.empty)

pub loop-place-preserved : goal.loop-place-preserved
loop-place-preserved g c =
    let copy = c.args.copy.now in
    let case = c.args.case.now in
    let n = c.loop-place.place in
    let d : Symbol = record { style = Roman; ch = 0 } in
    let s = get_or copy n d in
    let here = slice_get-get_or copy n d c.loop-place-test.true in
    elim c.if-lacks.branch [
      | then-lacks+in_ok-add w ↦
          rw w.found-is (found_more copy case n s c.loop-place.found w.add.new.found here w.in_ok-add.ensures c.loop-place.invariant)
      | else-lacks w ↦
          rw w.found-is (found_skipped copy case n s c.loop-place.found here (sym c.lacks.ensures ∙ w.if-lacks.false) c.loop-place.invariant)
    ]
