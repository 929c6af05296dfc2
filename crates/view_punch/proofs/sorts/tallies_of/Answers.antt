use Rattle.std.proofs.Common.{sym, ◌∙◌, ◌+◌, get_or, subst}
use Rattle.std.specs.BTreeMap.{BTreeMap, get}
use Rattle.std.proofs.lemmas.Option.{slice_get-get_or}
use Rattle.desk_ops.specs.declared.op.Symbol.{Symbol}
use Rattle.desk_ops.specs.declared.op.Style.TheVariants.{Roman}
use Rattle.view_punch.specs.declared.sorts.Sort.{Sort}
use Rattle.view_punch.specs.Counting.{IsKnown}
use Rattle.view_punch.specs.Sorts.{symbol_cmp}
use Rattle.view_punch.proofs.Tallies.{known_counted, known_skipped}
use Rattle.view_punch.proofs.sorts.tallies_of.Goals as goal
use Rattle.view_punch.proofs.sorts.tallies_of.Goals.{then-not-is_line_feed+in_ok-count, else-not-is_line_feed}

pub loop-place-preserved : goal.loop-place-preserved
loop-place-preserved g c = λ q.
    let copy = c.args.copy.now in
    let n = c.loop-place.place in
    let d : Symbol = record { style = Roman; ch = 0 } in
    let s = get_or copy n d in
    let here = slice_get-get_or copy n d c.loop-place-test.true in
    let P : BTreeMap Symbol Sort → Type 0 = λ m. IsKnown copy (n + 1) q (get symbol_cmp m q) in
    elim c.if-not-is_line_feed.branch [
      | then-not-is_line_feed+in_ok-count w ↦
          subst P (sym w.tallies-is) (known_counted copy n s q c.loop-place.tallies w.count.new.tallies here (sym c.is_line_feed.ensures ∙ w.if-not-is_line_feed.true) w.in_ok-count.ensures c.loop-place.invariant)
      | else-not-is_line_feed w ↦
          subst P (sym w.tallies-is) (known_skipped copy n s q (get symbol_cmp c.loop-place.tallies q) here (sym c.is_line_feed.ensures ∙ w.if-not-is_line_feed.false) (c.loop-place.invariant q))
    ]
