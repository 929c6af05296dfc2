use Rattle.std.proofs.Common.{◌∙◌}
use Rattle.std.proofs.lemmas.Result.{err_from_is_err_and}
use Rattle.feed_edit.proofs.Changing.{made_next, refused_next}
use Rattle.feed_edit.proofs.editing.put_edits.Goals as goal

pub returns-in_err-put_edit-clause-refused : goal.returns-in_err-put_edit-clause-refused
returns-in_err-put_edit-clause-refused g c =
    let p = err_from_is_err_and c.from_residual.result c.from_residual.ensures.1 in
    rw p.1 (rw p.2 (refused_next c.args.made.now c.loop-change.change-index _ c.loop-change-test.true c.args.replica.now.site c.args.replica.now.ops c.loop-change.replica.ops c.put_edit.new.replica.ops c.loop-change.invariant.made.0 c.in_err-put_edit.field-0.0 c.in_err-put_edit.ensures.same
    c.loop-change.invariant.made.1 c.in_err-put_edit.ensures.refused))

pub loop-change-preserved : goal.loop-change-preserved
loop-change-preserved g c = record {
  site = c.put_edit.ensures.site ∙ c.loop-change.invariant.site;
  made = made_next c.args.made.now c.loop-change.change-index _ c.loop-change-test.true c.args.replica.now.site c.loop-change.replica.site c.args.replica.now.ops c.loop-change.replica.ops c.put_edit.new.replica.ops c.loop-change.invariant.made.0 c.in_ok-put_edit.ensures.made.0
      c.loop-change.invariant.site c.loop-change.invariant.made.1 c.in_ok-put_edit.ensures.made.1;
}
