use Rattle.std.proofs.Common.{arith}
use Rattle.text_copy.specs.declared.making.Change.TheVariants as changes
use Rattle.feed_edit.proofs.Sites.{deletes_next, inserts_next}
use Rattle.feed_edit.proofs.editing.tally_of.Goals as goal
use Rattle.feed_edit.proofs.editing.tally_of.Goals.{in-Insert, in-Delete}

pub loop-change-preserved : goal.loop-change-preserved
loop-change-preserved c = elim c.match-change.branch [
  | in-Insert w ↦
      let inserts = inserts_next c.args.made.now c.loop-change.change-index (changes.Delete 0) c.loop-change-test.true (changes.Insert w.in-Insert.place w.in-Insert.symbol) w.in-Insert.is in
      let deletes = deletes_next c.args.made.now c.loop-change.change-index (changes.Delete 0) c.loop-change-test.true (changes.Insert w.in-Insert.place w.in-Insert.symbol) w.in-Insert.is in
      record { inserted = omega (arith, inserts); deleted = omega (arith, deletes); few_inserted = omega arith; few_deleted = omega arith }
  | in-Delete w ↦
      let inserts = inserts_next c.args.made.now c.loop-change.change-index (changes.Delete 0) c.loop-change-test.true (changes.Delete w.in-Delete.place) w.in-Delete.is in
      let deletes = deletes_next c.args.made.now c.loop-change.change-index (changes.Delete 0) c.loop-change-test.true (changes.Delete w.in-Delete.place) w.in-Delete.is in
      record { inserted = omega (arith, inserts); deleted = omega (arith, deletes); few_inserted = omega arith; few_deleted = omega arith }
]
