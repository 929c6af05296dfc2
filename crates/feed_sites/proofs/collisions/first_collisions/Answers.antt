use Rattle.std.proofs.Common.{◌∙◌, ◌||◌, ap, length, sym}
use Rattle.feed_sites.specs.Moving.{is_from, leads_to}
use Rattle.feed_sites.proofs.Noted.{noted, passed, past_end}
use Rattle.feed_sites.proofs.collisions.first_collisions.Goals.{then-collides, else-collides}
use Rattle.feed_sites.proofs.collisions.first_collisions.Goals as goal

pub loop-op-preserved : goal.loop-op-preserved
loop-op-preserved g c = elim c.if-collides.branch [
  | then-collides w ↦ record {
    long = ap (λ v. length v.items) w.firsts-is ∙ w.note.ensures.length;
    found = λ s. noted c.args.feed.now.ops c.args.other.now.ops c.args.ops.now c.loop-op.op-index past_end c.loop-op-test.true s c.stamp-stamp.result c.stamp-stamp.ensures (is_from c.loop-op.firsts.items s) (is_from c.if-collides.firsts.items s) _ (c.loop-op.invariant.found s) (sym c.collides.ensures ∙ w.if-collides.true) (ap (λ v. is_from v.items s) w.firsts-is ∙ w.note.ensures.from s);
  }
  | else-collides w ↦ record {
    long = ap (λ v. length v.items) w.firsts-is ∙ c.loop-op.invariant.long;
    found = λ s. passed c.args.feed.now.ops c.args.other.now.ops c.args.ops.now c.loop-op.op-index past_end c.loop-op-test.true s c.stamp-stamp.result c.stamp-stamp.ensures (is_from c.loop-op.firsts.items s) (is_from c.if-collides.firsts.items s) _ (c.loop-op.invariant.found s) (sym c.collides.ensures ∙ w.if-collides.false) (ap (λ v. is_from v.items s) w.firsts-is);
  }
]
