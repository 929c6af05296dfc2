use Rattle.std.proofs.Common.{rules, arith}
use Rattle.desk_held.proofs.Joins.{gained-more, places-more}
use Rattle.desk_held.proofs.Held.add_each.Goals as goal

pub loop-taken-preserved : goal.loop-taken-preserved
loop-taken-preserved g c = record {
  whole = gained-more c.args.self.now.ops c.loop-taken.self.ops c.add.new.self.ops c.args.ops.now c.loop-taken.taken _ c.loop-taken-test.true (search rules) c.loop-taken.invariant.whole c.in_default.ensures.ok;
  room = omega (arith, c.loop-taken.invariant.room, c.add.ensures.spare);
  places = places-more c.loop-taken.self.ops c.add.new.self.ops _ _ c.loop-taken.self.spare c.add.new.self.spare c.loop-taken.invariant.places c.in_default.ensures.ok c.add.ensures.known_spare c.add.ensures.spare;
}
