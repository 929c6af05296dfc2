use Rattle.std.proofs.Common.{◌∙◌}
use Rattle.std.proofs.lemmas.List.{get_or_default}
use Rattle.desk_held.proofs.Joins.{gained-more}
use Rattle.desk_replica.proofs.Sets.{room-rest, room-joined, rest-refused}
use Rattle.desk_replica.proofs.Replica.take_in.Goals as goal

pub loop-taken-preserved : goal.loop-taken-preserved
loop-taken-preserved g c = record {
  gained = gained-more c.args.self.now.ops c.loop-taken.self.ops _ c.args.ops.now c.loop-taken.taken _ c.loop-taken-test.true (get_or_default c.args.ops.now c.loop-taken.taken _ _ c.loop-taken-test.true) c.loop-taken.invariant.gained c.in_default.ensures.ok;
  site = c.in_default.ensures.site ∙ c.loop-taken.invariant.site;
  room = λ r. room-rest c.loop-taken.self.ops _ c.loop-taken.self.spare _ c.args.ops.now c.loop-taken.taken _ c.loop-taken-test.true (get_or_default c.args.ops.now c.loop-taken.taken _ _ c.loop-taken-test.true) (c.loop-taken.invariant.room r) c.in_default.ensures.ok c.in_default.ensures.spare c.in_default.ensures.known_spare;
}

pub loop-taken-init : goal.loop-taken-init
loop-taken-init g c = record {
  gained = c.take_first-first.ensures.joined;
  site = c.take_first-first.ensures.site;
  room = λ r. room-joined c.args.self.now.ops c.take_first-first.new.self.ops c.args.self.now.spare c.take_first-first.new.self.spare c.args.ops.now c.take_first-first.result r c.take_first-first.ensures.joined (c.take_first-first.ensures.whole r.below);
}

pub returns-in-Err-clause-room : goal.returns-in-Err-clause-room
returns-in-Err-clause-room g c = λ r.
    absurd (rest-refused c.loop-taken.self.ops c.loop-taken.self.spare c.args.ops.now c.loop-taken.taken _ c.in-Err.why c.loop-taken-test.true (get_or_default c.args.ops.now c.loop-taken.taken _ _ c.loop-taken-test.true) (c.loop-taken.invariant.room r) c.in-Err.ensures.full c.in-Err.ensures.memory)
