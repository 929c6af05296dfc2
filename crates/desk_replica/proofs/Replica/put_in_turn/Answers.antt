use Rattle.std.proofs.Common.{◌∙◌, ap, sym, subst}
use Rattle.desk_ops.specs.OpSet.{with_all}
use Rattle.desk_replica.specs.State.{AreApart}
use Rattle.desk_replica.proofs.Unforked.{apart-reversed, gained-reversed}
use Rattle.desk_replica.proofs.Replica.put_in_turn.Goals as goal

pub returns-then-would_wait-clause-apart : goal.returns-then-would_wait-clause-apart
returns-then-would_wait-clause-apart g c = subst (AreApart c.args.self.now.ops) (sym c.reverse.ensures.items) (apart-reversed c.args.self.now.ops c.args.ops.now.items c.requires.apart)

pub returns-then-would_wait-clause-same : goal.returns-then-would_wait-clause-same
returns-then-would_wait-clause-same g c = ap (with_all c.args.self.now.ops) c.reverse.ensures.items ∙ gained-reversed c.args.self.now.ops c.args.ops.now.items
