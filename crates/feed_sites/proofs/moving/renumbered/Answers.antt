use Rattle.feed_sites.proofs.Under.{lawful_under}
use Rattle.desk_ops.specs.Op.{IsLawful}
use Rattle.std.proofs.Common.{sym, subst}
use Rattle.feed_sites.proofs.moving.renumbered.Goals as goal

pub returns-then-has-clause-lawful : goal.returns-then-has-clause-lawful
returns-then-has-clause-lawful g c = subst IsLawful (sym c.op_under.ensures) (lawful_under c.args.site c.args.moved.now.ops c.requires.numbered c.len.ensures.lawful c.args.op.now c.requires.lawful)
