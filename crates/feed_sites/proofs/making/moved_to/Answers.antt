use Rattle.std.proofs.Common.{◌∙◌, sym}
use Rattle.feed_sites.proofs.Refused.{free}
use Rattle.feed_sites.proofs.making.moved_to.Goals as goal

pub returns-in-Some-clause-err : goal.returns-in-Some-clause-err
returns-in-Some-clause-err g c = (
  free c.args.site c.args.feed.now.ops c.args.other.now.ops c.args.ops.now c.args.others.now c.any_uses.result c.any_uses-else-any_uses.result c.requires.listed c.requires.other_listed c.any_uses.ensures c.any_uses-else-any_uses.ensures c.if-any_uses.false c.if-any_uses-2.false,
  c.in_ok-moved.moved.ops,
  c.in_ok-moved.ensures,
  sym c.first_seen.ensures ∙ c.in-Some.is,
)

pub returns-then-branch-clause-err : goal.returns-then-branch-clause-err
returns-then-branch-clause-err g c = (
  free c.args.site c.args.feed.now.ops c.args.other.now.ops c.args.ops.now c.args.others.now c.any_uses.result c.any_uses-else-any_uses.result c.requires.listed c.requires.other_listed c.any_uses.ensures c.any_uses-else-any_uses.ensures c.if-any_uses.false c.if-any_uses-2.false,
  c.in_ok-moved.moved.ops,
  c.in_ok-moved.ensures,
  sym c.first_seen.ensures ∙ c.in_default.is,
  c.in_ok-clashes.ensures.0 c.if-branch.true,
)
