use Rattle.std.proofs.Common.{◌∙◌, ap, nat_eq}
use Rattle.std.specs.Cmp.Lexicographic.{pointwise}
use Rattle.feed_sites.proofs.Names.{end_decides, front_apart}
use Rattle.feed_sites.proofs.renewing.is_writing_of.Goals as goal

pub returns-then-ne : goal.returns-then-ne
returns-then-ne c = (λ never. absurd (cc), λ named. absurd (front_apart c.args.new.now c.args.feed.now c.split_at.result.0.now c.ne.result c.split_at.ensures.front c.ne.ensures c.if-ne.true named))

pub returns : goal.returns
returns c = end_decides c.args.new.now c.args.feed.now c.split_at.result.0.now c.split_at.result.1.now c.ne.result c.eq.result c.split_at.ensures.front c.split_at.ensures.back c.ne.ensures c.if-ne.false (c.eq.ensures ∙ ap (pointwise nat_eq c.split_at.result.1.now) c.as_slice.ensures)
