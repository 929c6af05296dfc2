use Rattle.std.proofs.Common.{◌≡◌, ◌∙◌, sym, ap}
use Rattle.std.specs.List.{filter}
use Rattle.desk_ops.specs.OpSet.{in_order}
use Rattle.feed_sites.specs.Moving.{AreMoved, is_moved}
use Rattle.feed_sites.proofs.Moved.{are_moved, ok_of}
use Rattle.feed_sites.proofs.moving.moved_of.Goals as goal

pub returns : goal.returns
returns g c =
    ok_of (λ h. in_order h.ops ≡ c.deref-2.result.now) (λ h. AreMoved c.args.feed.now.ops c.args.other.now.ops h.ops) c.of_rising.result _ c.ok_or.result c.ok_or.ensures.value
    (λ h is. are_moved c.args.feed.now.ops c.args.other.now.ops c.args.ops.now c.in_ok-firsts.firsts.items c.requires.listed c.in_ok-firsts.ensures.from h.ops c.deref-2.result.now is (c.deref-2.ensures.value ∙ c.in_ok-moved.ensures.value ∙ ap (λ l. filter (is_moved l c.args.other.now.ops) c.args.ops.now) c.deref.ensures.value)) c.of_rising.ensures.listed
