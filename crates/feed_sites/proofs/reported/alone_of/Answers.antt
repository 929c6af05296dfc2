use Rattle.feed_sites.proofs.Sets.{list_rises, sets_one, reports_sets}
use Rattle.std.proofs.Common.{◌∙◌}
use Rattle.std.specs.Prelude.{string_bytes}
use Rattle.feed_sites.proofs.reported.alone_of.Goals as goal

pub alone_lines-requires-clause-first : goal.alone_lines-requires-clause-first
alone_lines-requires-clause-first g c = list_rises c.args.first.now.ops c.deref.result.now (c.deref.ensures.value ∙ c.in_ok-ones.ensures.items)

pub alone_lines-requires-clause-second : goal.alone_lines-requires-clause-second
alone_lines-requires-clause-second g c = list_rises c.args.second.now.ops c.deref-2.result.now (c.deref-2.ensures.value ∙ c.in_ok-others.ensures.items)

pub returns-clause-text : goal.returns-clause-text
returns-clause-text g c =
    reports_sets c.args.one.now c.args.other.now c.args.first.now.ops c.args.second.now.ops c.deref.result.now c.deref-2.result.now (string_bytes c.in_ok-lines.lines) (c.deref.ensures.value ∙ c.in_ok-ones.ensures.items)
    (c.deref-2.ensures.value ∙ c.in_ok-others.ensures.items) c.in_ok-lines.ensures

pub returns-clause-same : goal.returns-clause-same
returns-clause-same g c =
    sets_one c.args.first.now.ops c.args.second.now.ops c.deref-3.result.now c.deref-4.result.now c.are_one.result (c.deref-3.ensures.value ∙ c.in_ok-ones.ensures.items) (c.deref-4.ensures.value ∙ c.in_ok-others.ensures.items) c.are_one.ensures
