use Rattle.std.proofs.lemmas.Str.Pattern.{split_parts}
use Rattle.feed_stored.proofs.text.cut_at.Goals as goal

pub returns : goal.returns
returns c = split_parts c.args.end c.args.text.now c.split_once.result c.split_once.ensures.cases c.requires
