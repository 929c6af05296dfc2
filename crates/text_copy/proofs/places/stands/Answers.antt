use Rattle.std.proofs.Common.{◌∙◌}
use Rattle.text_copy.proofs.Finding.{stands_is}
use Rattle.text_copy.proofs.places.stands.Goals as goal

pub returns : goal.returns
returns c = c.starts_with.ensures.value ∙ stands_is c.args.text.now c.args.copy.now c.args.place
