use Rattle.std.proofs.Common.{◌∙◌, sym}
use Rattle.desk_blocks.proofs.Places.{shown-count}
use Rattle.desk_blocks.proofs.blocks.BlocksSequence.shown_len.Goals as goal

pub returns : goal.returns
returns g c = rw (← c.self.view_is) (c.self.invariant.2 ∙ sym (shown-count c.self.inside.pages.entries))
