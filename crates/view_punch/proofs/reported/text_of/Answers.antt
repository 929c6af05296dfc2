use Rattle.view_punch.proofs.Within.{within}
use Rattle.view_punch.proofs.reported.text_of.Goals as goal

pub put_sorts-requires : goal.put_sorts-requires
put_sorts-requires g c = within c.args.copy.now c.args.sorts.now c.requires
