use Rattle.std.proofs.Common.{◌∙◌, string_bytes}
use Rattle.std.specs.Prelude.{codes}
use Rattle.view_ribbon.specs.Channels.{x_of}
use Rattle.view_ribbon.specs.Rows.{hole_x}
use Rattle.view_ribbon.proofs.Texts.{same_number}
use Rattle.view_ribbon.proofs.rows.put_hole_x.Goals as goal

pub returns : goal.returns
unfolding hole_x
returns g c =
    same_number c.put_between.result (string_bytes c.args.out.now) (string_bytes c.put_between.new.out) (codes "<circle cx=\"") (codes "\"") c.from.result (x_of c.args.signal) (c.from.ensures ∙ c.x_of.ensures.value) c.put_between.ensures
