use Rattle.std.proofs.Common.{◌∙◌, ◌+◌, ap, string_bytes}
use Rattle.std.specs.Prelude.{codes}
use Rattle.view_ribbon.specs.Channels.{name_place, x_of}
use Rattle.view_ribbon.proofs.Texts.{same_number}
use Rattle.view_ribbon.proofs.channels.put_name_place.Goals as goal

pub returns : goal.returns
unfolding name_place
returns g c =
    same_number c.put_between.result (string_bytes c.args.out.now) (string_bytes c.put_between.new.out) (codes "<text transform=\"translate(") (codes ",46) rotate(-60)\">") c.from.result (x_of c.args.signal + 3)
    (c.from.ensures ∙ ap (λ n. n + 3) c.x_of.ensures.value) c.put_between.ensures
