use Rattle.std.proofs.Common.{◌∙◌, ap}
use Rattle.view_ribbon.specs.Picture.{picture_text}
use Rattle.view_ribbon.proofs.drawing.drawn.Goals as goal

pub returns-in_ok-picture_of-in-Ok : goal.returns-in_ok-picture_of-in-Ok
returns-in_ok-picture_of-in-Ok g c = (c.in-Ok.rows.items, c.in-Ok.ensures.ribbon, c.in_ok-picture_of-in-Ok.ensures ∙ ap (λ l. picture_text c.args.lines l c.args.case.now) c.deref.ensures.value)
