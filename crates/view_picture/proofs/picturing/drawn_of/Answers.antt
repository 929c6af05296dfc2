use Rattle.std.proofs.Common.{◌∙◌, ap, ap₂, inl, inr, rules}
use Rattle.std.proofs.lemmas.Result.{IfOk-weaker}
use Rattle.view_preview.specs.Matter.{HasNone}
use Rattle.view_picture.specs.Picture.{no_galley_picture, picture_text}
use Rattle.view_picture.proofs.picturing.drawn_of.Goals as goal

pub returns-in-Ok : goal.returns-in-Ok
returns-in-Ok g c =
    let galley = c.in-Ok.galley in
    IfOk-weaker c.picture_of.result _ _ (λ s h. inl (galley, c.in-Ok.ensures.ok, h ∙ ap₂ (λ l f. picture_text l f galley) c.copy.ensures.value c.faults.ensures)) c.picture_of.ensures

pub returns-in-Err-Reason : goal.returns-in-Err-Reason
returns-in-Err-Reason g c =
    let why = c.in-Err-Reason.why in
    let none : HasNone c.args.matter.now c.args.trial.now why = search rules in
    IfOk-weaker c.refusal_of.result _ _ (λ s h. inr (why, none, h ∙ ap (λ f. no_galley_picture f why) c.faults-in-Err-Reason.ensures)) c.refusal_of.ensures
