use Rattle.std.proofs.Common.{◌∙◌, ap, ap₂, inl, inr, rules}
use Rattle.std.proofs.lemmas.Result.{IfOk-weaker}
use Rattle.view_preview.specs.Matter.{HasNone}
use Rattle.view_pages.specs.Document.{document_text, no_galley_document}
use Rattle.view_pages.proofs.documenting.drawn_of.Goals as goal

pub returns-in-Ok : goal.returns-in-Ok
returns-in-Ok g c =
    let galley = c.in-Ok.galley in
    IfOk-weaker c.document_of.result _ _ (λ s h. inl (galley, c.in-Ok.ensures.ok, h ∙ ap₂ (λ l f. document_text c.args.job.now c.args.height l f galley) c.copy.ensures.value c.faults.ensures)) c.document_of.ensures

pub returns-in-Err-Reason : goal.returns-in-Err-Reason
returns-in-Err-Reason g c =
    let why = c.in-Err-Reason.why in
    let none : HasNone c.args.matter.now c.args.trial.now why = search rules in
    IfOk-weaker c.no_galley_document.result _ _ (λ s h. inr (why, none, h ∙ ap (λ f. no_galley_document c.args.job.now c.args.height f why) c.faults-in-Err-Reason.ensures)) c.no_galley_document.ensures
