use Rattle.std.proofs.Common.{◌∙◌, ◌++◌, [], ap, ap₂, inl, inr, refl, rules, subst}
use Rattle.std.proofs.lemmas.Result.{IfOk-weaker}
use Rattle.std.specs.Prelude.{string_bytes}
use Rattle.desk_replica.specs.declared.settings.Settings.{Settings}
use Rattle.view_preview.specs.Matter.{HasGalley, HasNone}
use Rattle.view_punch.specs.Finding.{begins_of, found_text, is_found}
use Rattle.view_punch.proofs.finding.found_by.Goals as goal

pub returns-in_ok-begins-in-Ok-clause-text : goal.returns-in_ok-begins-in-Ok-clause-text
returns-in_ok-begins-in-Ok-clause-text g c =
    let galley = c.in-Ok.galley in
    let made = subst (λ (s : Settings). HasGalley c.args.matter.now s galley) c.no_trial.ensures.value c.in-Ok.ensures.ok in
    IfOk-weaker c.found_behind.result _ _ (λ t h. (
      [],
      c.in_ok-begins-in-Ok.begins.items,
      inl (galley, made, refl, c.in_ok-begins-in-Ok.ensures ∙ ap begins_of c.lines.ensures),
      h ∙ ap₂ (λ l begins. found_text c.args.text.now l begins) c.copy.ensures.value c.deref.ensures.value,
    )) c.found_behind.ensures.text

pub returns-in_ok-begins-in-Ok-clause-found : goal.returns-in_ok-begins-in-Ok-clause-found
returns-in_ok-begins-in-Ok-clause-found g c =
    IfOk-weaker c.found_behind.result _ _ (λ t h. h ∙ ap (is_found c.args.text.now) c.copy.ensures.value) c.found_behind.ensures.found

pub returns-in_ok-head-in-Err-Reason-clause-text : goal.returns-in_ok-head-in-Err-Reason-clause-text
returns-in_ok-head-in-Err-Reason-clause-text g c =
    let why = c.in-Err-Reason.why in
    let refused : HasNone c.args.matter.now c.no_trial.result why = search rules in
    let none = subst (λ (s : Settings). HasNone c.args.matter.now s why) c.no_trial.ensures.value refused in
    IfOk-weaker c.found_behind-in-Err-Reason.result _ _ (λ t h. (
      string_bytes c.in_ok-head-in-Err-Reason.head,
      [],
      inr (why, none, c.in_ok-head-in-Err-Reason.ensures, refl),
      h ∙ ap₂ (λ head l. head ++ found_text c.args.text.now l []) c.as_bytes.ensures.value c.copy-in-Err-Reason.ensures.value,
    )) c.found_behind-in-Err-Reason.ensures.text
