use Rattle.std.proofs.Common.{◌∙◌}
use Rattle.view_preview.proofs.Turns.{idle_next, line_next, tried_next}
use Rattle.view_preview.proofs.trial.trial_of.Goals as goal

pub loop-place-preserved : goal.loop-place-preserved
loop-place-preserved g c =
    let is = c.in_ok-key.ensures.value ∙ c.in-Some.is in
    record {
      tried = tried_next c.args.texts.now c.loop-place.place _ _ _ _ _ _ c.loop-place-test.true is c.with_value-settings.ensures.value c.loop-place.invariant.tried;
      lawful = c.with_value-settings.ensures.lawful;
      idle = idle_next c.args.texts.now c.loop-place.place _ _ _ c.loop-place-test.true is c.loop-place.invariant.idle;
      line = line_next c.args.texts.now c.loop-place.place _ _ c.loop-place-test.true is c.loop-place.invariant.line;
    }
