use Rattle.std.proofs.Common.{◌≡◌, ◌≤◌, drop}
use Rattle.desk_job.specs.Answer.{AreValues}
use Rattle.view_preview.specs.Trial.{HasLine, first_idle, trial_from, trial_of}
use Rattle.view_preview.proofs.trial.trial_of.Given as goal

abbrev pub invariant-loop-place : goal.invariant-loop-place
invariant-loop-place g l =
    record {
      tried : trial_from l.settings (drop l.place l.texts) ≡ trial_of l.texts;
      lawful : AreValues l.settings;
      idle : first_idle l.place (drop l.place l.texts) ≡ first_idle 0 l.texts;
      line : 1 ≤ l.place → HasLine l.texts;
    }
