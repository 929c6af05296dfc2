use Rattle.std.proofs.Common.{◌≡◌, ap, ap₂, ◌∙◌}
use Rattle.std.proofs.lemmas.Result.{IfOk-weaker}
use Rattle.clap.specs.Words.{app_of, with_subcommand}
use Rattle.program_words.specs.Words.{no_subcommand}
use Rattle.program_words.proofs.Shapes.{top_of}
use Rattle.program_words.proofs.commands.up_to_merge.Goals as goal

pub returns : goal.returns
returns c =
    let begun : app_of c.in_ok-bare_command.field-0 ≡ no_subcommand = c.in_ok-bare_command.ensures in
    let one = c.in_ok-with_script.ensures.shape c.in_ok-script.ensures.local ∙ ap₂ with_subcommand begun (ap top_of c.in_ok-script.ensures.app) in
    let two = c.in_ok-with_desk.ensures.shape c.in_ok-desk.ensures.local ∙ ap₂ with_subcommand one (ap top_of c.in_ok-desk.ensures.app) in
    IfOk-weaker c.subcommand-3.result _ _ (λ m h. h.shape c.in_ok-merge.ensures.local ∙ ap₂ with_subcommand two (ap top_of c.in_ok-merge.ensures.app)) c.subcommand-3.ensures
