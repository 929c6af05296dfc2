use Rattle.std.proofs.Common.{◌≡◌, ap, ap₂, ◌∙◌}
use Rattle.std.proofs.lemmas.Result.{IfOk-weaker}
use Rattle.clap.specs.Words.{app_of, with_subcommand}
use Rattle.program_words.specs.Words.{up_to_merge}
use Rattle.program_words.proofs.Shapes.{top_of}
use Rattle.program_words.proofs.commands.up_to_import.Goals as goal

pub returns : goal.returns
returns c =
    let begun : app_of c.in_ok-first.first ≡ up_to_merge = c.in_ok-first.ensures in
    let one = c.in_ok-with_diff.ensures.shape c.in_ok-diff.ensures.local ∙ ap₂ with_subcommand begun (ap top_of c.in_ok-diff.ensures.app) in
    let two = c.in_ok-with_export.ensures.shape c.in_ok-export.ensures.local ∙ ap₂ with_subcommand one (ap top_of c.in_ok-export.ensures.app) in
    IfOk-weaker c.subcommand-3.result _ _ (λ m h. h.shape c.in_ok-import.ensures.local ∙ ap₂ with_subcommand two (ap top_of c.in_ok-import.ensures.app)) c.subcommand-3.ensures
