use Rattle.std.proofs.Common.{◌≡◌, ap, ap₂, ◌∙◌}
use Rattle.clap.specs.Words.{app_of, with_subcommand}
use Rattle.program_words.specs.Words.{up_to_rooms, with_version}
use Rattle.program_words.proofs.Shapes.{top_of}
use Rattle.program_words.proofs.commands.command.Goals as goal

pub returns-clause-app : goal.returns-clause-app
returns-clause-app c =
    let begun : app_of c.in_ok-first.first ≡ up_to_rooms = c.in_ok-first.ensures in
    let one = c.in_ok-with_log.ensures.shape c.in_ok-log.ensures.local ∙ ap₂ with_subcommand begun (ap top_of c.in_ok-log.ensures.app) in
    let two = c.in_ok-with_find.ensures.shape c.in_ok-find.ensures.local ∙ ap₂ with_subcommand one (ap top_of c.in_ok-find.ensures.app) in
    c.with_version.ensures.app ∙ ap with_version two
