use Rattle.std.proofs.Common.{◌≡◌, ap, ap₂, ◌∙◌}
use Rattle.std.proofs.lemmas.Result.{IfOk-weaker}
use Rattle.clap.specs.Words.{app_of, with_subcommand}
use Rattle.program_words.specs.Words.{up_to_sorts}
use Rattle.program_words.proofs.Shapes.{top_of}
use Rattle.program_words.proofs.commands.up_to_rooms.Goals as goal

pub returns : goal.returns
returns c =
    let begun : app_of c.in_ok-first.first ≡ up_to_sorts = c.in_ok-first.ensures in
    let one = c.in_ok-with_renumber.ensures.shape c.in_ok-renumber.ensures.local ∙ ap₂ with_subcommand begun (ap top_of c.in_ok-renumber.ensures.app) in
    let two = c.in_ok-with_renew.ensures.shape c.in_ok-renew.ensures.local ∙ ap₂ with_subcommand one (ap top_of c.in_ok-renew.ensures.app) in
    IfOk-weaker c.subcommand-3.result _ _ (λ m h. h.shape c.in_ok-rooms.ensures.local ∙ ap₂ with_subcommand two (ap top_of c.in_ok-rooms.ensures.app)) c.subcommand-3.ensures
