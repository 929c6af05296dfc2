use Rattle.std.proofs.Common.{◌≡◌, sym, ap, ◌∙◌, subst}
use Rattle.std.specs.Prelude.{Option}
use Rattle.script_answers.specs.Command.{CommandValues, command_values}
use Rattle.script_answers.specs.Reading.{Gives}
use Rattle.script_answers.specs.Grammar.{command_of, words_of}
use Rattle.script_answers.proofs.Loops.{command_of-text, command_of-bytes}
use Rattle.script_answers.proofs.reader.parse.Goals as goal

pub returns-in_default-clause-value : goal.returns-in_default-clause-value
returns-in_default-clause-value g c = command_of-bytes c.args.line.now c.in_default.ensures.cases.0

pub returns-clause-value : goal.returns-clause-value
returns-clause-value g c =
    let e = c.in-Ok.ensures.cases in
    let same : command_of c.args.line.now ≡ words_of c.in-Ok.line.now = command_of-text c.args.line.now e.1 ∙ ap words_of (sym e.0) in
    let P : Option CommandValues → Type 0 = λ r. Gives command_values c.words_of.result r in
    subst P (sym same) c.words_of.ensures.value
