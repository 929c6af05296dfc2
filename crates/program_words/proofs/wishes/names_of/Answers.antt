use Rattle.std.proofs.Common.{List, sym, ap, ◌∙◌}
use Rattle.std.specs.Prelude.{Some, option_map}
use Rattle.std.specs.Borrow.{Bor}
use Rattle.clap.specs.Words.{Text, found_of}
use Rattle.clap.proofs.WalkLemmas.{raw_values-rows}
use Rattle.program_words.specs.Words.{texts_of}
use Rattle.program_words.proofs.wishes.names_of.Goals as goal

pub returns-in_ok-from_slice-in-Some-clause-names : goal.returns-in_ok-from_slice-in-Some-clause-names
returns-in_ok-from_slice-in-Some-clause-names c =
    sym (raw_values-rows (found_of c.args.matches.now) c.args.argument.now) ∙ sym c.get_strs.ensures
    ∙ ap (option_map (λ (s : Bor (List (Bor Text))). texts_of s.now)) c.in-Some.is
    ∙ ap (λ (items : List (Bor Text)). Some (texts_of items)) (sym c.in_ok-from_slice-in-Some.ensures.items)

pub returns-in-None-clause-names : goal.returns-in-None-clause-names
returns-in-None-clause-names c =
    sym (raw_values-rows (found_of c.args.matches.now) c.args.argument.now) ∙ sym c.get_strs.ensures
    ∙ ap (option_map (λ (s : Bor (List (Bor Text))). texts_of s.now)) c.in-None.is

pub returns-in_err-from_slice-in-Some-clause-memory : goal.returns-in_err-from_slice-in-Some-clause-memory
returns-in_err-from_slice-in-Some-clause-memory c err none =
    let some = sym (raw_values-rows (found_of c.args.matches.now) c.args.argument.now) ∙ sym c.get_strs.ensures
    ∙ ap (option_map (λ (s : Bor (List (Bor Text))). texts_of s.now)) c.in-Some.is in
    let bad = sym none ∙ some in
    cc
