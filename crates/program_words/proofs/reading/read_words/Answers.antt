use Rattle.std.proofs.Common.{◌≡◌, map, string_bytes, refl, ap, subst, ◌∙◌, true, []}
use Rattle.std.proofs.lemmas.Result.{err_from_is_err_and}
use Rattle.clap.specs.Words.{App, HasKind, app_of, fault_of, is_simple, is_simple_and_free, subcommand_of, subcommand_rows_of}
use Rattle.program_words.specs.Words.{IsWished, copydesk}
use Rattle.program_words.proofs.Asked.{asked}
use Rattle.program_words.proofs.reading.read_words.Goals as goal

simple : is_simple copydesk ≡ true
simple = refl

free : is_simple_and_free copydesk ≡ true
free = refl

pub returns-in_err-matches-clause-kinds : goal.returns-in_err-matches-clause-kinds
returns-in_err-matches-clause-kinds c =
    let is : app_of c.in_ok-command.command ≡ copydesk = c.in_ok-command.ensures.app in
    let kinds = subst (λ (a : App). HasKind (fault_of a (map string_bytes c.args.words.now)) c.in_err-matches.field-0.0) is (c.in_err-matches.ensures.kinds (ap is_simple_and_free is ∙ free)) in
    let p = err_from_is_err_and c.from_residual-in_err-matches.result c.from_residual-in_err-matches.ensures.1 in
    rw p.1 (rw p.2 kinds)

pub returns-clause-kinds : goal.returns-clause-kinds
returns-clause-kinds c =
    let is : app_of c.in_ok-command.command ≡ copydesk = c.in_ok-command.ensures.app in
    subst (λ (a : App). fault_of a (map string_bytes c.args.words.now) ≡ []) is (c.in_ok-matches.ensures.kinds (ap is_simple_and_free is ∙ free))

pub returns-clause-wish : goal.returns-clause-wish
returns-clause-wish c =
    let is : app_of c.in_ok-command.command ≡ copydesk = c.in_ok-command.ensures.app in
    let met : subcommand_rows_of c.in_ok-matches.matches ≡ subcommand_of copydesk (map string_bytes c.args.words.now) =
    (c.in_ok-matches.ensures.matches (ap is_simple is ∙ simple)).1 ∙ ap (λ (a : App). subcommand_of a (map string_bytes c.args.words.now)) is in
    asked (map string_bytes c.args.words.now) c.in_ok-wish_of.field-0 (returns-clause-kinds c) (subst (λ o. IsWished o c.in_ok-wish_of.field-0) met c.in_ok-wish_of.ensures.wish)
