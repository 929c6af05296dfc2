use Rattle.std.proofs.Common.{◌∙◌, ◌++◌, ap, sym}
use Rattle.std.proofs.lemmas.List.{append-nil}
use Rattle.feed_history.specs.Texts.{symbols_of, taken_symbols}
use Rattle.feed_history.proofs.taken.Taken.add.Goals as goal

pub returns-in_ok-add_own-clause-symbols : goal.returns-in_ok-add_own-clause-symbols
returns-in_ok-add_own-clause-symbols g c =
    c.in_ok-add_own.ensures ∙ ap (λ r. c.args.self.now.symbols.items ++ symbols_of r) (sym c.in-Some-any_bearing.is ∙ c.any_bearing.ensures)
    ∙ ap (λ o. c.args.self.now.symbols.items ++ taken_symbols c.args.all.now o) (sym c.in-Delete.is)

pub returns-in_default-any_bearing-clause-symbols :
    goal.returns-in_default-any_bearing-clause-symbols
returns-in_default-any_bearing-clause-symbols g c =
    sym (append-nil c.args.self.now.symbols.items) ∙ ap (λ r. c.args.self.now.symbols.items ++ symbols_of r) (sym c.in_default-any_bearing.is ∙ c.any_bearing.ensures)
    ∙ ap (λ o. c.args.self.now.symbols.items ++ taken_symbols c.args.all.now o) (sym c.in-Delete.is)
