use Rattle.std.proofs.Common.{◌≡◌, Option, Some, None, ap, sym, ◌∙◌, arith}
use Rattle.std.specs.Prelude.{[], ◌∷◌, ◌++◌, option_map}
use Rattle.std.proofs.lemmas.Str.{encode_ascii}
use Rattle.clap.specs.Words.{Text}
use Rattle.program_words.proofs.choices.range_in.Goals as goal

abbrev second : Option (Text × Text) → Text
second None = []
second (Some parts) = parts.1

pub returns-in-None : goal.returns-in-None
returns-in-None c = λ first last range.
    let parts : Some (c.in-Some.one.now, c.in-Some.behind.now) ≡ Some (range.0, 46 ∷ range.1) = ap (option_map (λ p. (p.0.now, p.1.now))) (sym c.in-Some.is) ∙ c.at_point.ensures ∙ range.2 in
    c.in-None.ensures.cases range.1 (ap second parts ∙ sym (ap (λ point. point ++ range.1) (encode_ascii 46 (omega arith))))
