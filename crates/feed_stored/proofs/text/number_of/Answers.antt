use Rattle.std.proofs.Common.{◌≡◌, ◌∙◌, sym, ap, true, false, arith, rules}
use Rattle.std.specs.Prelude.{Ok}
use Rattle.std.specs.Fmt.{decimal}
use Rattle.std.proofs.lemmas.Fmt.{parse-decimal}
use Rattle.feed_stored.proofs.text.number_of.Goals as goal

pub returns-in_default : goal.returns-in_default
returns-in_default c n fits is =
    let read = parse-decimal 64 n c.args.word.now c.parse.result fits fits is c.parse.ensures.value.0 in
    absurd (c.in_default.not-Ok n read)

pub returns-else-eq : goal.returns-else-eq
returns-else-eq c n fits is =
    let read = parse-decimal 64 n c.args.word.now c.parse.result fits fits is c.parse.ensures.value.0 in
    let was = c.in-Ok.is in
    let one : c.in-Ok.n ≡ n = cc in
    let same : c.format.result.now ≡ c.args.word.now = c.format.ensures.text ∙ ap decimal one ∙ sym is in
    search (rules, same)
