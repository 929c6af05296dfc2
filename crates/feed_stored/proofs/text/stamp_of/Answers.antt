use Rattle.std.proofs.Common.{◌≡◌, ◌∙◌, sym, arith}
use Rattle.std.proofs.lemmas.Fmt.{decimal_injective}
use Rattle.feed_stored.proofs.text.stamp_of.Goals as goal

pub returns-then-site-gt65535 : goal.returns-then-site-gt65535
returns-then-site-gt65535 c s numbered first second =
    let one : c.in_ok-site.site ≡ s.site = decimal_injective c.in_ok-site.site s.site (omega (arith, c.type_inv.site)) (omega (arith, numbered.0)) (sym c.in_ok-site.ensures ∙ first) in
    omega (arith, one, numbered.0, c.if-site-gt65535.true)
