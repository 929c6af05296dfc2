use Rattle.std.proofs.Common.{ℕ, ◌<◌, length, subst, string_bytes}
use Rattle.view_pages.proofs.NextPage.{next_page}
use Rattle.view_pages.proofs.Shares.{begins}
use Rattle.view_pages.proofs.pages.put_pages.Goals as goal

pub put_page-requires-clause-number : goal.put_page-requires-clause-number
put_page-requires-clause-number g c =
    begins (length c.args.galley.now.lines) c.args.layout.lines c.loop-number.number c.requires.some
    (subst (λ (n : ℕ). c.loop-number.number < n) c.requires.pages c.loop-number-test.true)

pub loop-number-preserved : goal.loop-number-preserved
loop-number-preserved g c =
    next_page c.args.copy.now c.args.galley.now c.args.layout c.args.heading.now c.args.layout.pages c.loop-number.number (string_bytes c.loop-number.out) (string_bytes c.put_page.new.out) _
    c.loop-number-test.true c.in_ok-put_page.ensures c.loop-number.invariant
