use Rattle.std.proofs.Common.{◌∙◌, ap, drop, List}
use Rattle.list_pages.proofs.Cuts.{spot-stretch}
use Rattle.list_pages.proofs.pages.stretch.Goals as goal

pub returns-clause-is : goal.returns-clause-is
returns-clause-is g c =
    let pages = c.args.pages.now.pages in
    let s = c.locate-p.ensures.spot in
    spot-stretch pages c.args.i c.locate-p.result.0 c.locate-p.result.1 c.split_at.result.1.now s
    (c.split_at.ensures.back ∙ ap (λ (l : List _). drop c.locate-p.result.1 l) c.items.ensures)
