use Rattle.std.proofs.Common.{◌≡◌, ◌+◌, ◌∙◌, ap, sym, ℕ, get_or}
use Rattle.list_pages.specs.Pages.{joined, start_of, IsSpot}
use Rattle.list_pages.proofs.list.Pages.entry.Goals as goal

pub returns : goal.returns
returns g c =
    let s : IsSpot c.self.inside.pages.pages c.args.i c.locate-p.result.0 c.locate-p.result.1 = c.locate-p.ensures.spot in
    let x = c.read.result in
    let r : x ≡ get_or (joined c.self.inside.pages.pages) (start_of c.self.inside.pages.pages c.locate-p.result.0 + c.locate-p.result.1) x = c.read.ensures in
    rw (← c.self.view_is) (r ∙ ap (λ (n : ℕ). get_or (joined c.self.inside.pages.pages) n x) (sym s.is))
