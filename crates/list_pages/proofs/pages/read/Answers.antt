use Rattle.std.proofs.Common.{◌∙◌, ap, sym, List, get_or}
use Rattle.list_pages.proofs.Cuts.{entry-joined}
use Rattle.list_pages.proofs.pages.read.Goals as goal

pub bounds-items-j : goal.bounds-items-j
bounds-items-j g c =
    rw c.items.ensures c.requires.inside

pub returns : goal.returns
returns g c =
    let pages = c.args.pages.now.pages in
    let x = c.index-items-j.result in
    c.index-items-j.is ∙ ap (λ (l : List _). get_or l c.args.j x) c.items.ensures ∙ sym (entry-joined pages c.args.p c.args.j x c.requires.within c.requires.inside)
