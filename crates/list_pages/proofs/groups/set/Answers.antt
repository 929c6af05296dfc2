use Rattle.std.proofs.Common.{◌+◌, ◌≡◌, ◌∙◌, [], get_or, set}
use Rattle.std.proofs.lemmas.List.{get_or_default, length-set}
use Rattle.list_pages.specs.Pages.{start_of}
use Rattle.list_pages.proofs.Cuts.{spot, spot-set, entry-joined}
use Rattle.list_pages.proofs.Begins.{starts-set}
use Rattle.list_pages.proofs.Sums.{sums-write}
use Rattle.std.proofs.Common.{refl}
use Rattle.list_pages.proofs.groups.set.Goals as goal

pub returns-clause-set : goal.returns-clause-set
returns-clause-set g c =
    let pages = c.args.pages.now.pages in
    let r = get_or pages c.args.p [] in
    let s = spot pages c.args.p c.args.j c.requires.within c.requires.inside in
    rw c.set.ensures.set (spot-set pages (start_of pages c.args.p + c.args.j) c.args.p c.args.j c.args.x r (set r c.args.j c.args.x) s (get_or_default pages c.args.p [] r c.requires.within) refl).0

pub returns-clause-half : goal.returns-clause-half
returns-clause-half g c =
    let pages = c.args.pages.now.pages in
    let r = get_or pages c.args.p [] in
    let s = spot pages c.args.p c.args.j c.requires.within c.requires.inside in
    rw c.set.ensures.set ((spot-set pages (start_of pages c.args.p + c.args.j) c.args.p c.args.j c.args.x r (set r c.args.j c.args.x) s (get_or_default pages c.args.p [] r c.requires.within) refl).1 c.requires.half)

pub returns-clause-len : goal.returns-clause-len
returns-clause-len g c = rw c.set.ensures.set (length-set c.args.pages.now.pages c.args.p (set (get_or c.args.pages.now.pages c.args.p []) c.args.j c.args.x))

pub returns-clause-groups : goal.returns-clause-groups
returns-clause-groups g c =
    let pages = c.args.pages.now.pages in
    let r = get_or pages c.args.p [] in
    let b : c.read-old.result ≡ get_or r c.args.j c.read-old.result = c.read-old.ensures ∙ entry-joined pages c.args.p c.args.j c.read-old.result c.requires.within c.requires.inside in
    rw c.set.ensures.set (
      starts-set pages c.args.p (set r c.args.j c.args.x) c.args.groups.now.starts.items (length-set r c.args.j c.args.x) c.requires.groups.0,
      sums-write g.S.Summary.sums_up pages c.args.p c.args.j c.read-old.result c.args.x c.args.groups.now.sums.items c.sum_replaced.new.sums.items c.requires.inside b c.requires.fits c.requires.groups.1 c.sum_replaced.ensures.len c.sum_replaced.ensures.others c.sum_replaced.ensures.replaced,
    )
