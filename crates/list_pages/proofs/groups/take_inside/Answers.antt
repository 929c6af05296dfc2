use Rattle.std.proofs.Common.{◌+◌, ◌/◌, ◌∙◌, ap, sym, [], length, get_or, arith}
use Rattle.std.specs.List.{remove}
use Rattle.std.proofs.lemmas.List.{length-set}
use Rattle.std.proofs.lemmas.List.Edits.{length-remove}
use Rattle.list_pages.specs.Pages.{joined, start_of}
use Rattle.list_pages.proofs.Begins.{starts-lowered}
use Rattle.list_pages.proofs.Cuts.{entry-joined}
use Rattle.list_pages.proofs.Picks.{page-within}
use Rattle.list_pages.proofs.Shorts.{joined-remove, more-half}
use Rattle.list_pages.proofs.Sums.{sums-again}
use Rattle.list_pages.proofs.groups.take_inside.Goals as goal

pub sum_again-requires-clause-within : goal.sum_again-requires-clause-within
sum_again-requires-clause-within g c = λ w.
    let a = c.requires.groups.1.within (c.args.p / 32) w in
    let n = length-set c.args.pages.now.pages c.args.p (remove (get_or c.args.pages.now.pages c.args.p []) c.args.j) in
    rw c.remove-out.ensures.rest (omega (arith, a, n))

pub sum_again-requires-clause-fits : goal.sum_again-requires-clause-fits
sum_again-requires-clause-fits g c =
    let pages = c.args.pages.now.pages in
    let p = c.args.p in
    let n = ap length (joined-remove pages p c.args.j c.requires.within c.requires.inside) in
    let m = length-remove (joined pages) (start_of pages p + c.args.j) (page-within pages p c.args.j c.requires.within c.requires.inside) in
    rw c.remove-out.ensures.rest (omega (arith, c.requires.fits, n, m))

pub returns-clause-rest : goal.returns-clause-rest
returns-clause-rest g c = rw c.remove-out.ensures.rest (joined-remove c.args.pages.now.pages c.args.p c.args.j c.requires.within c.requires.inside)

pub returns-clause-out : goal.returns-clause-out
returns-clause-out g c = c.remove-out.ensures.out ∙ sym (entry-joined c.args.pages.now.pages c.args.p c.args.j c.remove-out.result c.requires.within c.requires.inside)

pub returns-clause-half : goal.returns-clause-half
returns-clause-half g c =
    let pages = c.args.pages.now.pages in
    let n = length-remove (get_or pages c.args.p []) c.args.j c.requires.inside in
    rw c.remove-out.ensures.rest (more-half pages c.args.p (remove (get_or pages c.args.p []) c.args.j) c.requires.half c.requires.within c.requires.more (omega (arith, n)))

pub returns-clause-len : goal.returns-clause-len
returns-clause-len g c = rw c.remove-out.ensures.rest (length-set c.args.pages.now.pages c.args.p (remove (get_or c.args.pages.now.pages c.args.p []) c.args.j))

pub returns-clause-groups : goal.returns-clause-groups
returns-clause-groups g c =
    let pages = c.args.pages.now.pages in
    let p = c.args.p in
    let y = remove (get_or pages p []) c.args.j in
    let n = length-remove (get_or pages p []) c.args.j c.requires.inside in
    rw c.remove-out.ensures.rest (
      starts-lowered pages p y c.args.groups.now.starts.items c.lower.new.starts.items c.requires.within (omega (arith, n)) c.requires.groups.0 c.lower.ensures.len c.lower.ensures.below c.lower.ensures.lowered,
      sums-again g.S.Summary.sums_up pages p y c.args.groups.now.sums.items c.sum_again.new.sums.items c.requires.groups.1 c.sum_again.ensures.len c.sum_again.ensures.others (rw c.remove-out.ensures.rest at c.sum_again.ensures.summed),
    )
