use Rattle.std.proofs.Common.{◌≡◌, ◌+◌, ◌*◌, [], length, get_or, arith}
use Rattle.std.specs.List.{insert}
use Rattle.std.proofs.lemmas.List.{length-set}
use Rattle.std.proofs.lemmas.List.Edits.{length-insert}
use Rattle.list_pages.specs.Pages.{start_of}
use Rattle.list_pages.proofs.Cuts.{gap-insert, gap-half, start-le}
use Rattle.list_pages.proofs.Begins.{starts-raised}
use Rattle.list_pages.proofs.Sums.{sums-insert}
use Rattle.list_pages.proofs.groups.put_inside.Goals as goal

pub raise-requires : goal.raise-requires
raise-requires g c = λ n l.
    let pages = c.args.pages.now.pages in
    let a = c.requires.groups.0.is n l in
    let b = start-le pages (32 * n) in
    omega (arith, c.requires.fits)

pub returns-clause-put : goal.returns-clause-put
returns-clause-put g c =
    let pages = c.args.pages.now.pages in
    rw c.insert.ensures.put (gap-insert pages (start_of pages c.args.q + c.args.k) c.args.q c.args.k c.args.x c.requires.gap)

pub returns-clause-half : goal.returns-clause-half
returns-clause-half g c =
    let pages = c.args.pages.now.pages in
    rw c.insert.ensures.put (gap-half pages (start_of pages c.args.q + c.args.k) c.args.q c.args.k c.args.x c.requires.gap c.requires.half)

pub returns-clause-len : goal.returns-clause-len
returns-clause-len g c = rw c.insert.ensures.put (length-set c.args.pages.now.pages c.args.q (insert (get_or c.args.pages.now.pages c.args.q []) c.args.k c.args.x))

pub returns-clause-groups : goal.returns-clause-groups
returns-clause-groups g c =
    let pages = c.args.pages.now.pages in
    let y = insert (get_or pages c.args.q []) c.args.k c.args.x in
    let n : length y ≡ length (get_or pages c.args.q []) + 1 = length-insert (get_or pages c.args.q []) c.args.k c.args.x c.requires.gap.inside in
    rw c.insert.ensures.put (
      starts-raised pages c.args.q y c.args.groups.now.starts.items c.raise.new.starts.items c.requires.gap.within n c.requires.groups.0 c.raise.ensures.len c.raise.ensures.below c.raise.ensures.raised,
      sums-insert g.S.Summary.sums_up pages c.args.q c.args.k c.args.x c.args.groups.now.sums.items c.sum_with.new.sums.items c.requires.gap.inside c.requires.fits c.requires.groups.1 c.sum_with.ensures.len c.sum_with.ensures.others c.sum_with.ensures.more,
    )
