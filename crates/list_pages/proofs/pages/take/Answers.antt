use Rattle.std.proofs.Common.{◌+◌, ◌/◌, ap, length, arith}
use Rattle.std.proofs.lemmas.List.Edits.{length-remove}
use Rattle.list_pages.specs.Pages.{joined, start_of}
use Rattle.list_pages.proofs.Picks.{page-within}
use Rattle.list_pages.proofs.Kept.{kept-groups}
use Rattle.list_pages.proofs.pages.take.Goals as goal

pub returns-then-has_more-clause-kept : goal.returns-then-has_more-clause-kept
returns-then-has_more-clause-kept g c =
    let pages = c.args.pages.now.pages in
    let k = c.requires.kept in
    let n = length-remove (joined pages) (start_of pages c.args.p + c.args.j) (page-within pages c.args.p c.args.j c.requires.within c.requires.inside) in
    let m = ap length c.take_inside.ensures.rest in
    record {
      is_len = omega (arith, k.is_len);
      half = c.take_inside.ensures.half;
      few = omega (arith, k.few, c.take_inside.ensures.len, c.take_inside.ensures.free);
      fits = omega (arith, k.fits);
    }

pub find_groups-requires-clause-kept : goal.find_groups-requires-clause-kept
find_groups-requires-clause-kept g c =
    let groups = c.args.groups.now in
    let p = c.args.p in
    kept-groups g.S.Summary.sums_up c.take_short-out.new.pages.pages c.args.pages.now.pages groups.starts.items groups.sums.items (p / 32) p (omega arith) c.take_short-out.ensures.before c.requires.groups
