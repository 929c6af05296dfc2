use Rattle.std.proofs.Common.{◌+◌, ◌-◌, ◌/◌, ◌∙◌, sym, ap, ℕ, refl, length, arith}
use Rattle.std.specs.List.{insert}
use Rattle.list_pages.specs.Pages.{joined, start_of}
use Rattle.list_pages.proofs.Cuts.{kept-more, end-le}
use Rattle.list_pages.proofs.Kept.{kept-groups}
use Rattle.list_pages.proofs.pages.put.Goals as goal

pub put_inside-requires-clause-gap : goal.put_inside-requires-clause-gap
put_inside-requires-clause-gap g c =
    let e = c.in-Some.ensures in
    record { within = e.within; inside = e.inside; has_room = e.has_room; is = refl }

pub returns-in-Some-clause-put : goal.returns-in-Some-clause-put
returns-in-Some-clause-put g c = c.put_inside.ensures.put ∙ ap (λ (n : ℕ). insert (joined c.args.pages.now.pages) n c.args.x) (sym c.in-Some.ensures.is)

pub returns-in-Some-clause-kept : goal.returns-in-Some-clause-kept
returns-in-Some-clause-kept g c =
    let pages = c.args.pages.now.pages in
    let k = c.requires.kept in
    kept-more pages c.put_inside.new.pages.pages (start_of pages c.args.at.0 + c.args.at.1) c.args.len c.args.pages.now.free (length c.put_inside.new.pages.pages + c.put_inside.new.pages.free) c.args.x k.is_len (end-le pages c.args.at.0 c.args.at.1 c.args.len c.requires.spot k.is_len) (returns-in-Some-clause-put g c) c.put_inside.ensures.half (omega (arith, k.few, c.put_inside.ensures.len, c.put_inside.ensures.free)) (omega (arith, c.requires.spare, c.put_inside.ensures.len, c.put_inside.ensures.free))

pub find_groups-requires-clause-kept : goal.find_groups-requires-clause-kept
find_groups-requires-clause-kept g c =
    let groups = c.args.groups.now in
    let q = c.args.at.0 - 1 in
    kept-groups g.S.Summary.sums_up c.put_anywhere.new.pages.pages c.args.pages.now.pages groups.starts.items groups.sums.items (c.saturating_sub.result / 32) q (omega (arith, c.saturating_sub.ensures)) c.put_anywhere.ensures.before c.requires.groups
