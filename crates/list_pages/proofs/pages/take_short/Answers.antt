use Rattle.std.proofs.Common.{◌+◌, ◌∙◌, [], ap, sym, length, get_or, arith}
use Rattle.std.specs.List.{remove}
use Rattle.std.proofs.lemmas.List.{length-set}
use Rattle.std.proofs.lemmas.List.Edits.{length-remove}
use Rattle.list_pages.specs.Pages.{joined, start_of}
use Rattle.list_pages.proofs.Cuts.{entry-joined}
use Rattle.list_pages.proofs.Picks.{page-within}
use Rattle.list_pages.proofs.Shorts.{short-set, joined-remove}
use Rattle.list_pages.proofs.pages.take_short.Goals as goal

pub level-requires-clause-within : goal.level-requires-clause-within
level-requires-clause-within g c =
    let n = ap length c.remove-out.ensures.rest in
    let m = length-set c.args.pages.now.pages c.args.p (remove (get_or c.args.pages.now.pages c.args.p []) c.args.j) in
    omega (arith, n, m, c.requires.within)

pub level-requires-clause-short : goal.level-requires-clause-short
level-requires-clause-short g c =
    let pages = c.args.pages.now.pages in
    let p = c.args.p in
    rw c.remove-out.ensures.rest (short-set pages p (remove (get_or pages p []) c.args.j) c.requires.kept.half c.requires.within (let n = length-remove (get_or pages p []) c.args.j c.requires.inside in omega arith))

pub returns-clause-rest : goal.returns-clause-rest
returns-clause-rest g c =
    let pages = c.args.pages.now.pages in
    c.level.ensures.same ∙ ap joined c.remove-out.ensures.rest ∙ joined-remove pages c.args.p c.args.j c.requires.within c.requires.inside

pub returns-clause-count : goal.returns-clause-count
returns-clause-count g c =
    let n = ap length c.remove-out.ensures.rest in
    let m = length-set c.args.pages.now.pages c.args.p (remove (get_or c.args.pages.now.pages c.args.p []) c.args.j) in
    omega (arith, n, m, c.remove-out.ensures.free, c.level.ensures.count)

pub returns-clause-kept : goal.returns-clause-kept
returns-clause-kept g c =
    let pages = c.args.pages.now.pages in
    let k = c.requires.kept in
    let n = length-remove (joined pages) (start_of pages c.args.p + c.args.j) (page-within pages c.args.p c.args.j c.requires.within c.requires.inside) in
    let m = ap length (returns-clause-rest g c) in
    let all = returns-clause-count g c in
    record {
      is_len = omega (arith, k.is_len);
      half = c.level.ensures.half;
      few = omega (arith, k.few, all);
      fits = omega (arith, k.fits);
    }

pub returns-clause-out : goal.returns-clause-out
returns-clause-out g c =
    let pages = c.args.pages.now.pages in
    c.remove-out.ensures.out ∙ sym (entry-joined pages c.args.p c.args.j c.remove-out.result c.requires.within c.requires.inside)
