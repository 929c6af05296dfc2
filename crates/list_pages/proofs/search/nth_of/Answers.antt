use Rattle.std.proofs.Common.{sym, arith, rules, get_or, []}
use Rattle.list_pages.proofs.Picks.{nth-all}
use Rattle.list_pages.proofs.search.nth_of.Goals as goal

pub returns-then-count-len-clause-found : goal.returns-then-count-len-clause-found
returns-then-count-len-clause-found g c =
    let page = get_or c.args.pages.now.pages c.args.p [] in
    let picks = g.P.Pick.picked c.args.pick.now in
    let n = c.in-Some.ensures page c.summary.ensures (sym c.len_of-len.ensures.len) in
    nth-all picks page c.args.n (omega (arith, n, c.if-count-len.true, c.len_of-len.ensures.len)) (omega (arith, c.if-count-n.false, c.if-count-len.true, c.len_of-len.ensures.len))

pub returns-then-count-n-clause-short : goal.returns-then-count-n-clause-short
returns-then-count-n-clause-short g c = search rules steps 300000
