use Rattle.std.proofs.Common.{arith}
use Rattle.list_shelf.proofs.Shelves.{shelf-more}
use Rattle.list_shelf.proofs.shelf.Shelf.stock.Goals as goal

pub invariant_of-self-2 : goal.invariant_of-self-2
invariant_of-self-2 g c =
    let s = c.self.inside in
    let i = c.self.invariant.0 in
    let a = c.in_ok-reserve.ensures.ok in
    let b = c.in_ok-reserve-2.ensures.ok in
    let d = c.in_ok-reserve-3.ensures.ok in
    rw (c.reserve.ensures.items, c.reserve-2.ensures.items, c.reserve-3.ensures.items) (
      shelf-more g.S.Summary.sums_up s.cells.items s.heads.items s.free.items s.all c.args.target i (omega (arith, c.if-target-self.false)),
      omega (arith, a, c.len.ensures, c.reserve.ensures.len),
      omega (arith, b, c.len-2.ensures, c.reserve-2.ensures.len),
      omega (arith, d, c.len-3.ensures, c.reserve-3.ensures.len),
    )
