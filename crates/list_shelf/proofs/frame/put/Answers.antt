use Rattle.std.proofs.Common.{◌+◌, take, drop}
use Rattle.std.specs.List.{insert}
use Rattle.list_shelf.proofs.Frames.{written, written-others}
use Rattle.list_shelf.proofs.frame.put.Goals as goal

pub returns-clause-put : goal.returns-clause-put
returns-clause-put g c =
    let cells = c.args.cells.now in
    written cells.items c.args.f cells.len c.slice_mut.result.now c.put_in.new.frame
    (λ z. take (c.args.n + 1) (drop c.put_in.result z)) (λ z. insert (take c.args.n (drop c.args.s z)) c.args.j c.args.x)
    cells.ok.0 c.requires.frame c.put_in.ensures.len c.slice_mut.ensures.value c.put_in.ensures.put

pub returns-clause-others : goal.returns-clause-others
returns-clause-others g c =
    let cells = c.args.cells.now in
    written-others cells.items c.args.f cells.len c.put_in.new.frame cells.ok.0 c.requires.frame c.put_in.ensures.len
