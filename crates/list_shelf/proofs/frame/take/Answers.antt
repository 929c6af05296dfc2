use Rattle.std.proofs.Common.{◌-◌, take, drop}
use Rattle.std.specs.List.{remove}
use Rattle.list_shelf.proofs.Frames.{written, written-others}
use Rattle.list_shelf.proofs.frame.take.Goals as goal

pub returns-clause-rest : goal.returns-clause-rest
returns-clause-rest g c =
    let cells = c.args.cells.now in
    written cells.items c.args.f cells.len c.slice_mut.result.now c.take_in.new.frame
    (λ z. take (c.args.n - 1) (drop c.take_in.result z)) (λ z. remove (take c.args.n (drop c.args.s z)) c.args.j)
    cells.ok.0 c.requires.frame c.take_in.ensures.len c.slice_mut.ensures.value c.take_in.ensures.rest

pub returns-clause-others : goal.returns-clause-others
returns-clause-others g c =
    let cells = c.args.cells.now in
    written-others cells.items c.args.f cells.len c.take_in.new.frame cells.ok.0 c.requires.frame c.take_in.ensures.len
