use Rattle.std.proofs.Common.{◌+◌, ◌++◌, length, take}
use Rattle.list_shelf.proofs.Frames.{written, written-others}
use Rattle.list_shelf.proofs.frame.append.Goals as goal

pub returns-clause-put : goal.returns-clause-put
returns-clause-put g c =
    let cells = c.args.cells.now in
    written cells.items c.args.f cells.len c.slice_mut.result.now c.append_in.new.frame
    (λ z. take (c.args.n + length c.args.items.now) z) (λ z. take c.args.n z ++ c.args.items.now)
    cells.ok.0 c.requires.frame c.append_in.ensures.len c.slice_mut.ensures.value c.append_in.ensures.put

pub returns-clause-others : goal.returns-clause-others
returns-clause-others g c =
    let cells = c.args.cells.now in
    written-others cells.items c.args.f cells.len c.append_in.new.frame cells.ok.0 c.requires.frame c.append_in.ensures.len
