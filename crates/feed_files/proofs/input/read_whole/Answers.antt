use Rattle.std.proofs.Common.{arith, take}
use Rattle.std.proofs.lemmas.Result.{err_from_is_err_and}
use Rattle.feed_files.proofs.Taken.{some_taken, too_many}
use Rattle.feed_files.proofs.input.read_whole.Goals as goal

pub returns-then-n-most-clause-left : goal.returns-then-n-most-clause-left
returns-then-n-most-clause-left g c =
    too_many (g.R.Read.remaining c.args.reader.now) (g.R.Read.remaining c.reads.reader) (g.R.Read.remaining c.read.new.self) c.reads.bytes.items (take c.in-Ok.n c.read.new.buf) c.in-Ok.n c.args.most
    c.in-Ok.ensures.bound.1 c.reads.invariant.bytes c.in-Ok.ensures.bytes.0 (omega (arith, c.if-n-most.true, c.len.ensures, c.reads.invariant.within))

pub returns-in_err-extend_from_slice-in-Ok-clause-left : goal.returns-in_err-extend_from_slice-in-Ok-clause-left
returns-in_err-extend_from_slice-in-Ok-clause-left g c =
    let p = err_from_is_err_and c.from_residual.result c.from_residual.ensures.1 in
    rw p.1 (rw p.2 (some_taken (g.R.Read.remaining c.args.reader.now) (g.R.Read.remaining c.reads.reader) (g.R.Read.remaining c.read.new.self) c.reads.bytes.items (take c.in-Ok.n c.read.new.buf) c.in-Ok.n c.args.most
    c.in-Ok.ensures.bound.1 c.reads.invariant.bytes c.in-Ok.ensures.bytes.0 (omega (arith, c.in-Ok.n-test)) (omega (arith, c.if-n-most.false, c.len.ensures, c.reads.invariant.within))))
