use Rattle.std.proofs.Common.{◌≡◌, ◌==◌, false, length, arith, rules}
use Rattle.desk_script.proofs.SheetCutting.{first_ends, last_is, slice_end, slice_from}
use Rattle.desk_script.proofs.sheet.next_line.Goals as goal

pub returns-then-byte-eq10-clause-first : goal.returns-then-byte-eq10-clause-first
returns-then-byte-eq10-clause-first c =
    first_ends c.args.bytes.now c.without_cr.result.now _ c.loop-at.at c.loop-at-test.true c.if-byte-eq10.true c.without_cr.ensures (slice_from c.args.bytes.now _) c.loop-at.invariant

pub returns-clause-first : goal.returns-clause-first
returns-clause-first c =
    let some : (length c.args.bytes.now == 0) ≡ false = search rules in
    last_is c.args.bytes.now _ c.loop-at.at (omega arith) some (slice_end c.args.bytes.now) c.loop-at.invariant
