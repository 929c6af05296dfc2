use Rattle.std.proofs.Common.{◌≡◌, ℕ, List, subst}
use Rattle.std.specs.Prelude.{IfOk}
use Rattle.feed_readings.proofs.Joined.{apart_lists, count_of_lists, lines_of_lists}
use Rattle.feed_readings.proofs.after.report_apart.Goals as goal

pub returns-clause-lines : goal.returns-clause-lines
returns-clause-lines g c =
    λ one other are is.
    let l = c.in_ok-copies.copies in
    let e = c.in_ok-copies.ensures in
    let of = apart_lists one other c.args.both.now.ops c.args.parts (g.Q.Sequence.entries c.sequence.result.now) l.base.items l.one.items l.other.items l.both.items are c.len-len.ensures.lawful is c.sequence.ensures e.base e.one e.other e.both in
    subst (λ (lines : List ℕ). IfOk c.lines_in.result (λ t. t.0.items ≡ lines)) (lines_of_lists one other l.base.items l.one.items l.other.items l.both.items of) c.lines_in.ensures.lines

pub returns-clause-count : goal.returns-clause-count
returns-clause-count g c =
    λ one other are is.
    let l = c.in_ok-copies.copies in
    let e = c.in_ok-copies.ensures in
    let of = apart_lists one other c.args.both.now.ops c.args.parts (g.Q.Sequence.entries c.sequence.result.now) l.base.items l.one.items l.other.items l.both.items are c.len-len.ensures.lawful is c.sequence.ensures e.base e.one e.other e.both in
    subst (λ (n : ℕ). IfOk c.lines_in.result (λ t. t.1 ≡ n)) (count_of_lists one other l.base.items l.one.items l.other.items l.both.items of) c.lines_in.ensures.count
