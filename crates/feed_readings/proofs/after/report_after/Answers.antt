use Rattle.std.proofs.Common.{◌≡◌, ◌≤◌, ℕ, List, length, subst, sym, ap}
use Rattle.std.specs.Prelude.{IfOk}
use Rattle.desk_ops.specs.declared.op.Op.{Op}
use Rattle.desk_ops.specs.OpSet.{no_ops, size, with_all}
use Rattle.feed_readings.specs.declared.reading.Reading.{Reading}
use Rattle.feed_readings.proofs.Joined.{apart_parts, count_of_lists, few_joined, held_none, joined_union, lines_of_lists, nothing_reported, whole_lists}
use Rattle.feed_readings.proofs.after.report_after.Goals as goal

pub copies_after-requires-clause-few : goal.copies_after-requires-clause-few
copies_after-requires-clause-few g c =
    let j = c.requires.joined in
    subst (λ (l : List Op). size (with_all no_ops l) ≤ size c.args.both.now.ops) (sym c.deref.ensures.value) (few_joined j.0 c.args.ops.items c.args.before c.args.both.now.ops j.1)

pub returns-in-Held-clause-lines : goal.returns-in-Held-clause-lines
returns-in-Held-clause-lines g c =
    λ set j. nothing_reported set (with_all no_ops c.args.ops.items) c.new.result.items c.new.ensures.items (held_none set c.args.ops.items c.args.before c.args.both.now.ops c.len-len.ensures.lawful c.in-Held.is j)

pub returns-in-Held-clause-count : goal.returns-in-Held-clause-count
returns-in-Held-clause-count g c =
    λ set j. sym (ap (λ (l : List Reading). length l) (held_none set c.args.ops.items c.args.before c.args.both.now.ops c.len-len.ensures.lawful c.in-Held.is j))

pub returns-in-Apart-clause-lines : goal.returns-in-Apart-clause-lines
returns-in-Apart-clause-lines g c =
    λ set j.
    c.report_apart.ensures.lines set (with_all no_ops c.args.ops.items) (apart_parts set c.args.ops.items c.args.before c.args.both.now.ops c.in-Apart.parts c.in-Apart.is j)
    (joined_union set c.args.ops.items c.args.before c.args.both.now.ops j)

pub returns-in-Apart-clause-count : goal.returns-in-Apart-clause-count
returns-in-Apart-clause-count g c =
    λ set j.
    c.report_apart.ensures.count set (with_all no_ops c.args.ops.items) (apart_parts set c.args.ops.items c.args.before c.args.both.now.ops c.in-Apart.parts c.in-Apart.is j)
    (joined_union set c.args.ops.items c.args.before c.args.both.now.ops j)

pub returns-in_ok-copies-in-Whole-clause-lines : goal.returns-in_ok-copies-in-Whole-clause-lines
returns-in_ok-copies-in-Whole-clause-lines g c =
    λ set j.
    let l = c.in_ok-copies-in-Whole.copies in
    let e = c.in_ok-copies-in-Whole.ensures in
    let of = whole_lists set c.args.ops.items c.deref.result.now c.args.before c.args.both.now.ops c.in-Whole.whole l.base.items l.one.items l.other.items l.both.items c.in-Whole.is j c.deref.ensures.value e.base e.one e.other e.both in
    subst (λ (lines : List ℕ). IfOk c.lines_in.result (λ t. t.0.items ≡ lines)) (lines_of_lists set (with_all no_ops c.args.ops.items) l.base.items l.one.items l.other.items l.both.items of) c.lines_in.ensures.lines

pub returns-in_ok-copies-in-Whole-clause-count : goal.returns-in_ok-copies-in-Whole-clause-count
returns-in_ok-copies-in-Whole-clause-count g c =
    λ set j.
    let l = c.in_ok-copies-in-Whole.copies in
    let e = c.in_ok-copies-in-Whole.ensures in
    let of = whole_lists set c.args.ops.items c.deref.result.now c.args.before c.args.both.now.ops c.in-Whole.whole l.base.items l.one.items l.other.items l.both.items c.in-Whole.is j c.deref.ensures.value e.base e.one e.other e.both in
    subst (λ (n : ℕ). IfOk c.lines_in.result (λ t. t.1 ≡ n)) (count_of_lists set (with_all no_ops c.args.ops.items) l.base.items l.one.items l.other.items l.both.items of) c.lines_in.ensures.count
