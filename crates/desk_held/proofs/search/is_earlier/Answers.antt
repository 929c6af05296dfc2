use Rattle.std.proofs.Common.{◌≡◌, ◌∙◌, false, sym}
use Rattle.desk_ops.specs.Op.{stamp_of}
use Rattle.desk_ops.specs.Stamp.{before, same}
use Rattle.desk_held.proofs.Stamped.{before_by_stamp}
use Rattle.desk_held.proofs.search.is_earlier.Goals as goal

pub returns-then-not-is_same : goal.returns-then-not-is_same
returns-then-not-is_same c =
    let x = c.args.a.now in
    let op = c.args.b.now in
    let apart : same (stamp_of x) (stamp_of op) ≡ false = rw (sym c.stamp-its.ensures, sym c.stamp-stamp.ensures) (sym c.is_same.ensures ∙ c.if-not-is_same.true) in
    let reported : c.is_before.result ≡ before (stamp_of x) (stamp_of op) = rw (sym c.stamp-its.ensures, sym c.stamp-stamp.ensures) c.is_before.ensures in
    reported ∙ before_by_stamp x op apart
