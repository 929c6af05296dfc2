use Rattle.std.proofs.Common.{◌≡◌, ap, arith}
use Rattle.desk_ops.specs.OpSet.{no_ops, with_all, size}
use Rattle.desk_walk.proofs.Walking.{size-all}
use Rattle.desk_walk.proofs.laid_out.Goals as goal

pub returns-clause-few : goal.returns-clause-few
returns-clause-few g c =
    let n : size c.in_ok-room.room.ops ≡ size (with_all no_ops c.args.waiting.now) = ap size (c.in_ok-room.ensures) in
    omega (arith, n, size-all c.args.waiting.now, c.requires.few)
