use Rattle.std.proofs.Common.{ℕ, sym, ap, ◌∙◌, get_or}
use Rattle.desk_ops.specs.Op.{stamp_of}
use Rattle.desk_replica.specs.Ways.{kind_at}
use Rattle.desk_replica.proofs.ByStamp.{ops_rise}
use Rattle.desk_replica.proofs.Ends.{head_of, order_of, kind_bare, hanging_is}
use Rattle.desk_replica.proofs.faults.kind_of.Goals as goal

pub returns-then-is_head : goal.returns-then-is_head
returns-then-is_head c = head_of c.args.ops.now c.requires.order c.args.target (sym c.is_head.ensures ∙ c.if-is_head.true)

pub place_of-requires : goal.place_of-requires
place_of-requires c = ops_rise c.args.ops.now (order_of c.args.ops.now c.requires.order)

pub returns-in_default : goal.returns-in_default
returns-in_default c = kind_bare c.args.ops.now c.args.target (sym c.is_head.ensures ∙ c.if-is_head.false) c.in_default.ensures

pub bounds-hanging-place : goal.bounds-hanging-place
bounds-hanging-place c = c.requires.older c.in-Some.place c.in-Some.ensures

pub returns : goal.returns
returns c = hanging_is c.args.ops.now c.args.hanging.now c.args.target c.in-Some.place _ c.requires.hanging (c.requires.older c.in-Some.place c.in-Some.ensures) c.in-Some.ensures
