use Rattle.std.proofs.Common.{◌<◌, ◌-◌, ◌∙◌, sym, ap, arith, length, get_or}
use Rattle.desk_ops.specs.declared.op.Op.{Op}
use Rattle.desk_ops.specs.Op.{stamp_of}
use Rattle.desk_ops.specs.Held.{greatest_counter, greatest_counter_of}
use Rattle.desk_ops.proofs.OpSets.{in_order-from_rising}
use Rattle.desk_ops.proofs.Bearers.{ordered_rising, greatest-last}
use Rattle.desk_held.specs.Holding.{Holding}
use Rattle.desk_held.proofs.Joins.{no_list}
use Rattle.desk_held.proofs.Held.greatest_counter.Goals as goal

pub returns-then-len-eq0 : goal.returns-then-len-eq0
returns-then-len-eq0 g c =
    let ops = c.self.inside.ops.entries in
    ap greatest_counter (sym (no_list ops (sym c.len-len.ensures ∙ c.if-len-eq0.true))) ∙ ap greatest_counter (sym (in_order-from_rising ops c.self.invariant.rising)) ∙ ap (λ (h : Holding). greatest_counter_of h.ops) c.self.view_is

pub returns : goal.returns
returns g c =
    let ops = c.self.inside.ops.entries in
    let lt : length ops - 1 < length ops = omega arith in
    ap (λ s. s.counter) c.stamp.ensures ∙ ap (λ (o : Op). (stamp_of o).counter) (c.entry.ensures ∙ ap (λ n. get_or ops n c.entry.result) (ap (λ n. n - 1) c.len-len.ensures))
    ∙ sym (greatest-last ops c.entry.result (ordered_rising ops c.self.invariant.rising) (omega arith))
    ∙ ap greatest_counter (sym (in_order-from_rising ops c.self.invariant.rising)) ∙ ap (λ (h : Holding). greatest_counter_of h.ops) c.self.view_is
