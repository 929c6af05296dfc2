use Rattle.std.proofs.Common.{◌≡◌, ℕ, List, ◌≤◌, ◌<◌, ◌-◌, ◌∙◌, ap, sym, subst, arith, refl, length, get_or, false}
use Rattle.std.proofs.lemmas.List.{take_all, get_or_default}
use Rattle.desk_ops.specs.declared.op.Op.{Op}
use Rattle.desk_ops.specs.OpSet.{OpSet, has_op, with_all, in_order, size}
use Rattle.desk_ops.proofs.OpSets.{length-in_order}
use Rattle.desk_held.proofs.Joins.{gained-more}
use Rattle.desk_replica.proofs.Sets.{count-new, count-known, counted, drop-none, take-none, halt-next, halt-full, rest-refused, room-rest}
use Rattle.desk_replica.specs.State.{HasRoom, IsCounted}
use Rattle.desk_replica.proofs.Replica.take_each.Goals as goal

ended : (os : List Op) (n end at : ℕ) → length os ≡ n → end ≡ n → end ≤ at → length os ≤ at
ended os n end at a b c = omega (arith, a, b, c)

pub returns-in-Err-clause-stopped : goal.returns-in-Err-clause-stopped
returns-in-Err-clause-stopped g c =
    let list = in_order c.args.ops.now.ops in
    let n : length list ≡ size c.args.ops.now.ops = length-in_order c.args.ops.now.ops in
    let lt : c.loop-taken.taken < length list = omega (arith, n, c.loop-taken-test.true, c.len-taken-end.ensures.value) in
    let h = c.loop-taken.self.ops in
    let new : has_op h c.op.result ≡ false = halt-next c.in-Err.why (has_op h c.op.result) _ _ c.in-Err.ensures.full c.in-Err.ensures.memory in
    record {
      gained = c.in-Err.ensures.err ∙ c.loop-taken.invariant.gained;
      within = lt;
      next = λ d. ap (λ (k : OpSet). has_op k (get_or list c.loop-taken.taken d)) c.in-Err.ensures.err ∙ ap (has_op h) (get_or_default list c.loop-taken.taken d c.op.result lt ∙ sym c.op.ensures.value) ∙ new;
      full = halt-full c.in-Err.why h c.put.new.self.ops c.op.result new c.in-Err.ensures.err c.in-Err.ensures.full;
    }

pub loop-taken-preserved : goal.loop-taken-preserved
loop-taken-preserved g c =
    let list = in_order c.args.ops.now.ops in
    let n : length list ≡ size c.args.ops.now.ops = length-in_order c.args.ops.now.ops in
    let lt : c.loop-taken.taken < length list = omega (arith, n, c.loop-taken-test.true, c.len-taken-end.ensures.value) in
    record {
      gained = gained-more c.args.self.now.ops c.loop-taken.self.ops _ list c.loop-taken.taken c.op.result lt c.op.ensures.value c.loop-taken.invariant.gained c.in_default.ensures.ok;
      site = c.in_default.ensures.site ∙ c.loop-taken.invariant.site;
      room = λ r. room-rest c.loop-taken.self.ops _ c.loop-taken.self.spare _ list c.loop-taken.taken c.op.result lt c.op.ensures.value (c.loop-taken.invariant.room r) c.in_default.ensures.ok c.in_default.ensures.spare c.in_default.ensures.known_spare;
    }

pub loop-taken-init : goal.loop-taken-init
loop-taken-init g c =
    let list = in_order c.args.ops.now.ops in
    let h = c.args.self.now.ops in
    record {
      gained = ap (with_all h) (sym (take-none list));
      site = refl;
      room = λ r. subst (HasRoom h c.args.self.now.spare) (sym (drop-none list)) r;
    }

pub returns-in-Err-clause-room : goal.returns-in-Err-clause-room
returns-in-Err-clause-room g c = λ r.
    let list = in_order c.args.ops.now.ops in
    let n : length list ≡ size c.args.ops.now.ops = length-in_order c.args.ops.now.ops in
    let lt : c.loop-taken.taken < length list = omega (arith, n, c.loop-taken-test.true, c.len-taken-end.ensures.value) in
    absurd (rest-refused c.loop-taken.self.ops c.loop-taken.self.spare list c.loop-taken.taken c.op.result c.in-Err.why lt c.op.ensures.value (c.loop-taken.invariant.room r) c.in-Err.ensures.full c.in-Err.ensures.memory)

pub returns-clause-ok : goal.returns-clause-ok
returns-clause-ok g c =
    let list = in_order c.args.ops.now.ops in
    let n : length list ≡ size c.args.ops.now.ops = length-in_order c.args.ops.now.ops in
    let le : length list ≤ c.loop-taken.taken = omega (arith, n, c.loop-taken-test.false, c.len-taken-end.ensures.value) in
    c.loop-taken.invariant.gained ∙ ap (with_all c.args.self.now.ops) (take_all c.loop-taken.taken list le)

pub overflow_sub-new : goal.overflow_sub-new
overflow_sub-new g c = count-new c.args.self.now.ops c.loop-taken.self.ops (in_order c.args.ops.now.ops) c.len-before.result c.len.result (c.loop-taken.invariant.gained ∙ ap (with_all c.args.self.now.ops) (take_all c.loop-taken.taken (in_order c.args.ops.now.ops) (ended (in_order c.args.ops.now.ops) _ _ _ (length-in_order c.args.ops.now.ops) c.len-taken-end.ensures.value c.loop-taken-test.false))) c.len-before.ensures.value c.len.ensures.value

pub overflow_sub-result : goal.overflow_sub-result
overflow_sub-result g c =
    let n : length (in_order c.args.ops.now.ops) ≡ size c.args.ops.now.ops = length-in_order c.args.ops.now.ops in
    let k = count-known c.args.self.now.ops c.loop-taken.self.ops (in_order c.args.ops.now.ops) c.len-before.result c.len.result (c.loop-taken.invariant.gained ∙ ap (with_all c.args.self.now.ops) (take_all c.loop-taken.taken (in_order c.args.ops.now.ops) (ended (in_order c.args.ops.now.ops) _ _ _ (length-in_order c.args.ops.now.ops) c.len-taken-end.ensures.value c.loop-taken-test.false))) c.len-before.ensures.value c.len.ensures.value in
    omega (arith, n, k, c.len-2.ensures.value)

pub returns-clause-counts : goal.returns-clause-counts
returns-clause-counts g c =
    let n : length (in_order c.args.ops.now.ops) ≡ c.len-2.result = length-in_order c.args.ops.now.ops ∙ sym c.len-2.ensures.value in
    subst (λ m. IsCounted c.args.self.now.ops c.loop-taken.self.ops (in_order c.args.ops.now.ops) (record { new = c.len.result - c.len-before.result; known = m - (c.len.result - c.len-before.result) })) n
    (counted c.args.self.now.ops c.loop-taken.self.ops (in_order c.args.ops.now.ops) c.len-before.result c.len.result (c.loop-taken.invariant.gained ∙ ap (with_all c.args.self.now.ops) (take_all c.loop-taken.taken (in_order c.args.ops.now.ops) (ended (in_order c.args.ops.now.ops) _ _ _ (length-in_order c.args.ops.now.ops) c.len-taken-end.ensures.value c.loop-taken-test.false))) c.len-before.ensures.value c.len.ensures.value)
