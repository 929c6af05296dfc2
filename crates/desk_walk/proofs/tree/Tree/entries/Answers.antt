use Rattle.std.proofs.Common.{◌≡◌, ℕ, ◌+◌, ◌-◌, ◌<◌, ◌++◌, ◌∷◌, [], ◌∙◌, ap, sym, subst, subst₂, arith, length, List}
use Rattle.std.proofs.lemmas.List.{get_or_read}
use Rattle.desk_ops.specs.declared.op.Op.{Op}
use Rattle.desk_ops.specs.OpSet.{in_order}
use Rattle.desk_ops.proofs.OpSets.{length-in_order}
use Rattle.desk_seq.specs.declared.Entry.{Entry}
use Rattle.desk_walk.specs.declared.tree.Node.{Node}
use Rattle.desk_walk.specs.Tree.{op_at, no_node, entry_by, entry_at}
use Rattle.desk_walk.proofs.Beside.{op-read}
use Rattle.desk_walk.proofs.Walking.{IsWalking, walk-none, walk-next, walk-more, walk-read, walk-all}
use Rattle.desk_walk.proofs.tree.Tree.entries.Goals as goal

pub loop-passed-init : goal.loop-passed-init
loop-passed-init g c =
    subst (IsWalking c.args.held.now.ops c.args.self.now.nodes.items c.args.self.now.count 0 0) (sym c.in_ok-entries.ensures.items)
    (walk-none c.args.held.now.ops c.args.self.now.nodes.items c.args.self.now.count c.requires.linking.tree)

pub overflow_sub-k : goal.overflow_sub-k
overflow_sub-k g c =
    let h = c.args.held.now.ops in
    let t = c.args.self.now in
    let l = c.loop-passed in
    let n = walk-read h t.nodes.items t.count l.k l.passed l.entries.items l.invariant c.index.result.now c.index.ensures in
    let p = walk-next h t.nodes.items t.count l.k l.passed l.entries.items l.invariant c.loop-passed-test.true in
    subst (λ m. 0 < m) (sym n) p.0

pub returns : goal.returns
returns g c = walk-all c.args.held.now.ops c.args.self.now.nodes.items c.args.self.now.count c.loop-passed.k c.loop-passed.passed c.loop-passed.entries.items c.loop-passed.invariant c.loop-passed-test.false

pub index-requires-in-loop-passed : goal.index-requires-in-loop-passed
index-requires-in-loop-passed g c =
    let h = c.args.held.now.ops in
    let t = c.args.self.now in
    let l = c.loop-passed in
    let n = walk-read h t.nodes.items t.count l.k l.passed l.entries.items l.invariant c.index.result.now c.index.ensures in
    let p = walk-next h t.nodes.items t.count l.k l.passed l.entries.items l.invariant c.loop-passed-test.true in
    let high : c.index.result.now.next < length t.nodes.items = subst (λ m. m < length t.nodes.items) (sym n) p.1 in
    omega (arith, high)

pub bounds-ops-k : goal.bounds-ops-k
bounds-ops-k g c =
    let h = c.args.held.now.ops in
    let t = c.args.self.now in
    let l = c.loop-passed in
    let n = walk-read h t.nodes.items t.count l.k l.passed l.entries.items l.invariant c.index.result.now c.index.ensures in
    let p = walk-next h t.nodes.items t.count l.k l.passed l.entries.items l.invariant c.loop-passed-test.true in
    let low : 0 < c.index.result.now.next = subst (λ m. 0 < m) (sym n) p.0 in
    let high : c.index.result.now.next < length t.nodes.items = subst (λ m. m < length t.nodes.items) (sym n) p.1 in
    omega (arith, low, high, c.requires.linking.long, length-in_order h, ap length c.requires.listed)

pub loop-passed-preserved : goal.loop-passed-preserved
loop-passed-preserved g c =
    let h = c.args.held.now.ops in
    let t = c.args.self.now in
    let l = c.loop-passed in
    let n = walk-read h t.nodes.items t.count l.k l.passed l.entries.items l.invariant c.index.result.now c.index.ensures in
    let p = walk-next h t.nodes.items t.count l.k l.passed l.entries.items l.invariant c.loop-passed-test.true in
    let low : 0 < c.index.result.now.next = subst (λ m. 0 < m) (sym n) p.0 in
    let high : c.index.result.now.next < length t.nodes.items = subst (λ m. m < length t.nodes.items) (sym n) p.1 in
    let in' : c.index.result.now.next - 1 < length (in_order h) = omega (arith, low, high, c.requires.linking.long, length-in_order h) in
    let entry : c.entry_by.result ≡ entry_at (in_order h) t.nodes.items c.index.result.now.next = c.entry_by.ensures
    ∙ ap (λ (o : Op). entry_by o c.index-in-loop-passed.result.now.deleted) (op-read h c.args.ops.now (c.index.result.now.next - 1) _ c.requires.listed in')
    ∙ ap (λ (m : Node). entry_by (op_at (in_order h) (c.index.result.now.next - 1)) m.deleted) (get_or_read t.nodes.items c.index.result.now.next c.index-in-loop-passed.result.now high c.index-in-loop-passed.ensures no_node) in
    subst₂ (λ (m : ℕ) (es : List Entry). IsWalking h t.nodes.items t.count m (l.passed + 1) es) (sym n)
    (sym (c.in_ok-push.ensures.items ∙ ap (λ (e : Entry). l.entries.items ++ e ∷ []) (entry ∙ ap (entry_at (in_order h) t.nodes.items) n)))
    (walk-more h t.nodes.items t.count l.k l.passed l.entries.items l.invariant c.loop-passed-test.true)
