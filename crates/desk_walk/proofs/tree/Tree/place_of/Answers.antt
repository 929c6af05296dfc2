use Rattle.std.proofs.Common.{◌≡◌, ◌+◌, ◌<◌, ◌∙◌, ap, sym, arith, length, false}
use Rattle.std.proofs.lemmas.List.{get_or_read}
use Rattle.desk_walk.specs.declared.tree.Node.{Node}
use Rattle.desk_walk.specs.Tree.{no_node, node_at}
use Rattle.desk_walk.proofs.Walking.{not-linked, not-head-from}
use Rattle.desk_walk.proofs.tree.Tree.place_of.Goals as goal

pub returns-else-index-clause-none : goal.returns-else-index-clause-none
returns-else-index-clause-none g c = λ _.
    let h = c.args.held.now.ops in
    let t = c.args.self.now in
    let k = c.in_ok-place.field-0 in
    let lt : k < c.args.end = c.in_ok-place.ensures.found.0 in
    let in' : k + 1 < length t.nodes.items = omega (arith, lt, c.requires.linking.long) in
    let off : (node_at t.nodes.items (k + 1)).linked ≡ false = ap (λ (n : Node). n.linked) (sym (get_or_read t.nodes.items (k + 1) c.index.result.now in' c.index.ensures no_node)) ∙ c.if-index.false in
    not-linked h c.args.end t.nodes.items t.count t.waiting.items c.requires.linking c.args.stamp (not-head-from c.args.stamp (sym c.is_head.ensures ∙ c.if-is_head.false)) c.requires.within
    k lt c.in_ok-place.ensures.found.1 off
