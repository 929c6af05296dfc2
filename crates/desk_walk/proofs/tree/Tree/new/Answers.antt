use Rattle.std.proofs.Common.{◌∙◌, ap, arith, List, ◌++◌, ◌∷◌, []}
use Rattle.desk_walk.specs.declared.tree.Node.{Node}
use Rattle.desk_walk.proofs.Walking.{linking-none}
use Rattle.desk_walk.proofs.tree.Tree.new.Goals as goal

pub returns : goal.returns
returns g c =
    linking-none c.args.held.now.ops c.len.ensures.lawful (omega (arith, c.len.ensures.value, c.len.ensures.within)) c.push.new.self.items c.new-waiting.result.items
    (c.in_ok-push.ensures.items ∙ ap (λ (ns : List Node). ns ++ _ ∷ []) c.in_ok-nodes.ensures.items) c.new-waiting.ensures.items
