use Rattle.std.proofs.Common.{◌≡◌, List, take}
use Rattle.desk_ops.specs.declared.op.Op.{Op}
use Rattle.feed_edit.specs.Editing.{AreMade}
use Rattle.feed_edit.proofs.editing.put_edits.Given as goal

abbrev pub invariant-loop-change : goal.invariant-loop-change
invariant-loop-change g l = record {
  site : l.replica.site ≡ l.fn.replica.site;
  made : (ops : List Op) × AreMade l.fn.replica.site l.fn.replica.ops l.replica.ops (take l.change-index l.made) ops;
}
