use Rattle.std.proofs.Common.{◌≡◌, ◌≤◌, take}
use Rattle.feed_edit.specs.Editing.{deletes_of, inserts_of}
use Rattle.feed_edit.proofs.editing.tally_of.Given as goal

abbrev pub invariant-loop-change : goal.invariant-loop-change
invariant-loop-change l = record {
  inserted : l.inserted ≡ inserts_of (take l.change-index l.made);
  deleted : l.deleted ≡ deletes_of (take l.change-index l.made);
  few_inserted : l.inserted ≤ l.change-index;
  few_deleted : l.deleted ≤ l.change-index;
}
