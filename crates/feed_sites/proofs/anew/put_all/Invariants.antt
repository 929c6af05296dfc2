use Rattle.std.proofs.Common.{◌≡◌, ◌+◌, take}
use Rattle.desk_ops.specs.declared.op.Key.{Key}
use Rattle.desk_ops.specs.OpSet.{size}
use Rattle.desk_ops.specs.Shown.{copy_of}
use Rattle.desk_ops.specs.Settings.{setting_of}
use Rattle.feed_sites.specs.Anew.{IsOwn}
use Rattle.feed_sites.proofs.anew.put_all.Given as goal

abbrev pub invariant-loop-symbol : goal.invariant-loop-symbol
invariant-loop-symbol g l = record {
  site : l.replica.site ≡ l.fn.replica.site;
  own : IsOwn l.fn.replica.site l.replica.ops;
  count : size l.replica.ops ≡ size l.fn.replica.ops + l.symbol-index;
  copy : copy_of l.replica.ops ≡ take l.symbol-index l.copy;
  settings : (k : Key) → setting_of l.replica.ops k ≡ setting_of l.fn.replica.ops k;
}
