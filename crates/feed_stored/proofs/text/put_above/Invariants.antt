use Rattle.std.proofs.Common.{◌≡◌, ◌++◌, drop}
use Rattle.std.specs.Prelude.{string_bytes}
use Rattle.std.specs.List.{filter}
use Rattle.feed_stored.specs.Text.{is_above, last_text}
use Rattle.feed_stored.proofs.text.put_above.Given as goal

abbrev pub invariant-loop-stamp : goal.invariant-loop-stamp
invariant-loop-stamp g l = string_bytes l.out ++ last_text (filter (is_above l.site) (drop l.stamp-index l.stamps)) ≡ string_bytes l.fn.out ++ last_text (filter (is_above l.site) l.stamps)
