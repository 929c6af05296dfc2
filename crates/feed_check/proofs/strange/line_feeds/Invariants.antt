use Rattle.std.proofs.Common.{◌≡◌, ◌+◌, ◌≤◌, drop}
use Rattle.feed_check.specs.Strange.{line_feeds}
use Rattle.feed_check.proofs.strange.line_feeds.Given as goal

abbrev pub invariant-loop-byte : goal.invariant-loop-byte
invariant-loop-byte l = record {
  counted : l.count + line_feeds (drop l.byte-index l.bytes) ≡ line_feeds l.bytes;
  small : l.count ≤ l.byte-index;
}
