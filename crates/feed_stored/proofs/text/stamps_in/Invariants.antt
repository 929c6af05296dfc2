use Rattle.std.proofs.Common.{◌≡◌, ◌++◌, List, length, ◌≤◌}
use denote.Text.{Utf8}
use denote.Shadow.{shadow}
use Rattle.desk_ops.specs.declared.op.Stamp.{Stamp}
use Rattle.feed_stored.specs.Text.{Rises, last_text}
use Rattle.feed_stored.proofs.text.stamps_in.Given as goal

-- the stamps so far, the least site of the next, and what is left of the text
abbrev pub invariant-lines : goal.invariant-lines
invariant-lines g l = record {
  utf8 : shadow (Utf8 l.rest);
  small : l.low ≤ 65536;
  text : l.bytes ≡ last_text l.stamps.items ++ l.rest;
  joins : (more : List Stamp) → Rises l.low more → Rises 0 (l.stamps.items ++ more);
  splits : (all : List Stamp) → Rises 0 all → l.bytes ≡ last_text all → (more : List Stamp) × (all ≡ l.stamps.items ++ more) × Rises l.low more × (l.rest ≡ last_text more);
}

abbrev pub decreases-lines : goal.decreases-lines
decreases-lines g l = length l.rest
