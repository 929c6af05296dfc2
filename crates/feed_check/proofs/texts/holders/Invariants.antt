use Rattle.std.proofs.Common.{◌≡◌}
use Rattle.toml.specs.View.{view}
use Rattle.feed_check.specs.Texts.{holders}
use Rattle.feed_check.proofs.texts.holders.Given as goal

abbrev pub invariant-loop-place : goal.invariant-loop-place
invariant-loop-place g l = record {
  found : l.cells.items ≡ holders (view l.rows) l.text l.place;
}
