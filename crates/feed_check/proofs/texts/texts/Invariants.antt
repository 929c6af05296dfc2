use Rattle.std.proofs.Common.{◌≡◌, ◌≤◌}
use Rattle.toml.specs.View.{view}
use Rattle.feed_check.specs.Texts.{texts}
use Rattle.feed_check.proofs.texts.texts.Given as goal

abbrev pub invariant-loop-place : goal.invariant-loop-place
invariant-loop-place l = record {
  counted : l.count ≡ texts (view l.rows) l.place;
  small : l.count ≤ l.place;
}
