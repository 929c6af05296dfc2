use Rattle.std.proofs.Common.{◌≡◌, ◌++◌, drop, length}
use Rattle.feed_edit.specs.Reporting.{AreApart}
use Rattle.feed_edit.specs.Replacing.{replaced_at}
use Rattle.feed_edit.proofs.replacing.replaced.Given as goal

abbrev pub invariant-loop-place : goal.invariant-loop-place
invariant-loop-place g l = record {
  apart : AreApart l.count l.from (length l.copy) (drop l.place-index l.places);
  text : l.text.items ++ drop l.from (replaced_at (drop l.place-index l.places) l.count l.new l.copy) ≡ replaced_at l.places l.count l.new l.copy;
}
