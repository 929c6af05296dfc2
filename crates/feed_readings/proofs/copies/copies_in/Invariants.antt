use Rattle.std.proofs.Common.{◌≡◌, map, take}
use Rattle.std.specs.List.{filter}
use Rattle.feed_readings.specs.Merged.{entered, shown_entries}
use Rattle.feed_readings.specs.Parts.{base_shows, one_shows, other_shows}
use Rattle.feed_readings.proofs.copies.copies_in.Given as goal

abbrev pub invariant-loop-at : goal.invariant-loop-at
invariant-loop-at g l = record {
  base : l.copies.base.items ≡ map entered (filter (base_shows l.parts) (take l.at (g.Q.Sequence.entries l.sequence)));
  one : l.copies.one.items ≡ map entered (filter (one_shows l.parts) (take l.at (g.Q.Sequence.entries l.sequence)));
  other : l.copies.other.items ≡ map entered (filter (other_shows l.parts) (take l.at (g.Q.Sequence.entries l.sequence)));
  both : l.copies.both.items ≡ shown_entries (take l.at (g.Q.Sequence.entries l.sequence));
}
