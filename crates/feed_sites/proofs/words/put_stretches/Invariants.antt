use Rattle.std.proofs.Common.{◌≡◌, ◌++◌, drop}
use Rattle.feed_sites.specs.declared.stretch.Point.{Point}
use Rattle.feed_sites.specs.Stretches.{DifferIn, ends}
use Rattle.feed_sites.specs.Words.{stretches_lines}
use Rattle.feed_sites.proofs.words.put_stretches.Given as goal

abbrev pub invariant-loop-stretch : goal.invariant-loop-stretch
invariant-loop-stretch g l = record {
  differ : (from : Point) × DifferIn l.one l.other from (drop l.stretch-index l.stretches) (ends l.one l.other);
  written : l.out.items ++ stretches_lines l.one l.other (drop l.stretch-index l.stretches) ≡ l.fn.out.items ++ stretches_lines l.one l.other l.stretches;
}
