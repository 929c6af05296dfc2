use Rattle.std.proofs.Common.{map, take}
use Rattle.feed_files.specs.Files.{Stays}
use Rattle.feed_check.proofs.Checks.{AreChecked}
use Rattle.feed_check.proofs.checking.check_files.Given as goal

abbrev pub invariant-loop-at : goal.invariant-loop-at
invariant-loop-at g l = record {
  checked : AreChecked (map (λ n. n.now) (take l.at l.names)) (g.F.Files.shelf l.fn.files) (g.F.Files.shelf l.files) (g.W.Write.contents l.fn.writer) (g.W.Write.contents l.writer) l.all l.metal;
  stays : Stays (g.F.Files.shelf l.fn.files) (g.F.Files.shelf l.files);
}
