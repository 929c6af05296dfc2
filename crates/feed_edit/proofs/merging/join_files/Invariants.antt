use Rattle.std.proofs.Common.{◌≡◌, map, take}
use Rattle.feed_files.specs.Files.{Stays}
use Rattle.feed_edit.specs.Forks.{IsAllowed}
use Rattle.feed_edit.specs.Merging.{IsJoined}
use Rattle.feed_edit.proofs.merging.join_files.Given as goal

abbrev pub invariant-loop-at : goal.invariant-loop-at
invariant-loop-at g l = record {
  joined : IsJoined (g.F.Files.shelf l.fn.files).kept (map (λ n. n.now) (take l.at l.names)) l.fn.replica.ops l.replica.ops l.out.items l.clean;
  allowed : IsAllowed l.known.forks l.fn.replica.ops l.replica.ops;
  stays : Stays (g.F.Files.shelf l.fn.files) (g.F.Files.shelf l.files);
  counted : (g.F.Files.shelf l.files).failures ≡ (g.F.Files.shelf l.fn.files).failures;
}
