use Rattle.std.proofs.Common.{◌≡◌, ℕ, ◌+◌, ◌≤◌, List, ◌++◌, drop, length}
use Rattle.feed_files.specs.Files.{Stays}
use Rattle.desk_script.specs.Desk.{KeepsSites, desk}
use Rattle.desk_script.specs.Line.{Line, max_line}
use Rattle.desk_script.specs.Script.{Turn}
use Rattle.desk_script.specs.Pending.{lines_from}
use Rattle.desk_script.proofs.stream.take_bytes.Given as goal

abbrev pub invariant-loop-b : goal.invariant-loop-b
invariant-loop-b g l = record {
  kept : length l.line.items ≤ max_line + 2;
  stays : Stays (g.F.Files.shelf l.fn.files) (g.F.Files.shelf l.files);
  sites : KeepsSites l.fn.world l.world;
  moves : (done : List Line) × Turn (desk l.fn.world (g.F.Files.shelf l.fn.files)) (desk l.world (g.F.Files.shelf l.files)) (g.W.Write.contents l.fn.writer) (g.W.Write.contents l.writer) done
      × ((more : List ℕ) → lines_from l.fn.line.items (l.bytes ++ more) ≡ done ++ lines_from l.line.items (drop l.b-index l.bytes ++ more));
}
