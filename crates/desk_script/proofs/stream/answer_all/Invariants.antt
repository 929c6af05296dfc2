use Rattle.std.proofs.Common.{◌+◌, ◌≤◌, length}
use Rattle.feed_files.specs.Files.{Stays}
use Rattle.desk_script.specs.Desk.{KeepsSites, desk}
use Rattle.desk_script.specs.Line.{max_line}
use Rattle.desk_script.specs.Pending.{Carries}
use Rattle.desk_script.specs.Taking.{IsTakenIn}
use Rattle.desk_script.proofs.stream.answer_all.Given as goal

abbrev pub invariant-reads : goal.invariant-reads
invariant-reads g l = record {
  kept : length l.line.items ≤ max_line + 2;
  stays : Stays (g.F.Files.shelf l.fn.files) (g.F.Files.shelf l.files);
  sites : KeepsSites l.fn.world l.world;
  taken : IsTakenIn l.counter (g.R.Read.remaining l.fn.reader) (g.R.Read.remaining l.reader);
  carries : Carries (desk l.fn.world (g.F.Files.shelf l.fn.files)) (desk l.world (g.F.Files.shelf l.files)) (g.R.Read.remaining l.fn.reader) (g.R.Read.remaining l.reader) (g.W.Write.contents l.fn.writer) (g.W.Write.contents l.writer) l.line.items;
}
