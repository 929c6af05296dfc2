use Rattle.std.proofs.Common.{◌+◌, ◌≤◌, length, string_bytes}
use Rattle.feed_files.specs.Files.{Stays}
use Rattle.desk_script.specs.Lines.{lines}
use Rattle.desk_script.specs.Desk.{KeepsSites, desk}
use Rattle.desk_script.proofs.Reporting.{Reaches}
use Rattle.desk_script.proofs.sheet.report_lines.Given as goal

abbrev pub invariant-lines : goal.invariant-lines
invariant-lines g l = record {
  room : l.number + length l.rest ≤ length l.fn.input;
  stays : Stays (g.F.Files.shelf l.fn.files) (g.F.Files.shelf l.files);
  sites : KeepsSites l.fn.world l.world;
  reported : Reaches l.mode (desk l.fn.world (g.F.Files.shelf l.fn.files)) (desk l.world (g.F.Files.shelf l.files)) (string_bytes l.fn.reported) (string_bytes l.reported) (lines l.fn.input) (lines l.rest) l.number;
}

abbrev pub decreases-lines : goal.decreases-lines
decreases-lines g l = length l.rest
