use Rattle.std.proofs.Common.{◌≡◌, take}
use Rattle.desk_lines.specs.Groups.{AreWidths}
use Rattle.desk_job.specs.Job.{widths}
use Rattle.desk_job.specs.Setting.{words_at}
use Rattle.desk_job.proofs.making.word_widths.Given as goal

abbrev pub invariant-loop-word : goal.invariant-loop-word
invariant-loop-word g l = record {
  so_far : l.widths.items ≡ widths l.terms (words_at l.copy (take l.word-index l.words));
  each : AreWidths l.widths.items;
}
