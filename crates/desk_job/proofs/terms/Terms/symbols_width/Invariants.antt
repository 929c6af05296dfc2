use Rattle.std.proofs.Common.{◌≡◌, ◌*◌, ◌≤◌, take}
use Rattle.desk_lines.specs.Groups.{widest_matrix}
use Rattle.desk_job.specs.Job.{word_width}
use Rattle.desk_job.proofs.terms.Terms.symbols_width.Given as goal

abbrev pub invariant-loop-symbol : goal.invariant-loop-symbol
invariant-loop-symbol l = record {
  sum : l.total ≡ word_width l.self (take l.symbol-index l.symbols);
  small : l.total ≤ l.symbol-index * widest_matrix;
}
