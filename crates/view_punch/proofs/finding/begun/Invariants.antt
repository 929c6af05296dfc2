use Rattle.std.proofs.Common.{◌≡◌, ◌+◌, drop}
use Rattle.view_punch.specs.Finding.{begun}
use Rattle.view_punch.proofs.finding.begun.Given as goal

abbrev pub invariant-loop-begin : goal.invariant-loop-begin
invariant-loop-begin l = record {
  count : l.count ≡ l.begin-index;
  rest : l.count + begun l.place (drop l.begin-index l.begins) ≡ begun l.place l.begins;
}
