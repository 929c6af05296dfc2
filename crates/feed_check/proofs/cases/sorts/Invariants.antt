use Rattle.std.proofs.Common.{◌≡◌, ◌≤◌, ◌<◌, take}
use Rattle.desk_case.specs.Case.{IsCase}
use Rattle.feed_check.specs.Sorts.{sorts}
use Rattle.feed_check.proofs.cases.sorts.Given as goal

abbrev pub invariant-loop-place : goal.invariant-loop-place
invariant-loop-place l = record {
  counted : l.count ≡ sorts (take l.place (l.case).grid);
  small : l.count ≤ l.place;
  lawful : 0 < l.place → IsCase l.case;
}
