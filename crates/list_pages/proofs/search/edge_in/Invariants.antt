use Rattle.std.proofs.Common.{◌≡◌, ◌≤◌, ◌<◌, ◌-◌, true, false, length, get_or}
use Rattle.list_pages.proofs.search.edge_in.Given as goal

abbrev pub invariant-loop-probe : goal.invariant-loop-probe
invariant-loop-probe g l = record {
  low : l.probe.low ≤ l.probe.high;
  high : l.probe.high ≤ length l.items;
  below : (d : _) → 0 < l.probe.low → g.P.Pick.picked l.pick (get_or l.items (l.probe.low - 1) d) ≡ true;
  stops : (d : _) → l.probe.high < length l.items → g.P.Pick.picked l.pick (get_or l.items l.probe.high d) ≡ false;
}

abbrev pub decreases-loop-probe : goal.decreases-loop-probe
decreases-loop-probe g l = l.probe.high - l.probe.low
