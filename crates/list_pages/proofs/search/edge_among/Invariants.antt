use Rattle.std.proofs.Common.{◌≡◌, ◌≤◌, ◌<◌, ◌-◌, true, false, length, get_or}
use Rattle.list_pages.specs.Pages.{ends_in}
use Rattle.list_pages.proofs.search.edge_among.Given as goal

abbrev pub invariant-loop-probe : goal.invariant-loop-probe
invariant-loop-probe g l = record {
  low : l.probe.low ≤ l.probe.high;
  high : l.probe.high ≤ length l.pages.pages;
  below : (d : _) → 0 < l.probe.low → ends_in (g.P.Pick.picked l.pick) (get_or l.pages.pages (l.probe.low - 1) d) ≡ true;
  stops : (d : _) → l.probe.high < length l.pages.pages → ends_in (g.P.Pick.picked l.pick) (get_or l.pages.pages l.probe.high d) ≡ false;
}

abbrev pub decreases-loop-probe : goal.decreases-loop-probe
decreases-loop-probe g l = l.probe.high - l.probe.low
