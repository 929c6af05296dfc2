use Rattle.std.proofs.Common.{◌≡◌, ◌<◌, ◌≤◌, ◌+◌, ◌*◌, ◌^◌, ◌++◌, length}
use Rattle.list_pages.specs.Pages.{joined, IsHalfFull, IsClosed}
use Rattle.list_pages.proofs.pages.fill.Given as goal

abbrev pub invariant-loop-rest : goal.invariant-loop-rest
invariant-loop-rest g l = record {
  all : joined l.pages.pages ++ l.rest ≡ l.initial.rest;
  half : IsHalfFull l.pages.pages;
  closed : 0 < length l.rest → IsClosed l.pages.pages;
  few : length l.pages.pages + l.pages.free ≤ 2 ^ 41;
  count : 0 < length l.rest → 256 * length l.pages.pages ≤ length (joined l.pages.pages);
}

abbrev pub decreases-loop-rest : goal.decreases-loop-rest
decreases-loop-rest g l = length l.rest
