use Rattle.std.proofs.Common.{◌≡◌, ℕ, ◌+◌, ◌-◌, get_or, length}
use Rattle.feed_history.proofs.corrections.reach.Given as goal

abbrev pub invariant-loop-next : goal.invariant-loop-next
invariant-loop-next g l = (k : ℕ) → get_or l.next.items k 0 ≡ get_or l.fn.next.items k 0

abbrev pub decreases-loop-next : goal.decreases-loop-next
decreases-loop-next g l = l.site + 1 - length l.next.items
