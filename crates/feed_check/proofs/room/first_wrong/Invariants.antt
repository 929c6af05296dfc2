use Rattle.std.proofs.Common.{◌≡◌, ◌<◌, ◌≤◌, ℕ, None, length}
use Rattle.feed_check.specs.Room.{wrong_at}
use Rattle.feed_check.proofs.room.first_wrong.Given as goal

abbrev pub invariant-loop-place : goal.invariant-loop-place
invariant-loop-place l = (before : ℕ) → before < l.place → wrong_at l.bytes before ≡ None
