use Rattle.std.proofs.Common.{◌≡◌}
use Rattle.desk_blocks.proofs.blocks.renew_pages.Given as goal

abbrev pub invariant-loop-name : goal.invariant-loop-name
invariant-loop-name g l = (l.index.stamps ≡ l.initial.index.stamps) × (l.index.spare ≡ l.initial.index.spare)
