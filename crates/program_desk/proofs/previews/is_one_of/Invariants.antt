use Rattle.std.proofs.Common.{◌≡◌, drop}
use Rattle.program_desk.specs.Previews.{is_one_of}
use Rattle.program_desk.proofs.previews.is_one_of.Given as goal

abbrev pub invariant-loop-name : goal.invariant-loop-name
invariant-loop-name l = is_one_of (drop l.name-index l.names) l.target ≡ is_one_of l.names l.target
