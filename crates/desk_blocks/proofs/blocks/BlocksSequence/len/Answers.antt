use Rattle.std.proofs.Common.{rules}
use Rattle.desk_blocks.proofs.blocks.BlocksSequence.len.Goals as goal

pub returns-clause-length : goal.returns-clause-length
returns-clause-length g c = search rules steps 300000
