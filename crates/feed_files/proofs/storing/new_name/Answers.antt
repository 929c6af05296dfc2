use Rattle.std.proofs.Common.{rules}
use Rattle.feed_files.proofs.storing.new_name.Goals as goal

pub returns : goal.returns
returns g c = search rules steps 2000000
