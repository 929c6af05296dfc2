use Rattle.std.proofs.Common.{rules}
use Rattle.list_pages.proofs.list.Pages.len.Goals as goal

pub returns : goal.returns
returns g c = search rules steps 300000
