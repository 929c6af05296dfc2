use Rattle.std.proofs.Common.{rules}
use Rattle.list_pages.proofs.list.Pages.name_at.Goals as goal

pub locate-p-requires-clause-within : goal.locate-p-requires-clause-within
locate-p-requires-clause-within g c = search rules steps 3000000
