-- Sorts that stand in a copy.
use Rattle.std.proofs.Common.{List}
use Rattle.std.specs.Prelude.{All, slice_index_or}
use Rattle.std.proofs.lemmas.Option.{slice_get_within}
use Rattle.desk_ops.specs.declared.op.Symbol.{Symbol}
use Rattle.view_punch.specs.declared.sorts.Sort.{Sort}
use Rattle.view_punch.specs.Listing.{IsWithin}
use Rattle.view_punch.specs.Sorts.{AreSortsOf}

pub within : (copy : List Symbol) (sorts : List Sort) → AreSortsOf copy sorts → All (IsWithin copy) sorts
within copy sorts are k d below =
    let sort = slice_index_or sorts k d in
    slice_get_within copy sort.first sort.symbol (are.each k d below).first
