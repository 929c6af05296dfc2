use Rattle.std.proofs.Common.{ap₂, ◌∙◌}
use Rattle.std.proofs.lemmas.Bool.Decides.{same_from_decides}
use Rattle.std.proofs.lemmas.Slice.Eq.{slice_eq-Decides}
use Rattle.desk_ops.proofs.Symbols.{same_symbols}
use Rattle.view_preview.specs.Looks.{are_alike}
use Rattle.view_preview.proofs.Steps.{alike_decides}
use Rattle.view_preview.proofs.looks.is_again.Goals as goal

pub returns : goal.returns
returns c =
    same_from_decides c.eq.result (are_alike c.spelled.result.now c.spelled-2.result.now) (slice_eq-Decides same_symbols _ _ _ c.eq.ensures) (alike_decides c.spelled.result.now c.spelled-2.result.now)
    ∙ ap₂ are_alike c.spelled.ensures c.spelled-2.ensures
