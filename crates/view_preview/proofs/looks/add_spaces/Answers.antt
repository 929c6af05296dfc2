use Rattle.std.proofs.Common.{length}
use Rattle.view_preview.specs.Looks.{spaces_at}
use Rattle.view_preview.proofs.Steps.{found_there}
use Rattle.view_preview.proofs.looks.add_spaces.Goals as goal

pub loop-place-preserved : goal.loop-place-preserved
loop-place-preserved g c =
    found_there (spaces_at c.args.copy.now) (length c.args.copy.now) c.loop-place.place _ _ _ c.loop-place-test.true c.loop-place.invariant c.in_ok-add_spaces_at.ensures
