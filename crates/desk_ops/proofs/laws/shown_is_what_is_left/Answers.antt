use Rattle.std.proofs.Common.{refl}
use Rattle.desk_ops.specs.Shown.{shown}
use Rattle.desk_ops.proofs.Deletes.{delete_live, deleted_live, live_deleted}
use Rattle.desk_ops.proofs.laws.shown_is_what_is_left.Goals as goal

pub returns : goal.returns
unfolding shown
returns c = record {
  left = λ h. refl;
  deleted = λ h l x m. (deleted_live h x m, live_deleted h x);
  clear_is_live = λ h l x m s. (delete_live h x m s, λ k. k.0);
}
