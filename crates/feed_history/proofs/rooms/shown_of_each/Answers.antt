use Rattle.std.proofs.Common.{◌∙◌, subst}
use Rattle.std.specs.Prelude.{IfOk}
use Rattle.feed_history.specs.RoomsTables.{AreTimes}
use Rattle.feed_history.proofs.RoomsLines.{shown_sites}
use Rattle.feed_history.proofs.rooms.shown_of_each.Goals as goal

pub returns : goal.returns
returns g c = subst (λ sites. IfOk c.times_of_each.result (λ v. AreTimes sites v.items)) (c.deref.ensures.value ∙ c.in_ok-sites.ensures ∙ shown_sites c.args.replica.now.ops _ c.sequence.ensures) c.times_of_each.ensures
