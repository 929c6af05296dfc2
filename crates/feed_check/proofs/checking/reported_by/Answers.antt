use Rattle.std.proofs.Common.{◌≡◌, ◌∙◌, subst, sym, string_bytes}
use Rattle.feed_check.specs.Checking.{SaysNamed}
use Rattle.feed_check.specs.Room.{SaysRoomFile}
use Rattle.feed_check.proofs.checking.reported_by.Goals as goal

pub returns-then-is_room_file-clause-said : goal.returns-then-is_room_file-clause-said
unfolding SaysNamed
returns-then-is_room_file-clause-said g c =
    rw (sym c.is_room_file.ensures ∙ c.if-is_room_file.true)
    (subst (λ bytes. SaysRoomFile bytes (string_bytes c.in_ok-reported.reported.text) c.in_ok-reported.reported.well) c.deref.ensures.value c.in_ok-reported.ensures)
