use Rattle.std.proofs.Common.{◌∙◌, ap, inl, map, refl, string_bytes, subst}
use Rattle.feed_check.specs.Room.{IsRoom}
use Rattle.feed_check.specs.RoomOptions.{given}
use Rattle.program_desk.specs.Completed.{completed}
use Rattle.program_desk.specs.Told.{IsShown}
use Rattle.program_desk.proofs.rooms.filled_by.Goals as goal

pub returns-in-Ok-clause-ok : goal.returns-in-Ok-clause-ok
returns-in-Ok-clause-ok g c = (
  (c.in-Ok-Taken.options, subst (IsRoom c.args.bytes.now) c.in-Ok-Taken.field-0-is c.in-Ok-Taken.ensures, c.in-Ok.ensures ∙ ap (λ o. completed (map given o) (map string_bytes c.args.words.now)) c.deref.ensures.value),
  refl,
)

pub returns-in-Ok-Refused-clause-err : goal.returns-in-Ok-Refused-clause-err
returns-in-Ok-Refused-clause-err g c =
    let (shown, is, tells) = c.refused_room.ensures.told in
    (c.refused_room.ensures.status, inl (c.in-Ok-Refused.why, subst (IsRoom c.args.bytes.now) c.in-Ok-Refused.field-0-is c.in-Ok-Refused.ensures, shown, subst (λ w. IsShown w shown) c.deref-in-Ok-Refused.ensures is, tells))
