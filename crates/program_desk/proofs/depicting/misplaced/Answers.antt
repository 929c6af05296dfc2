use Rattle.std.proofs.Common.{inl, subst}
use Rattle.program_desk.specs.Depicting.{IsOrNone, PictureTakes}
use Rattle.program_desk.proofs.Placing.{or_document}
use Rattle.program_desk.proofs.depicting.misplaced.Goals as goal

pub returns-in-Some : goal.returns-in-Some
returns-in-Some c = inl (subst (IsOrNone (PictureTakes c.args.asked.now)) c.in-Some.is c.picture_taking.ensures)

pub returns-in-None : goal.returns-in-None
returns-in-None c = or_document c.args.asked.now c.document_taking.result (subst (IsOrNone (PictureTakes c.args.asked.now)) c.in-None.is c.picture_taking.ensures) c.document_taking.ensures
