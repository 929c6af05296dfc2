use Rattle.std.proofs.Common.{List, ℕ, subst, sym}
use Rattle.std.specs.Prelude.{Option}
use Rattle.std.specs.Borrow.{Bor}
use Rattle.program_desk.specs.Depicting.{IsPictureAbsent}
use Rattle.program_desk.specs.Explained.{ReportsMore}
use Rattle.program_desk.proofs.depicting.pictured.Goals as goal

pub returns-in-Err-clause-absent : goal.returns-in-Err-clause-absent
returns-in-Err-clause-absent g c one =
    subst (λ (picture : Option (Bor (List ℕ))). IsPictureAbsent c.args.asked.now c.args.trial.now picture (g.F.Files.shelf c.args.files.now) (g.F.Files.shelf c.picture_by.new.files) c.args.told.is_whole c.reported_more-told.result.is_whole (g.E.Write.contents c.args.faults.now) (g.E.Write.contents c.reported_more-told.new.faults)) (sym c.in-Some.is)
    (c.in-Err.fault, c.in-Err.ensures.err, subst (λ cause. ReportsMore cause c.args.told.is_whole c.reported_more-told.result.is_whole (g.E.Write.contents c.args.faults.now) (g.E.Write.contents c.reported_more-told.new.faults)) c.proof_cause-cause.ensures c.reported_more-told.ensures)
