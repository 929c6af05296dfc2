use Rattle.std.proofs.Common.{List, ℕ, inr, subst, sym}
use Rattle.std.specs.Prelude.{Option}
use Rattle.std.specs.Borrow.{Bor}
use Rattle.feed_files.specs.Outputs.{destination}
use Rattle.view_ribbon.specs.Drawing.{IsUndrawn}
use Rattle.program_desk.specs.Explained.{ReportsMore}
use Rattle.program_desk.specs.Readings.{AreHolesAbsent}
use Rattle.program_desk.proofs.readings.drawn.Goals as goal

pub returns-in-Err-clause-absent : goal.returns-in-Err-clause-absent
returns-in-Err-clause-absent g c one =
    subst (λ (picture : Option (Bor (List ℕ))). AreHolesAbsent c.args.asked.now picture (g.F.Files.shelf c.args.files.now) (g.F.Files.shelf c.draw_ribbon.new.files) c.args.told.is_whole c.reported_more-told.result.is_whole (g.E.Write.contents c.args.faults.now) (g.E.Write.contents c.reported_more-told.new.faults)) (sym c.in-Some.is)
    (inr (c.in-Err.fault, subst (λ lines. IsUndrawn c.args.asked.now.from lines (destination c.in-Some.name.now c.args.asked.now.force) (g.F.Files.shelf c.args.files.now) (g.F.Files.shelf c.draw_ribbon.new.files) c.in-Err.fault) c.lines_of-lines.ensures c.in-Err.ensures.err, subst (λ cause. ReportsMore cause c.args.told.is_whole c.reported_more-told.result.is_whole (g.E.Write.contents c.args.faults.now) (g.E.Write.contents c.reported_more-told.new.faults)) c.reading_cause-cause.ensures c.reported_more-told.ensures))
