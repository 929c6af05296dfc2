use Rattle.std.proofs.Common.{List, ℕ, ap, refl, subst, sym}
use Rattle.std.specs.Prelude.{Option}
use Rattle.std.specs.Borrow.{Bor}
use Rattle.std.specs.Option.{option_copied}
use Rattle.feed_files.specs.Outputs.{destination}
use Rattle.view_pages.specs.Documenting.{IsDocumented, IsUndocumented}
use Rattle.program_desk.specs.Depicting.{IsDocumentAbsent, IsDocumentThere}
use Rattle.program_desk.specs.Explained.{ReportsMore}
use Rattle.program_desk.proofs.depicting.documented.Goals as goal

pub returns-in-Ok-clause-there : goal.returns-in-Ok-clause-there
returns-in-Ok-clause-there g c zero = (
  subst (λ (document : Option (List ℕ)). IsDocumentThere c.args.asked.now c.args.trial.now document (g.F.Files.shelf c.args.files.now) (g.F.Files.shelf c.document_job.new.files)) (sym (ap option_copied c.in-Some.is))
      (subst (λ height. IsDocumented c.args.asked.now.job c.args.trial.now height (destination c.in-Some.name.now c.args.asked.now.drawings.force) (g.F.Files.shelf c.args.files.now) (g.F.Files.shelf c.document_job.new.files)) c.height_of-height.ensures c.in-Ok.ensures.ok),
  (refl, refl),
)

pub returns-in-Err-clause-absent : goal.returns-in-Err-clause-absent
returns-in-Err-clause-absent g c one =
    subst (λ (document : Option (Bor (List ℕ))). IsDocumentAbsent c.args.asked.now c.args.trial.now document (g.F.Files.shelf c.args.files.now) (g.F.Files.shelf c.document_job.new.files) c.args.told.is_whole c.reported_more-said.result.is_whole (g.E.Write.contents c.args.faults.now) (g.E.Write.contents c.reported_more-said.new.faults)) (sym c.in-Some.is)
    (c.in-Err.fault, subst (λ height. IsUndocumented c.args.asked.now.job c.args.trial.now height (destination c.in-Some.name.now c.args.asked.now.drawings.force) (g.F.Files.shelf c.args.files.now) (g.F.Files.shelf c.document_job.new.files) c.in-Err.fault) c.height_of-height.ensures c.in-Err.ensures.err, subst (λ cause. ReportsMore cause c.args.told.is_whole c.reported_more-said.result.is_whole (g.E.Write.contents c.args.faults.now) (g.E.Write.contents c.reported_more-said.new.faults)) c.proof_cause-cause.ensures c.reported_more-said.ensures)
