use Rattle.program_desk.proofs.Previewing.{shown_of, unshown_of}
use Rattle.program_desk.proofs.previews.shown.Goals as goal

pub returns-clause-ok : goal.returns-clause-ok
returns-clause-ok g c = shown_of _ c.proof_job.result c.proof_job.ensures.stays c.proof_job.ensures.ok

pub returns-clause-err : goal.returns-clause-err
returns-clause-err g c = unshown_of _ c.proof_job.result c.proof_job.ensures.stays c.proof_job.ensures.err
