use Rattle.std.proofs.Common.{◌∙◌, ap, inl, inr, refl, subst}
use Rattle.std.proofs.lemmas.Result.{err_from_is_err_and}
use Rattle.std.specs.Io.KnownBytes.{Appends}
use Rattle.desk_replica.specs.declared.settings.Settings.{Settings}
use Rattle.desk_job.specs.Answer.{IsRefused, by_key}
use Rattle.script_answers.specs.Job.{job_of}
use Rattle.view_preview.specs.declared.fault.PreviewFault.TheVariants as faults
use Rattle.view_proof.specs.Reasons.{missing, other_number}
use Rattle.view_punch.specs.Lines.{IsUnreported, job_line}
use Rattle.view_punch.specs.Making.{missing_of}
use Rattle.view_punch.proofs.Punches.{made_rows}
use Rattle.view_punch.proofs.making.ribbon_of.Goals as goal

pub returns-in_err-let_through-clause-err : goal.returns-in_err-let_through-clause-err
returns-in_err-let_through-clause-err g c =
    let p = err_from_is_err_and c.from_residual.result c.from_residual.ensures.1 in
    rw p.1 (rw p.2 (inl c.in_err-let_through.ensures.err))

pub returns-in-Ok-clause-ok : goal.returns-in-Ok-clause-ok
returns-in-Ok-clause-ok g c =
    let made = made_rows c.in-Ok.ribbon.items (job_of c.args.replica.now.ops c.args.means.now.case.now c.args.means.now.wedge.now) c.in-Ok.ensures.ok in
    (made.0, (c.in_ok-let_through.ensures.ok, made.1), made.2)

pub returns-in_ok-report_job-in-Err-Faults-clause-err : goal.returns-in_ok-report_job-in-Err-Faults-clause-err
returns-in_ok-report_job-in-Err-Faults-clause-err g c =
    let set = c.args.replica.now.ops in
    let case = c.args.means.now.case.now in
    let wedge = c.args.means.now.wedge.now in
    let found = c.in-Err-Faults.faults in
    let after = g.W.Write.contents c.report_job.new.writer in
    let refused = subst (λ r. IsRefused r (job_of set case wedge)) c.in-Err-Faults.field-0-is c.in-Err-Faults.ensures.err in
    let line = subst (λ (s : Settings). Appends (g.W.Write.contents c.let_through.new.writer) after (job_line (missing (by_key s)) found)) c.settings-settings.ensures c.in_ok-report_job-in-Err-Faults.ensures.ok in
    let reported = subst (λ before. Appends before after (job_line (missing_of set) found)) c.in_ok-let_through.ensures.silent line in
    let other = c.other_number.ensures ∙ ap (λ (s : Settings). other_number (by_key s) case wedge) c.settings-settings.ensures in
    inr (inl (c.in_ok-let_through.ensures.ok, found, refused, inl (ap faults.Faulty other, reported)))

pub returns-in_err-report_job-in-Err-Faults-clause-err : goal.returns-in_err-report_job-in-Err-Faults-clause-err
returns-in_err-report_job-in-Err-Faults-clause-err g c =
    let set = c.args.replica.now.ops in
    let after = g.W.Write.contents c.report_job.new.writer in
    let found = c.in-Err-Faults.faults in
    let fault = c.in_err-report_job-in-Err-Faults.field-0.0 in
    let refused = subst (λ r. IsRefused r (job_of set c.args.means.now.case.now c.args.means.now.wedge.now)) c.in-Err-Faults.field-0-is c.in-Err-Faults.ensures.err in
    let line = subst (λ (s : Settings). IsUnreported (job_line (missing (by_key s)) found) (g.W.Write.contents c.let_through.new.writer) after fault) c.settings-settings.ensures c.in_err-report_job-in-Err-Faults.ensures.err in
    let unreported = subst (λ before. IsUnreported (job_line (missing_of set) found) before after fault) c.in_ok-let_through.ensures.silent line in
    let p = err_from_is_err_and c.from_residual-in_err-report_job-in-Err-Faults.result c.from_residual-in_err-report_job-in-Err-Faults.ensures.1 in
    rw p.1 (inr (inl (c.in_ok-let_through.ensures.ok, found, refused, inr (fault, p.2, unreported))))

pub returns-in-Err-NoMemory-clause-err : goal.returns-in-Err-NoMemory-clause-err
returns-in-Err-NoMemory-clause-err g c = inr (inr (refl, c.in_ok-let_through.ensures.silent))
