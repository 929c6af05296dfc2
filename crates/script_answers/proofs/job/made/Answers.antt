use Rattle.std.proofs.Common.{subst, sym}
use Rattle.std.specs.Prelude.{IfOk}
use Rattle.desk_ops.specs.Settings.{setting_of}
use Rattle.desk_ops.specs.Shown.{copy_of}
use Rattle.script_answers.specs.declared.job.Wanted.{Wanted}
use Rattle.script_answers.specs.Job.{ReportsJob, job_of}
use Rattle.script_answers.specs.Reply.{reply_values}
use Rattle.script_answers.proofs.Casts.{castable, of_job}
use Rattle.script_answers.proofs.job.made.Goals as goal

pub cast_bytes-requires : goal.cast_bytes-requires
cast_bytes-requires g c =
    let set = c.args.replica.now.ops in
    castable (copy_of set) (setting_of set) c.args.case.now c.args.wedge.now c.in-Ok.bytes.items c.deref.result.now c.deref.ensures.value c.in-Ok.ensures.cast

pub returns-in-Lines : goal.returns-in-Lines
returns-in-Lines g c =
    subst (λ (w : Wanted). IfOk c.cast_bytes.result (λ a. ReportsJob w c.args.case.now c.args.wedge.now (job_of c.args.replica.now.ops c.args.case.now c.args.wedge.now) (reply_values a))) (sym c.in-Lines.is)
    (of_job c.args.case.now c.args.wedge.now c.in-Ok.bytes.items c.deref.result.now (job_of c.args.replica.now.ops c.args.case.now c.args.wedge.now) c.cast_bytes.result reply_values c.deref.ensures.value c.in-Ok.ensures.ok c.cast_bytes.ensures)
