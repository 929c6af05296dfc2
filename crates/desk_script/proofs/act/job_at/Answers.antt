use Rattle.std.proofs.Common.{inl}
use Rattle.std.proofs.lemmas.Result.{err_from_is_err_and}
use Rattle.script_answers.specs.Reply.{reply_values}
use Rattle.desk_script.proofs.Jobs.{refused, replied}
use Rattle.desk_script.proofs.act.job_at.Goals as goal

pub returns-in_err-job_by_files-clause-made : goal.returns-in_err-job_by_files-clause-made
returns-in_err-job_by_files-clause-made g c =
    let p = err_from_is_err_and c.from_residual-in_err-job_by_files.result c.from_residual-in_err-job_by_files.ensures.1 in
    rw p.1 (rw p.2 (refused c.args.wanted c.args.world.now (g.F.Files.shelf c.args.files.now) (g.F.Files.shelf c.job_by_files.new.files) c.args.job.site c.args.job.case.now c.args.job.wedge.now c.in_ok-replica.replica.now.ops c.in_ok-replica.ensures.there
    c.in_err-job_by_files.field-0.0 c.in_err-job_by_files.ensures.made c.in_err-job_by_files.ensures.memory))

pub returns-clause-made : goal.returns-clause-made
returns-clause-made g c =
    inl (replied c.args.wanted c.args.world.now (g.F.Files.shelf c.args.files.now) (g.F.Files.shelf c.job_by_files.new.files) c.args.job.site c.args.job.case.now c.args.job.wedge.now c.in_ok-replica.replica.now.ops c.in_ok-replica.ensures.there
    (reply_values c.in_ok-job_by_files.field-0) c.in_ok-job_by_files.ensures.made)
