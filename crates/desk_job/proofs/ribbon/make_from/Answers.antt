use Rattle.desk_job.specs.Answer.{IsMade, by_key, set_copy}
use Rattle.desk_job.specs.Reading.{CastsCopy}
use Rattle.desk_job.proofs.Comes.{set_comes, job_comes, each_ok}
use Rattle.desk_job.proofs.ribbon.make_from.Goals as goal

pub returns-in-Ok-new-clause-cast : goal.returns-in-Ok-new-clause-cast
returns-in-Ok-new-clause-cast g c =
    each_ok (λ bytes. IsMade bytes.items (set_copy c.in-Ok-new.terms c.args.copy.now))
    (λ bytes. CastsCopy c.args.copy.now (by_key c.args.settings.now) c.args.case.now c.args.wedge.now bytes.items) c.set_copy.result
    (λ bytes made. job_comes c.args.copy.now (by_key c.args.settings.now) c.args.case.now c.args.wedge.now c.in-Ok.values c.in-Ok-new.terms bytes.items
    c.in-Ok.ensures c.in-Ok-new.ensures.ok
    (set_comes c.in-Ok-new.terms c.args.copy.now bytes.items c.in-Ok-new.ensures.usable c.requires.copy made))
    c.set_copy.ensures.ok
