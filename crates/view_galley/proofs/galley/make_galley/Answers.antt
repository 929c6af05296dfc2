use Rattle.std.proofs.Common.{◌≤◌, List, [], ◌∷◌, length, arith}
use Rattle.desk_ops.specs.declared.op.Symbol.{Symbol}
use Rattle.desk_case.specs.Case.{CaseValues}
use Rattle.desk_job.specs.Job.{lacking}
use Rattle.desk_job.specs.Answer.{by_key}
use Rattle.view_galley.proofs.OfJob.{job_is, stand_is}
use Rattle.view_galley.proofs.galley.make_galley.Goals as goal

pub returns-clause-job : goal.returns-clause-job
returns-clause-job g c =
    job_is c.args.copy.now (by_key c.args.settings.now) c.args.case.now c.args.wedge.now c.in_ok-values.values c.in_ok-terms.terms _ _ c.in_ok-values.ensures c.in_ok-terms.ensures.ok
    c.in_ok-terms.ensures.none c.in_ok-lacking.ensures.ok c.in_ok-lines.ensures.ok

pub returns-clause-stands : goal.returns-clause-stands
returns-clause-stands g c =
    stand_is c.args.copy.now c.args.case.now c.args.wedge.now c.in_ok-values.values c.in_ok-terms.terms _ c.in_ok-terms.ensures.ok c.in_ok-lines.ensures.ok c.requires.copy

-- where symbols are lacking there are symbols
some_symbols : (case : CaseValues) (copy : List Symbol) → 1 ≤ length (lacking case 0 copy) → 1 ≤ length copy
some_symbols case [] some = absurd (omega (arith, some))
some_symbols case (symbol ∷ copy) some = omega arith

pub returns-in_err-lacking-clause-memory : goal.returns-in_err-lacking-clause-memory
returns-in_err-lacking-clause-memory g c refused = some_symbols c.args.case.now c.args.copy.now c.in_err-lacking.ensures.memory
