use Rattle.std.proofs.Common.{true}
use Rattle.desk_job.proofs.LineSizes.{fills_number}
use Rattle.desk_job.proofs.setting.fills.Goals as goal

pub returns-then-filled-clause-number : goal.returns-then-filled-clause-number
returns-then-filled-clause-number c = rw (c.fill.ensures, c.fill_widths.ensures.value) (fills_number c.args.terms.now c.args.rest true)
