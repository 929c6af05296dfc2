use Rattle.std.proofs.Common.{◌≡◌}
use Rattle.desk_caster.specs.declared.RibbonFault.TheVariants as fault
use Rattle.script_answers.proofs.Casts.{no_fault}
use Rattle.script_answers.proofs.job.rows_in.Goals as goal

pub unreachable-requires : goal.unreachable-requires
unreachable-requires g c =
    no_fault c.args.bytes.now c.in-Err-Magic.field-0
    (λ e. let k : c.in-Err-Magic.field-0 ≡ fault.Magic = c.in-Err-Magic.field-0-is in let f : c.in-Err-Magic.field-0 ≡ fault.NoMemory = e in cc) c.requires c.in-Err-Magic.ensures.fault

pub unreachable-requires-in-Err-Count : goal.unreachable-requires-in-Err-Count
unreachable-requires-in-Err-Count g c =
    no_fault c.args.bytes.now c.in-Err-Count.field-0
    (λ e. let k : c.in-Err-Count.field-0 ≡ fault.Count = c.in-Err-Count.field-0-is in let f : c.in-Err-Count.field-0 ≡ fault.NoMemory = e in cc) c.requires c.in-Err-Count.ensures.fault

pub unreachable-requires-in-Err-Row : goal.unreachable-requires-in-Err-Row
unreachable-requires-in-Err-Row g c =
    no_fault c.args.bytes.now c.in-Err-Row.field-0
    (λ e. let k : c.in-Err-Row.field-0 ≡ fault.Row c.in-Err-Row.field-0-0 c.in-Err-Row.field-0-1 = c.in-Err-Row.field-0-is in let f : c.in-Err-Row.field-0 ≡ fault.NoMemory = e in cc) c.requires c.in-Err-Row.ensures.fault
