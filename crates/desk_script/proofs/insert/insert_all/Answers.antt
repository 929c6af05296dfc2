use Rattle.std.proofs.Common.{◌+◌, ◌∙◌, ap, drop, subst}
use Rattle.std.specs.Prelude.{Some}
use Rattle.desk_ops.specs.declared.op.Stamp.{Stamp}
use Rattle.desk_ops.specs.declared.op.Style.TheVariants.{Roman}
use Rattle.script_answers.specs.NotDone.{reply_of}
use Rattle.desk_script.specs.Insert.{Inserts, after}
use Rattle.desk_script.proofs.Inserting.{goes_on, stops_at}
use Rattle.desk_script.proofs.insert.insert_all.Goals as goal

pub returns-in-Err : goal.returns-in-Err
returns-in-Err g c =
    c.loop-symbol.invariant.goes_on (reply_of c.after.result) c.step.new.self
    (stops_at c.loop-symbol.world c.step.new.self c.args.site c.args.place c.loop-symbol.count c.loop-symbol.stamps c.args.copy.now c.loop-symbol.symbol-index (record { style = Roman; ch = 0 }) c.in-Err.why (reply_of c.after.result)
    c.loop-symbol-test.true c.in-Err.ensures.steps (c.after.ensures ∙ ap (after c.loop-symbol.count) c.from.ensures))

pub loop-symbol-preserved : goal.loop-symbol-preserved
loop-symbol-preserved g c = record {
  counted = ap (λ n. n + 1) c.loop-symbol.invariant.counted;
  goes_on = λ r new rest. c.loop-symbol.invariant.goes_on r new
      (goes_on c.loop-symbol.world c.step.new.self new c.args.site c.args.place c.loop-symbol.count c.loop-symbol.stamps c.args.copy.now c.loop-symbol.symbol-index (record { style = Roman; ch = 0 }) c.in-Ok-Made.op r
      c.loop-symbol-test.true (rw c.in-Ok-Made.field-0-is at c.in-Ok-Made.ensures.steps)
      (subst (λ (sp : Stamp × Stamp). Inserts c.step.new.self c.args.site c.args.place (drop (c.loop-symbol.symbol-index + 1) c.args.copy.now) (c.loop-symbol.count + 1) (Some sp) r new) c.span.ensures rest));
}
