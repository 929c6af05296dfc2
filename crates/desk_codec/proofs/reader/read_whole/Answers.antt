use Rattle.std.proofs.Common.{List, Option, inr, ◌∙◌, ap, subst, sym, Err}
use Rattle.desk_ops.specs.declared.op.Op.{Op}
use Rattle.desk_codec.proofs.ReadLaws.{none_given, more_given}
use Rattle.desk_codec.specs.ItemReading.{GivesItems}
use Rattle.desk_codec.specs.Fault.{IsWrong}
use Rattle.desk_codec.specs.declared.fault.FeedWhy.{FeedWhy}
use Rattle.desk_codec.proofs.reader.read_whole.Goals as goal

pub loop-form-init : goal.loop-form-init
loop-form-init g c = none_given c.args.form c.args.bytes.now c.args.ops.now

pub loop-form-preserved : goal.loop-form-preserved
loop-form-preserved g c = more_given c.args.form c.args.bytes.now c.loop-form.rest.now c.in-Ok.after.now c.args.ops.now c.loop-form.ops c.next_item.new.ops c.loop-form.invariant c.in-Ok.ensures.item

pub returns-in-Cut-clause-read : goal.returns-in-Cut-clause-read
returns-in-Cut-clause-read g c =
    let same = c.next_item.ensures.cut (c.in-Err.is ∙ ap (λ (w : FeedWhy). Err w) c.in-Cut.is) in
    let cut = subst (λ (w : FeedWhy). IsWrong c.args.form c.loop-form.rest.now w) c.in-Cut.is c.in-Err.ensures.refused in
    (subst (λ (o : Option (List Op)). GivesItems c.args.form c.args.bytes.now c.args.ops.now o c.loop-form.rest.now) (sym same) c.loop-form.invariant, inr cut)
