use Rattle.std.proofs.Common.{◌++◌, List, ap, subst, ◌∙◌}
use Rattle.desk_ops.specs.declared.op.Symbol.{Symbol}
use Rattle.desk_ops.specs.Op.{IsLawful}
use Rattle.desk_codec.specs.Items.{item_spelling}
use Rattle.desk_codec.specs.Runs.{item_of}
use Rattle.desk_codec.proofs.RunSteps.{at-written, at-item}
use Rattle.desk_codec.proofs.runs.write_item.Goals as goal

pub push_item-requires-clause-lawful : goal.push_item-requires-clause-lawful
push_item-requires-clause-lawful g c = subst IsLawful (c.requires.there.is c.args.op) (c.requires.lawful c.args.at c.args.op c.requires.there.within)

pub returns-then-written-at-clause-written : goal.returns-then-written-at-clause-written
returns-then-written-at-clause-written g c = at-written c.args.ops.now c.args.written.now c.args.out.now.items c.args.at c.args.op c.requires.there c.requires.before c.if-written-at.true

pub returns-clause-written : goal.returns-clause-written
returns-clause-written g c =
    let symbols : List Symbol = c.take_item.new.symbols.items in
    at-item c.args.ops.now c.args.written.now c.take_item.new.written c.args.out.now.items c.push_item.new.out.items c.args.at c.args.op (item_of c.args.op symbols) c.requires.there c.requires.before c.if-written-at.false
    (c.in_ok-take_item.ensures.item c.args.op c.requires.there) (c.in_ok-take_item.ensures.marks c.args.op c.requires.there)
    (c.in_ok-push_item.ensures ∙ ap (λ (l : List Symbol). c.args.out.now.items ++ item_spelling (item_of c.args.op l)) c.as_slice.ensures.value)
