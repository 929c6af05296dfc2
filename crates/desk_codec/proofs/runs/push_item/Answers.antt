use Rattle.std.proofs.Common.{◌<◌, ◌++◌, length, arith, ap, sym, ◌∙◌, refl}
use Rattle.std.proofs.lemmas.Bool.Decides.{nat_tests}
use Rattle.std.specs.List.{flat_map}
use Rattle.std.proofs.lemmas.List.{take_all}
use Rattle.desk_ops.specs.declared.op.Op.{Op}
use Rattle.desk_codec.specs.Items.{symbol_spelling, item_spelling}
use Rattle.desk_codec.specs.Runs.{item_of}
use Rattle.desk_codec.proofs.RunSpellings.{run-pushed}
use Rattle.desk_codec.proofs.runs.push_item.Goals as goal

pub returns-after-loop-symbol : goal.returns-after-loop-symbol
returns-after-loop-symbol g c =
    let more : 1 < length c.args.symbols.now = grind (arith, nat_tests) in
    run-pushed c.args.out.now.items c.extend_from_slice.new.self.items c.push_stamp.new.out.items c.push_stamp-in-Insert.new.out.items c.extend_from_slice-in-Insert.new.self.items c.loop-symbol.out.items _
    c.in-Insert.stamp c.in-Insert.parent c.in-Insert.symbol c.args.symbols.now _ more
    c.in_ok-extend_from_slice-in-Insert.ensures.items c.in_ok-push_stamp-in-Insert.ensures c.in_ok-push_stamp-in-Insert-2.ensures c.in_ok-extend_from_slice-in-Insert-2.ensures.items c.loop-symbol.invariant
    refl (ap (flat_map symbol_spelling) (take_all c.loop-symbol.symbol-index c.args.symbols.now c.loop-symbol-test.false))
    ∙ ap (λ (o : Op). c.args.out.now.items ++ item_spelling (item_of o c.args.symbols.now)) (sym c.in-Insert.is)
