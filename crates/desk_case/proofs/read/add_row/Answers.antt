use Rattle.std.proofs.Common.{◌≡◌, ◌≢◌, ◌∙◌, ap, refl, ◌-◌, ◌++◌, ◌∷◌, [], Some, length, arith}
use Rattle.std.proofs.lemmas.Bool.Decides.{nat_tests}
use Rattle.toml.specs.View.{items_view}
use Rattle.desk_case.proofs.Rows.{short_row, text_read, row_read}
use Rattle.desk_case.proofs.read.add_row.Goals as goal

pub returns-then-len-columns : goal.returns-then-len-columns
returns-then-len-columns c =
    let other : length c.in-Some.items.now.items ≢ c.args.columns = grind (arith, nat_tests) in
    short_row c.args.columns c.in-Some.items.now.items _ c.args.matrices.now.items c.args.matrices.now.items c.in-Some.ensures other

pub loop-item-preserved : goal.loop-item-preserved
loop-item-preserved c =
    text_read c.deref-item-items.result.now c.loop-item.item-index c.args.matrices.now.items c.loop-item.matrices.items c.push.new.self.items
    c.item-item.result c.in-Some-as_str.text.now c.loop-item-test.true c.item-item.is c.in-Some-as_str.ensures
    (c.in_ok-push-in-Some-as_str.ensures.items ∙ ap (λ m. c.loop-item.matrices.items ++ m ∷ []) c.matrix.ensures) c.loop-item.invariant

pub returns : goal.returns
returns c =
    let array = ap (λ xs. Some (items_view xs)) c.deref-item-items.ensures.value ∙ c.in-Some.ensures in
    let long : length c.deref-item-items.result.now ≡ c.args.columns = grind (arith, nat_tests) in
    row_read c.args.columns c.deref-item-items.result.now c.loop-item.item-index _ c.args.matrices.now.items c.loop-item.matrices.items c.add_blanks.new.matrices.items (17 - c.args.columns)
    array long c.loop-item-test.false refl c.in_ok-add_blanks.ensures c.loop-item.invariant
