use Rattle.std.proofs.Common.{◌≤◌, ◌+◌, ℕ, List, length, ◌∙◌, ap, subst, sym}
use Rattle.std.proofs.lemmas.Result.{IfErr-at_err, err_from_is_err_and}
use Rattle.desk_ops.specs.declared.op.Op.{Op}
use Rattle.desk_ops.specs.declared.op.Symbol.{Symbol}
use Rattle.desk_ops.specs.Shown.{copy_of}
use Rattle.text_copy.specs.Changes.{AreSparing, all_changed}
use Rattle.text_copy.specs.declared.making.Change.{Change}
use Rattle.feed_edit.specs.Fault.{refusal_of}
use Rattle.feed_edit.specs.Editing.{AreMade, IsRefusedAmong, deletes_of, inserts_of}
use Rattle.feed_files.proofs.Behind.{err_behind, ok_behind}
use Rattle.feed_edit.proofs.Changing.{few_made, none_made, placed, revised, sparing_made, valueless}
use Rattle.feed_edit.proofs.editing.revise.Goals as goal

pub map_err-requires : goal.map_err-requires
map_err-requires g c = λ why is.
    let makes = ap (all_changed c.in_ok-made.made.items) (sym (c.deref.ensures.value ∙ c.in_ok-copy.ensures.copy)) ∙ c.in_ok-made.ensures.made in
    let among = IfErr-at_err (λ why. IsRefusedAmong c.args.replica.now.site c.args.replica.now.ops c.put_edits.new.replica.ops c.deref-2.result.now why) is c.put_edits.ensures.refused in
    let refused = subst (λ (made : List Change). IsRefusedAmong c.args.replica.now.site c.args.replica.now.ops c.put_edits.new.replica.ops made why) c.deref-2.ensures.value among in
    placed c.args.replica.now.site c.args.replica.now.ops c.put_edits.new.replica.ops c.args.text.now c.in_ok-made.made.items why makes refused

pub returns-in_err-map_err-clause-value : goal.returns-in_err-map_err-clause-value
returns-in_err-map_err-clause-value g c = λ lawful.
    let reported = err_behind (λ why. IsRefusedAmong c.args.replica.now.site c.args.replica.now.ops c.put_edits.new.replica.ops c.deref-2.result.now why) _ c.put_edits.result c.map_err.result c.in_err-map_err.field-0.0 c.map_err.ensures.cases c.in_err-map_err.was c.put_edits.ensures.refused in
    let refused = subst (λ (made : List Change). IsRefusedAmong c.args.replica.now.site c.args.replica.now.ops c.put_edits.new.replica.ops made reported.0) c.deref-2.ensures.value reported.1 in
    let p = err_from_is_err_and c.from_residual-in_err-map_err.result c.from_residual-in_err-map_err.ensures.1 in
    rw p.1 (rw p.2 (λ value. valueless c.args.replica.now.site c.args.replica.now.ops c.put_edits.new.replica.ops c.args.text.now c.in_ok-made.made.items reported.0 lawful c.in_ok-made.ensures.symbols refused (sym reported.2 ∙ ap refusal_of value)))

pub returns-clause-few : goal.returns-clause-few
returns-clause-few g c =
    let few = subst (λ (n : ℕ). length c.in_ok-made.made.items ≤ n + length c.args.text.now) (ap length (c.deref.ensures.value ∙ c.in_ok-copy.ensures.copy)) c.in_ok-made.ensures.few in
    few_made c.in_ok-made.made.items c.tally_of.result.inserted c.tally_of.result.deleted _ (c.tally_of.ensures.inserted ∙ ap inserts_of c.deref-3.ensures.value) (c.tally_of.ensures.deleted ∙ ap deletes_of c.deref-3.ensures.value) few

pub returns-clause-sparing : goal.returns-clause-sparing
returns-clause-sparing g c =
    let sparing = subst (λ (copy : List Symbol). AreSparing copy c.args.text.now c.in_ok-made.made.items) (c.deref.ensures.value ∙ c.in_ok-copy.ensures.copy) c.in_ok-made.ensures.sparing in
    sparing_made (copy_of c.args.replica.now.ops) c.args.text.now c.in_ok-made.made.items c.tally_of.result.inserted c.tally_of.result.deleted (c.tally_of.ensures.inserted ∙ ap inserts_of c.deref-3.ensures.value) (c.tally_of.ensures.deleted ∙ ap deletes_of c.deref-3.ensures.value) sparing

pub returns-clause-ok : goal.returns-clause-ok
returns-clause-ok g c =
    let makes = ap (all_changed c.in_ok-made.made.items) (sym (c.deref.ensures.value ∙ c.in_ok-copy.ensures.copy)) ∙ c.in_ok-made.ensures.made in
    let given = ok_behind (λ _. (ops : List Op) × AreMade c.args.replica.now.site c.args.replica.now.ops c.put_edits.new.replica.ops c.deref-2.result.now ops) _ c.put_edits.result c.map_err.result c.in_ok-map_err.field-0 c.map_err.ensures.cases c.map_err.ensures.variant c.in_ok-map_err.was c.put_edits.ensures.made in
    let all = subst (λ (made : List Change). AreMade c.args.replica.now.site c.args.replica.now.ops c.put_edits.new.replica.ops made given.0) c.deref-2.ensures.value given.1 in
    revised c.args.replica.now.site c.args.replica.now.ops c.put_edits.new.replica.ops c.args.text.now c.in_ok-made.made.items given.0 c.tally_of.result.inserted c.tally_of.result.deleted makes all
    (c.tally_of.ensures.inserted ∙ ap inserts_of c.deref-3.ensures.value) (c.tally_of.ensures.deleted ∙ ap deletes_of c.deref-3.ensures.value)

pub returns-clause-none : goal.returns-clause-none
returns-clause-none g c = λ same.
    let given = ok_behind (λ _. (ops : List Op) × AreMade c.args.replica.now.site c.args.replica.now.ops c.put_edits.new.replica.ops c.deref-2.result.now ops) _ c.put_edits.result c.map_err.result c.in_ok-map_err.field-0 c.map_err.ensures.cases c.map_err.ensures.variant c.in_ok-map_err.was c.put_edits.ensures.made in
    let none = c.deref-2.ensures.value ∙ c.in_ok-made.ensures.none (c.deref.ensures.value ∙ c.in_ok-copy.ensures.copy ∙ same) in
    none_made c.args.replica.now.site c.args.replica.now.ops c.put_edits.new.replica.ops c.deref-2.result.now given.0 none given.1
