use Rattle.std.proofs.Common.{◌≡◌, ◌+◌, ◌-◌, ◌∙◌, ◌==◌, Bool, true, List, [], ◌++◌, ℕ, length, length-append, ap, subst, sym, Err, arith}
use Rattle.std.proofs.lemmas.List.{nil_from_length}
use Rattle.std.proofs.lemmas.Bool.Decides.{nat_tests}
use Rattle.desk_codec.specs.Fault.{IsWrong}
use Rattle.desk_codec.specs.declared.fault.FeedWhy.{FeedWhy}
use Rattle.desk_codec.proofs.ReadLaws.{begun, item_shorter, all_read, all_stops, then_read, then_stops, cut_reads}
use Rattle.desk_codec.proofs.reader.read_items.Goals as goal

none_kept : (kept : List ℕ) (b : Bool) → b ≡ true → b ≡ (length kept == 0) → kept ≡ []
none_kept kept b is e =
    let none : length kept ≡ 0 = grind (arith, nat_tests) in
    nil_from_length kept none

pub overflow_sub-at : goal.overflow_sub-at
overflow_sub-at g c =
    let shorter = item_shorter c.args.form (c.args.kept.now.items ++ c.args.piece.now) c.in-Ok.after.now c.with_capacity-ops.result c.first_item.new.ops c.in-Ok.ensures.item in
    let len = length-append c.args.kept.now.items c.args.piece.now in
    let kept = c.len-len.ensures.value in
    omega (arith, shorter, len, kept)

pub read_rest-requires-in-Ok : goal.read_rest-requires-in-Ok
read_rest-requires-in-Ok g c =
    let shorter = item_shorter c.args.form (c.args.kept.now.items ++ c.args.piece.now) c.in-Ok.after.now c.with_capacity-ops.result c.first_item.new.ops c.in-Ok.ensures.item in
    let len = length-append c.args.kept.now.items c.args.piece.now in
    let kept = c.len-len.ensures.value in
    let few = c.requires.few in
    omega (arith, shorter, len, kept, few)

pub returns-then-is_empty-clause-read : goal.returns-then-is_empty-clause-read
returns-then-is_empty-clause-read g c =
    all_read (λ v. v.form) (λ v. v.ops) (λ v. v.rest.now) (λ v. v.is_behind) c.read_rest.result c.args.form c.args.kept.now.items c.args.piece.now c.with_capacity-ops.result (none_kept c.args.kept.now.items c.is_empty.result c.if-is_empty.true c.is_empty.ensures)
    (begun c.most_ops-most.result (c.args.kept.now.items ++ c.args.piece.now) c.with_capacity-ops.result (λ some. let long = c.most_ops-most.ensures some in let len = length-append c.args.kept.now.items c.args.piece.now in let kept = c.len.ensures.value in omega (arith, long, len, kept)) c.with_capacity-ops.ensures)
    c.read_rest.ensures.read

pub returns-then-is_empty-clause-fault : goal.returns-then-is_empty-clause-fault
returns-then-is_empty-clause-fault g c = all_stops c.read_rest.result c.args.form c.args.place c.args.kept.now.items c.args.piece.now (none_kept c.args.kept.now.items c.is_empty.result c.if-is_empty.true c.is_empty.ensures) c.read_rest.ensures.fault

pub returns-in-Ok-clause-read : goal.returns-in-Ok-clause-read
returns-in-Ok-clause-read g c =
    then_read (λ v. v.form) (λ v. v.ops) (λ v. v.rest.now) (λ v. v.is_behind) c.read_rest-in-Ok.result c.args.form c.args.kept.now.items (c.args.kept.now.items ++ c.args.piece.now) c.in-Ok.after.now c.with_capacity-ops.result c.first_item.new.ops
    (begun c.most_ops-most.result (c.args.kept.now.items ++ c.args.piece.now) c.with_capacity-ops.result (λ some. let long = c.most_ops-most.ensures some in let len = length-append c.args.kept.now.items c.args.piece.now in let kept = c.len.ensures.value in omega (arith, long, len, kept)) c.with_capacity-ops.ensures)
    c.in-Ok.ensures.item c.read_rest-in-Ok.ensures.read

pub returns-in-Ok-clause-fault : goal.returns-in-Ok-clause-fault
returns-in-Ok-clause-fault g c =
    let place : ℕ = c.args.place + (c.len-len.result + length c.args.piece.now - length c.in-Ok.after.now) in
    let there : place ≡ c.args.place + (length (c.args.kept.now.items ++ c.args.piece.now) - length c.in-Ok.after.now) =
    ap (λ (n : ℕ). c.args.place + (n + length c.args.piece.now - length c.in-Ok.after.now)) c.len-len.ensures.value ∙ ap (λ (n : ℕ). c.args.place + (n - length c.in-Ok.after.now)) (sym (length-append c.args.kept.now.items c.args.piece.now)) in
    then_stops c.read_rest-in-Ok.result c.args.form c.args.place place (c.args.kept.now.items ++ c.args.piece.now) c.in-Ok.after.now c.with_capacity-ops.result c.first_item.new.ops there c.in-Ok.ensures.item c.read_rest-in-Ok.ensures.fault

pub returns-in-Cut-clause-read : goal.returns-in-Cut-clause-read
returns-in-Cut-clause-read g c =
    let cut = subst (λ (w : FeedWhy). IsWrong c.args.form (c.args.kept.now.items ++ c.args.piece.now) w) c.in-Cut.is c.in-Err.ensures.refused in
    let same = c.first_item.ensures.cut (c.in-Err.is ∙ ap (λ (w : FeedWhy). Err w) c.in-Cut.is) in
    cut_reads c.args.form (c.args.kept.now.items ++ c.args.piece.now) c.with_capacity-ops.result c.first_item.new.ops
    (begun c.most_ops-most.result (c.args.kept.now.items ++ c.args.piece.now) c.with_capacity-ops.result (λ some. let long = c.most_ops-most.ensures some in let len = length-append c.args.kept.now.items c.args.piece.now in let kept = c.len.ensures.value in omega (arith, long, len, kept)) c.with_capacity-ops.ensures)
    same cut
