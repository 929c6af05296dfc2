use Rattle.std.proofs.Common.{◌≡◌, ◌-◌, ◌∙◌, ◌≤◌, ℕ, length, length-drop, min, subst, take, drop, ap, sym, arith}
use Rattle.std.proofs.lemmas.List.{take_all}
use Rattle.std.proofs.lemmas.Result.{err_from_is_err_and}
use Rattle.desk_codec.proofs.ReadLaws.{cut_length, rest_within, first_given, wrong_all, fits}
use Rattle.desk_codec.proofs.reader.first_item.Goals as goal

pub overflow_sub-result : goal.overflow_sub-result
overflow_sub-result g c =
    let (rest, given, many) = c.in_ok-left.ensures.item in
    let within = rest_within c.args.form c.args.kept.now.items c.split_at.result.0.now rest c.as_slice.result.now c.args.ops.now c.item_in-read.new.ops c.requires (c.as_slice.ensures.value ∙ c.put.ensures.items) given in
    let len = c.split_at.ensures.front_len in
    omega (arith, within, len, many)

pub returns-clause-item : goal.returns-clause-item
returns-clause-item g c =
    let (rest, given, many) = c.in_ok-left.ensures.item in
    let n : ℕ = c.min-size.result - c.in_ok-left.left in
    let enough : length (drop n c.args.piece.now) ≤ length c.args.piece.now - n = let len = length-drop n c.args.piece.now in omega (arith, len) in
    let left : take (length c.args.piece.now - n) (drop n c.args.piece.now) ≡ drop (length c.split_at.result.0.now - length rest) c.args.piece.now =
    take_all (length c.args.piece.now - n) (drop n c.args.piece.now) enough ∙ ap (λ (m : ℕ). drop (m - c.in_ok-left.left) c.args.piece.now) (sym c.split_at.ensures.front_len) ∙ ap (λ (m : ℕ). drop (length c.split_at.result.0.now - m) c.args.piece.now) (sym many)
    in
    first_given c.args.form c.args.kept.now.items c.args.piece.now c.split_at.result.0.now c.split_at.result.1.now rest c.as_slice.result.now (take (length c.args.piece.now - n) (drop n c.args.piece.now)) c.args.ops.now c.item_in-read.new.ops c.requires c.split_at.ensures.by_index.0
    (c.as_slice.ensures.value ∙ c.put.ensures.items) left given

pub returns-in_err-left-clause-refused : goal.returns-in_err-left-clause-refused
returns-in_err-left-clause-refused g c =
    let whole = c.as_slice.ensures.value ∙ c.put.ensures.items in
    let p = err_from_is_err_and c.from_residual.result c.from_residual.ensures.1 in
    rw p.1 (rw p.2 (wrong_all c.args.form c.args.kept.now.items c.args.piece.now c.split_at.result.0.now c.split_at.result.1.now c.as_slice.result.now c.in_err-left.field-0.0 c.split_at.ensures.by_index.0 (c.as_slice.ensures.value ∙ c.put.ensures.items)
    (fits c.args.kept.now.items c.split_at.result.0.now c.split_at.result.1.now c.as_slice.result.now c.args.piece.now c.min-size.result (subst (λ (n : ℕ). c.min-size.result ≡ min (length c.args.piece.now) (342 - n)) c.len-len.ensures.value c.min-size.ensures) c.split_at.ensures.front_len c.split_at.ensures.by_index.0 (c.as_slice.ensures.value ∙ c.put.ensures.items) (cut_length c.args.form c.args.kept.now.items c.requires))
    c.in_err-left.ensures.refused))
