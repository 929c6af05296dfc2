use Rattle.std.proofs.Common.{ap, ◌∙◌, ◌∷◌, List, ℕ, arith}
use Rattle.std.proofs.lemmas.Result.{err_from_is_err_and}
use Rattle.desk_codec.proofs.RunLaws.{inserts_more, refused_more, refused_first}
use Rattle.desk_codec.proofs.items.+take_inserts.Goals as goal

pub returns-clause-inserts : goal.returns-clause-inserts
returns-clause-inserts g t c =
    inserts_more (λ v. v.now) c.take_inserts.result c.args.stamp c.args.parent c.args.count c.args.bytes.now c.take_u32-ch.result.1.now c.take_byte-style.result.0 c.take_u32-ch.result.0 c.in_ok-op.op c.args.ops.now c.push.new.self c.take_inserts.new.ops c.if-count-eq0.false
    c.in_ok-op.ensures.ok.0 c.in_ok-op.ensures.ok.1 (c.take_byte-style.ensures.bytes ∙ ap (λ (l : List ℕ). c.take_byte-style.result.0 ∷ l) c.take_u32-ch.ensures.bytes) c.push.ensures c.take_inserts.ensures.inserts

pub returns-clause-refused : goal.returns-clause-refused
returns-clause-refused g t c =
    refused_more c.take_inserts.result c.args.stamp c.args.parent c.args.count c.args.bytes.now c.take_u32-ch.result.1.now c.take_byte-style.result.0 c.take_u32-ch.result.0 c.in_ok-op.op c.if-count-eq0.false c.take_byte-style.ensures.value c.take_u32-ch.ensures.value
    c.in_ok-op.ensures.ok.0 c.in_ok-op.ensures.ok.1 (c.take_byte-style.ensures.bytes ∙ ap (λ (l : List ℕ). c.take_byte-style.result.0 ∷ l) c.take_u32-ch.ensures.bytes) c.take_inserts.ensures.refused

pub returns-in_err-op-clause-refused : goal.returns-in_err-op-clause-refused
returns-in_err-op-clause-refused g t c =
    let p = err_from_is_err_and c.from_residual.result c.from_residual.ensures.1 in
    rw p.1 (rw p.2 (refused_first c.args.stamp c.args.parent c.args.count c.args.bytes.now c.take_u32-ch.result.1.now c.take_byte-style.result.0 c.take_u32-ch.result.0 c.in_err-op.field-0.0 c.if-count-eq0.false c.take_byte-style.ensures.value c.take_u32-ch.ensures.value (λ i. omega (arith, c.type_inv.bytes i))
    c.requires (c.take_byte-style.ensures.bytes ∙ ap (λ (l : List ℕ). c.take_byte-style.result.0 ∷ l) c.take_u32-ch.ensures.bytes) c.in_err-op.ensures.err))
