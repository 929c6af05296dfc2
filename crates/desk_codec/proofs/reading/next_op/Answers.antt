use Rattle.std.proofs.lemmas.Result.{err_from_is_err_and}
use Rattle.desk_codec.specs.Fault.{OneOf}
use Rattle.desk_codec.proofs.reading.next_op.Goals as goal
use Rattle.std.proofs.Common.{◌∙◌, ◌∷◌, ℕ, sym, ap}

pub returns-in_err-op-clause-wrong : goal.returns-in_err-op-clause-wrong
returns-in_err-op-clause-wrong c =
    let p = err_from_is_err_and c.from_residual.result c.from_residual.ensures.1 in
    rw p.1 (rw p.2 (record {
      fields = OneOf c.take-fields.result.0;
      values = c.take-fields.ensures.values;
      stands = tt;
      rest = c.take-fields.result.1.now;
      prefix = c.take_byte-byte.ensures.bytes ∙ ap (λ (k : ℕ). k ∷ c.take_byte-byte.result.1.now) (sym c.in-Some.ensures) ∙ c.take-fields.ensures.bytes;
      is = c.in_err-op.ensures.err;
    }))
