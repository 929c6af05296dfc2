use Rattle.std.proofs.Common.{arith}
use Rattle.desk_caster.proofs.Ribbons.{number_there}
use Rattle.desk_caster.proofs.reading.take_number.Goals as goal

pub returns-clause-bytes : goal.returns-clause-bytes
returns-clause-bytes c =
    let parts = rw c.unwrap.ensures at c.split_first_chunk.ensures.cases in
    number_there c.args.bytes.now c.unwrap.result.0.now c.unwrap.result.1.now c.from_be_bytes.result (λ i. omega (arith, c.type_inv.bytes i)) c.requires parts.0 parts.1 c.from_be_bytes.ensures
