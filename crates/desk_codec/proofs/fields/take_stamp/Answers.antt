use Rattle.std.proofs.Common.{arith}
use Rattle.desk_ops.specs.declared.op.Stamp.{Stamp}
use Rattle.desk_codec.proofs.Numbers.{stamp_there}
use Rattle.desk_codec.proofs.fields.take_stamp.Goals as goal

pub returns-clause-bytes : goal.returns-clause-bytes
returns-clause-bytes c =
    let one = rw c.unwrap.ensures at c.split_first_chunk.ensures.cases in
    let two = rw c.unwrap-2.ensures at c.split_first_chunk-2.ensures.cases in
    let stamp : Stamp = record { counter = c.from_be_bytes.result; site = c.from_be_bytes-2.result } in
    stamp_there c.args.bytes.now c.unwrap.result.0.now c.unwrap.result.1.now c.unwrap-2.result.0.now c.unwrap-2.result.1.now stamp (λ i. omega (arith, c.type_inv.bytes i)) c.requires
    one.0 one.1 c.from_be_bytes.ensures two.0 two.1 c.from_be_bytes-2.ensures
