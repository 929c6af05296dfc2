use Rattle.desk_codec.proofs.ReadLaws.{begun, rest_read, stops_on}
use Rattle.desk_codec.proofs.reader.read_after_magic.Goals as goal

pub returns-clause-read : goal.returns-clause-read
returns-clause-read g c =
    rest_read (λ v. v.form) (λ v. v.ops) (λ v. v.rest.now) (λ v. v.is_behind) c.read_rest.result c.args.form c.args.piece.now c.with_capacity-ops.result
    (begun c.most_ops.result c.args.piece.now c.with_capacity-ops.result (λ some. c.most_ops.ensures some) c.with_capacity-ops.ensures) c.read_rest.ensures.read

pub returns-clause-fault : goal.returns-clause-fault
returns-clause-fault g c = stops_on c.read_rest.result c.args.form 4 c.args.piece.now c.read_rest.ensures.fault
