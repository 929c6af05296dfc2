use Rattle.std.proofs.Common.{subst}
use Rattle.std.proofs.lemmas.Result.{err_from_is_err_and}
use Rattle.desk_codec.specs.Pieces.{Reader, Takes}
use Rattle.desk_codec.proofs.AnswerLaws.{reports_end}
use Rattle.desk_codec.proofs.reading.operations_of.Goals as goal

pub returns-in_err-finish-clause-fault : goal.returns-in_err-finish-clause-fault
returns-in_err-finish-clause-fault g c =
    let p = err_from_is_err_and c.from_residual-in_err-finish.result c.from_residual-in_err-finish.ensures.1 in
    rw p.1 (rw p.2 (reports_end c.args.bytes.now c.in_ok-ops.ops.items c.in_err-finish.field-0.0 c.feed.new.self (subst (λ (r : Reader). Takes r c.args.bytes.now c.in_ok-ops.ops.items c.feed.new.self) c.new-reader.ensures c.in_ok-ops.ensures.taken) c.in_err-finish.ensures.refused))
