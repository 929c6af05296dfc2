use Rattle.std.proofs.lemmas.Result.{err_from_is_err_and}
use Rattle.desk_codec.proofs.RunLaws.{miscounted, cut_symbols, run_given, run_refused}
use Rattle.desk_codec.proofs.items.next_run.Goals as goal

pub returns-then-count-lt-LEAST_RUN-clause-refused : goal.returns-then-count-lt-LEAST_RUN-clause-refused
returns-then-count-lt-LEAST_RUN-clause-refused g c =
    miscounted c.args.bytes.now c.take_prefix-count.result.0 c.take_prefix-count.result.1 c.take_prefix-count.result.2 c.take_prefix-count.result.3.now c.take_prefix-count.ensures.prefix c.then-count-lt-LEAST_RUN.either

pub returns-then-rest-count-clause-refused : goal.returns-then-rest-count-clause-refused
returns-then-rest-count-clause-refused g c =
    cut_symbols c.args.bytes.now c.take_prefix-count.result.0 c.take_prefix-count.result.1 c.take_prefix-count.result.2 c.take_prefix-count.result.3.now c.take_prefix-count.ensures.prefix c.if-count-lt-LEAST_RUN.false c.if-count-gt-MOST_RUN.false c.if-rest-count.true

pub returns-clause-item : goal.returns-clause-item
returns-clause-item g c =
    run_given c.args.bytes.now c.take_prefix-count.result.0 c.take_prefix-count.result.1 c.take_prefix-count.result.2 c.take_prefix-count.result.3.now c.in_ok-rest.rest.now c.args.ops.now c.take_inserts.new.ops c.take_prefix-count.ensures.prefix c.if-count-lt-LEAST_RUN.false c.if-count-gt-MOST_RUN.false
    c.in_ok-rest.ensures.inserts

pub returns-in_err-rest-clause-refused : goal.returns-in_err-rest-clause-refused
returns-in_err-rest-clause-refused g c =
    let p = err_from_is_err_and c.from_residual.result c.from_residual.ensures.1 in
    rw p.1 (rw p.2 (run_refused c.args.bytes.now c.take_prefix-count.result.0 c.take_prefix-count.result.1 c.take_prefix-count.result.2 c.take_prefix-count.result.3.now c.in_err-rest.field-0.0 c.take_prefix-count.ensures.prefix c.if-count-lt-LEAST_RUN.false c.if-count-gt-MOST_RUN.false c.in_err-rest.ensures.refused))
