use Rattle.std.proofs.lemmas.Result.{err_from_is_err_and}
use Rattle.script_answers.proofs.Gives.{case_and_wedge, no_case, no_wedge}
use Rattle.script_answers.proofs.inputs.both.Goals as goal

pub returns-in_err-case-clause-given : goal.returns-in_err-case-clause-given
returns-in_err-case-clause-given g c =
    let p = err_from_is_err_and c.from_residual.result c.from_residual.ensures.1 in
    rw p.1 (rw p.2 (no_case c.args.case.now c.args.wedge.now (g.F.Files.shelf c.args.files.now) (g.F.Files.shelf c.case_in.new.files) c.in_err-case.field-0.0 c.in_err-case.ensures.given))

pub returns-in_err-wedge-clause-given : goal.returns-in_err-wedge-clause-given
returns-in_err-wedge-clause-given g c =
    let p = err_from_is_err_and c.from_residual-in_err-wedge.result c.from_residual-in_err-wedge.ensures.1 in
    rw p.1 (rw p.2 (no_wedge c.args.case.now c.args.wedge.now (g.F.Files.shelf c.args.files.now) (g.F.Files.shelf c.case_in.new.files) (g.F.Files.shelf c.wedge_in.new.files) c.in_ok-case.case c.in_err-wedge.field-0.0 c.in_ok-case.ensures.still c.in_ok-case.ensures.given c.in_err-wedge.ensures.given))

pub returns-clause-given : goal.returns-clause-given
returns-clause-given g c =
    case_and_wedge c.args.case.now c.args.wedge.now (g.F.Files.shelf c.args.files.now) (g.F.Files.shelf c.case_in.new.files) (g.F.Files.shelf c.wedge_in.new.files) c.in_ok-case.case c.in_ok-wedge.wedge c.in_ok-case.ensures.given c.in_ok-wedge.ensures.given
