use Rattle.std.proofs.Common.{ap}
use Rattle.std.proofs.lemmas.Result.{err_from_is_err_and}
use Rattle.std.specs.Prelude.{Err}
use Rattle.script_answers.specs.Failure.{case_refused}
use Rattle.desk_case.specs.File.{case_of}
use Rattle.feed_files.proofs.Shelves.{same_shelf}
use Rattle.script_answers.proofs.Gives.{misread, no_memory_case, no_number_case, read_as, stays_by, unread}
use Rattle.script_answers.proofs.inputs.case_in.Goals as goal

pub returns-in_err-bytes-clause-given : goal.returns-in_err-bytes-clause-given
returns-in_err-bytes-clause-given g c =
    let first = g.F.Files.shelf c.args.files.now in
    let mid = g.F.Files.shelf c.read.new.self in
    let p = err_from_is_err_and c.from_residual.result c.from_residual.ensures.1 in
    rw p.1 (rw p.2 (unread case_of case_refused c.args.name.now first mid c.in_err-bytes.field-0.0 (stays_by c.read.result first mid c.in_err-bytes.ensures.kept c.in_err-bytes.ensures.held c.read.ensures.counted)
    c.in_err-bytes.ensures.given c.in_err-bytes.ensures.counted))

pub returns-in_err-case-clause-given : goal.returns-in_err-case-clause-given
returns-in_err-case-clause-given g c =
    let first = g.F.Files.shelf c.args.files.now in
    let mid = g.F.Files.shelf c.read.new.self in
    let fault = c.in_err-case.field-0.0 in
    let p = err_from_is_err_and c.from_residual-in_err-case.result c.from_residual-in_err-case.ensures.1 in
    rw p.1 (rw p.2 (misread case_of case_refused c.args.name.now first mid c.in_ok-bytes.bytes.items c.deref.result.now fault (stays_by c.read.result first mid c.in_ok-bytes.ensures.kept c.in_ok-bytes.ensures.held c.read.ensures.counted)
    c.in_ok-bytes.ensures.given c.in_ok-bytes.ensures.counted c.deref.ensures.value (λ reported is. c.in_err-case.ensures.err (no_memory_case fault reported is)) (λ none. c.in_err-case.ensures.memory (ap Err (no_number_case fault none)))))

pub returns-clause-given : goal.returns-clause-given
returns-clause-given g c =
    let first = g.F.Files.shelf c.args.files.now in
    let mid = g.F.Files.shelf c.read.new.self in
    read_as case_of case_refused c.args.name.now first mid c.in_ok-bytes.bytes.items c.deref.result.now c.in_ok-case.case (stays_by c.read.result first mid c.in_ok-bytes.ensures.kept c.in_ok-bytes.ensures.held c.read.ensures.counted)
    c.in_ok-bytes.ensures.given c.in_ok-bytes.ensures.counted c.deref.ensures.value c.in_ok-case.ensures.ok

pub returns-clause-still : goal.returns-clause-still
returns-clause-still g c =
    let first = g.F.Files.shelf c.args.files.now in
    let mid = g.F.Files.shelf c.read.new.self in
    same_shelf first mid (stays_by c.read.result first mid c.in_ok-bytes.ensures.kept c.in_ok-bytes.ensures.held c.read.ensures.counted) c.in_ok-bytes.ensures.counted
