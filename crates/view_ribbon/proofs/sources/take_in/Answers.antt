use Rattle.std.proofs.Common.{◌∙◌}
use Rattle.std.proofs.lemmas.Result.{err_from_is_err_and}
use Rattle.std.specs.Prelude.{Ok}
use Rattle.feed_files.specs.Files.{Shelf}
use Rattle.feed_files.proofs.Shelves.{same_shelf}
use Rattle.script_answers.proofs.Gives.{stays_by, still_at}
use Rattle.script_answers.specs.Inputs.{BothGive}
use Rattle.view_ribbon.proofs.Gives.{no_inputs, no_ribbon}
use Rattle.view_ribbon.proofs.sources.take_in.Goals as goal

pub returns-in_err-bytes-clause-err : goal.returns-in_err-bytes-clause-err
returns-in_err-bytes-clause-err g c =
    let first : Shelf = g.F.Files.shelf c.args.files.now in
    let mid : Shelf = g.F.Files.shelf c.read.new.self in
    let p = err_from_is_err_and c.from_residual.result c.from_residual.ensures.1 in
    rw p.1 (rw p.2 (no_ribbon c.args.from.now first mid c.in_err-bytes.field-0.0 (stays_by c.read.result first mid c.in_err-bytes.ensures.kept c.in_err-bytes.ensures.held c.read.ensures.counted)
    c.in_err-bytes.ensures.given c.in_err-bytes.ensures.counted))

pub returns-in_err-case-clause-err : goal.returns-in_err-case-clause-err
returns-in_err-case-clause-err g c =
    let first : Shelf = g.F.Files.shelf c.args.files.now in
    let mid : Shelf = g.F.Files.shelf c.read.new.self in
    let last : Shelf = g.F.Files.shelf c.both.new.files in
    let same = same_shelf first mid (stays_by c.read.result first mid c.in_ok-bytes.ensures.kept c.in_ok-bytes.ensures.held c.read.ensures.counted) c.in_ok-bytes.ensures.counted in
    let p = err_from_is_err_and c.from_residual-in_err-case.result c.from_residual-in_err-case.ensures.1 in
    rw p.1 (rw p.2 (no_inputs c.args.from.now c.in_ok-bytes.bytes.items first mid last c.in_err-case.field-0.0 same c.in_ok-bytes.ensures.given c.in_err-case.ensures.given))

pub returns-clause-ok : goal.returns-clause-ok
returns-clause-ok g c =
    let first : Shelf = g.F.Files.shelf c.args.files.now in
    let mid : Shelf = g.F.Files.shelf c.read.new.self in
    let last : Shelf = g.F.Files.shelf c.both.new.files in
    let same = same_shelf first mid (stays_by c.read.result first mid c.in_ok-bytes.ensures.kept c.in_ok-bytes.ensures.held c.read.ensures.counted) c.in_ok-bytes.ensures.counted in
    (c.in_ok-bytes.ensures.given, still_at (λ s t. BothGive c.args.from.now.case.now c.args.from.now.wedge.now s (Ok (c.in_ok-case.case, c.in_ok-case.wedge)) t) first mid last same c.in_ok-case.ensures.still c.in_ok-case.ensures.given)

pub returns-clause-still : goal.returns-clause-still
returns-clause-still g c =
    let first : Shelf = g.F.Files.shelf c.args.files.now in
    let mid : Shelf = g.F.Files.shelf c.read.new.self in
    let same = same_shelf first mid (stays_by c.read.result first mid c.in_ok-bytes.ensures.kept c.in_ok-bytes.ensures.held c.read.ensures.counted) c.in_ok-bytes.ensures.counted in
    c.in_ok-case.ensures.still ∙ same
