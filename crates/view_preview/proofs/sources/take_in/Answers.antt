use Rattle.std.proofs.Common.{◌∙◌}
use Rattle.std.proofs.lemmas.Result.{err_from_is_err_and}
use Rattle.std.specs.Prelude.{Ok}
use Rattle.feed_files.specs.Files.{Shelf}
use Rattle.feed_files.proofs.Shelves.{same_shelf}
use Rattle.script_answers.proofs.Gives.{still_at}
use Rattle.script_answers.specs.Inputs.{BothGive}
use Rattle.view_preview.proofs.Gives.{no_inputs}
use Rattle.view_preview.proofs.sources.take_in.Goals as goal

pub returns-in_err-replica-clause-err : goal.returns-in_err-replica-clause-err
returns-in_err-replica-clause-err g c = let p = err_from_is_err_and c.from_residual.result c.from_residual.ensures.1 in rw p.1 (rw p.2 c.in_err-replica.ensures.err)

pub returns-in_err-case-clause-err : goal.returns-in_err-case-clause-err
returns-in_err-case-clause-err g c =
    let first : Shelf = g.F.Files.shelf c.args.files.now in
    let mid : Shelf = g.F.Files.shelf c.open_version.new.files in
    let last : Shelf = g.F.Files.shelf c.both.new.files in
    let same = same_shelf first mid c.open_version.ensures.stays c.in_ok-replica.ensures.counted in
    let p = err_from_is_err_and c.from_residual-in_err-case.result c.from_residual-in_err-case.ensures.1 in
    rw p.1 (rw p.2 (no_inputs c.args.from.now c.in_ok-replica.replica.ops first mid last c.in_err-case.field-0.0 same c.in_ok-replica.ensures.ok c.in_err-case.ensures.given))

pub returns-clause-ok : goal.returns-clause-ok
returns-clause-ok g c =
    let first : Shelf = g.F.Files.shelf c.args.files.now in
    let mid : Shelf = g.F.Files.shelf c.open_version.new.files in
    let last : Shelf = g.F.Files.shelf c.both.new.files in
    let same = same_shelf first mid c.open_version.ensures.stays c.in_ok-replica.ensures.counted in
    (c.in_ok-replica.ensures.ok, still_at (λ s t. BothGive c.args.from.now.case.now c.args.from.now.wedge.now s (Ok (c.in_ok-case.case, c.in_ok-case.wedge)) t) first mid last same c.in_ok-case.ensures.still c.in_ok-case.ensures.given)

pub returns-clause-still : goal.returns-clause-still
returns-clause-still g c =
    let first : Shelf = g.F.Files.shelf c.args.files.now in
    let mid : Shelf = g.F.Files.shelf c.open_version.new.files in
    let same = same_shelf first mid c.open_version.ensures.stays c.in_ok-replica.ensures.counted in
    c.in_ok-case.ensures.still ∙ same
