use Rattle.std.proofs.Common.{inr, refl, subst, sym}
use Rattle.std.proofs.lemmas.Result.{err_from_is_err_and}
use Rattle.std.specs.Prelude.{Ok}
use Rattle.feed_files.specs.Files.{Shelf}
use Rattle.script_answers.proofs.Gives.{still_at}
use Rattle.script_answers.specs.Inputs.{BothGive}
use Rattle.view_preview.specs.Matter.{MatterValues}
use Rattle.view_preview.specs.Taking.{GivesText}
use Rattle.view_preview.proofs.Gives.{no_text_inputs}
use Rattle.view_preview.proofs.taking.take_text.Goals as goal

pub returns-in_err-case-clause-err : goal.returns-in_err-case-clause-err
returns-in_err-case-clause-err g c =
    let first : Shelf = g.F.Files.shelf c.args.files.now in
    let mid : Shelf = g.F.Files.shelf c.text_in.new.files in
    let last : Shelf = g.F.Files.shelf c.both.new.files in
    let t = c.in_ok-text in
    let p = err_from_is_err_and c.from_residual-in_err-case.result c.from_residual-in_err-case.ensures.1 in
    rw p.1 (rw p.2 (inr (t.text.items, t.copy.items, t.ensures.ok, no_text_inputs c.args.case.now c.args.wedge.now first mid last c.in_err-case.field-0.0 t.ensures.still c.in_err-case.ensures.given)))

pub returns-clause-ok : goal.returns-clause-ok
returns-clause-ok g c =
    let first : Shelf = g.F.Files.shelf c.args.files.now in
    let mid : Shelf = g.F.Files.shelf c.text_in.new.files in
    let last : Shelf = g.F.Files.shelf c.both.new.files in
    let t = c.in_ok-text in
    let given =
    still_at (λ s u. BothGive c.args.case.now c.args.wedge.now s (Ok (c.in_ok-case.case, c.in_ok-case.wedge)) u) first mid last t.ensures.still c.in_ok-case.ensures.still c.in_ok-case.ensures.given in
    subst (λ (m : MatterValues). GivesText c.args.plain c.args.name.now c.args.case.now c.args.wedge.now first m) (sym c.of_text.ensures) (t.text.items, t.copy.items, t.ensures.ok, given, refl)
