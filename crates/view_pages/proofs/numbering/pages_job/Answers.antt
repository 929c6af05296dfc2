use Rattle.std.proofs.Common.{inr, rules, subst}
use Rattle.std.proofs.lemmas.Result.{IfErr-weaker, on_ok_weaker}
use Rattle.feed_files.specs.Files.{Shelf}
use Rattle.feed_files.specs.Outputs.{destination}
use Rattle.view_picture.specs.Picturing.{IsPictured, IsUnpictured}
use Rattle.view_pages.specs.Numbering.{GivesShort}
use Rattle.view_pages.proofs.numbering.pages_job.Goals as goal

pub returns-in-None-clause-ok : goal.returns-in-None-clause-ok
returns-in-None-clause-ok g c =
    let old : Shelf = g.F.Files.shelf c.args.files.now in
    let last : Shelf = g.F.Files.shelf c.picture_job.new.files in
    let to = destination c.args.target.now.name.now c.args.target.now.force in
    let short : GivesShort c.args.job.now old c.args.trial.now c.args.height = c.in_ok-texts.ensures.none (search rules) in
    on_ok_weaker c.picture_job.result (λ p. inr (short, subst (λ (s : Shelf). IsPictured c.args.job.now c.args.trial.now to s last) c.in_ok-texts.ensures.still p)) c.picture_job.ensures.ok

pub returns-in-None-clause-err : goal.returns-in-None-clause-err
returns-in-None-clause-err g c =
    let old : Shelf = g.F.Files.shelf c.args.files.now in
    let last : Shelf = g.F.Files.shelf c.picture_job.new.files in
    let to = destination c.args.target.now.name.now c.args.target.now.force in
    let short : GivesShort c.args.job.now old c.args.trial.now c.args.height = c.in_ok-texts.ensures.none (search rules) in
    IfErr-weaker c.picture_job.result _ _ (λ fault p. inr (inr (short, subst (λ (s : Shelf). IsUnpictured c.args.job.now c.args.trial.now to s last fault) c.in_ok-texts.ensures.still p))) c.picture_job.ensures.err
