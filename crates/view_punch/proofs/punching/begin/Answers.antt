use Rattle.std.proofs.Common.{◌≡◌, ◌≤◌, ◌∙◌, List, ℕ, length, ap, inl, inr, refl, subst}
use Rattle.std.proofs.lemmas.Result.{err_from_is_err_and}
use Rattle.desk_ribbon.specs.Ribbon.{ribbon}
use Rattle.feed_files.specs.Files.{Shelf, max_file}
use Rattle.view_preview.specs.Sources.{AreRefused, Give}
use Rattle.view_preview.specs.declared.sources.Sources.{Sources}
use Rattle.view_punch.proofs.AllRows.{too_long}
use Rattle.view_punch.proofs.punching.begin.Goals as goal

pub returns-in_err-replica-clause-err : goal.returns-in_err-replica-clause-err
returns-in_err-replica-clause-err g c =
    let first : Shelf = g.F.Files.shelf c.args.files.now in
    let last : Shelf = g.F.Files.shelf c.take_in.new.files in
    let why = c.in_err-replica.field-0.0 in
    let refused = subst (λ (s : Sources). AreRefused s first last why) c.source_of-source.ensures c.in_err-replica.ensures.err in
    let p = err_from_is_err_and c.from_residual.result c.from_residual.ensures.1 in
    rw p.1 (inl (refl, why, p.2, refused))

pub returns-in_err-ribbon-clause-err : goal.returns-in_err-ribbon-clause-err
returns-in_err-ribbon-clause-err g c =
    let first : Shelf = g.F.Files.shelf c.args.files.now in
    let t = c.in_ok-replica in
    let give = subst (λ (s : Sources). Give s first t.replica.ops t.case t.wedge) c.source_of-source.ensures t.ensures.ok in
    let p = err_from_is_err_and c.from_residual-in_err-ribbon.result c.from_residual-in_err-ribbon.ensures.1 in
    rw p.1 (rw p.2 (inr (t.case, t.wedge, give.1, inr (inl (t.ensures.still, t.replica.ops, give.0, c.in_err-ribbon.ensures.err)))))

pub returns-in_err-fits-clause-err : goal.returns-in_err-fits-clause-err
returns-in_err-fits-clause-err g c =
    let first : Shelf = g.F.Files.shelf c.args.files.now in
    let t = c.in_ok-replica in
    let give = subst (λ (s : Sources). Give s first t.replica.ops t.case t.wedge) c.source_of-source.ensures t.ensures.ok in
    let made = c.in_ok-ribbon.ensures.ok in
    let p = err_from_is_err_and c.from_residual-in_err-fits.result c.from_residual-in_err-fits.ensures.1 in
    rw p.1 (rw p.2 (inr (t.case, t.wedge, give.1, inr (inr (t.ensures.still, c.in_ok-ribbon.ensures.silent, made.0, (t.replica.ops, give.0, made.1), too_long _ (ribbon made.0) _ (ap length (c.deref.ensures.value ∙ made.2)) c.in_err-fits.ensures.err)))))

pub returns-clause-ok : goal.returns-clause-ok
returns-clause-ok g c =
    let first : Shelf = g.F.Files.shelf c.args.files.now in
    let t = c.in_ok-replica in
    let give = subst (λ (s : Sources). Give s first t.replica.ops t.case t.wedge) c.source_of-source.ensures t.ensures.ok in
    (give.1, (t.replica.ops, give.0, c.in_ok-ribbon.ensures.ok, c.in_ok-ribbon.ensures.cast), subst (λ (l : List ℕ). length l ≤ max_file) c.deref.ensures.value c.in_ok-fits.ensures.ok)
