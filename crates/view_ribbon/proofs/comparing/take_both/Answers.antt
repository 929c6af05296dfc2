use Rattle.std.proofs.Common.{inr, subst}
use Rattle.std.proofs.lemmas.Result.{err_from_is_err_and}
use Rattle.feed_files.specs.Files.{Shelf}
use Rattle.feed_files.proofs.Shelves.{same_shelf}
use Rattle.script_answers.proofs.Gives.{stays_by}
use Rattle.view_ribbon.specs.Comparing.{others_of}
use Rattle.view_ribbon.specs.Sources.{AreRefused, Give}
use Rattle.view_ribbon.proofs.comparing.take_both.Goals as goal

pub returns-in_err-other-clause-err : goal.returns-in_err-other-clause-err
returns-in_err-other-clause-err g c =
    let first : Shelf = g.F.Files.shelf c.args.files.now in
    let mid : Shelf = g.F.Files.shelf c.read.new.self in
    let last : Shelf = g.F.Files.shelf c.take_in.new.files in
    let same = same_shelf first mid (stays_by c.read.result first mid c.in_ok-one.ensures.kept c.in_ok-one.ensures.held c.read.ensures.counted) c.in_ok-one.ensures.counted in
    let why = c.in_err-other.field-0.0 in
    let p = err_from_is_err_and c.from_residual-in_err-other.result c.from_residual-in_err-other.ensures.1 in
    rw p.1 (inr (why, p.2, (c.in_ok-one.one.items, c.in_ok-one.ensures.given, subst (λ (s : Shelf). AreRefused (others_of c.args.pair.now) s last why) same c.in_err-other.ensures.err)))

pub returns-clause-ok : goal.returns-clause-ok
returns-clause-ok g c =
    let first : Shelf = g.F.Files.shelf c.args.files.now in
    let mid : Shelf = g.F.Files.shelf c.read.new.self in
    let same = same_shelf first mid (stays_by c.read.result first mid c.in_ok-one.ensures.kept c.in_ok-one.ensures.held c.read.ensures.counted) c.in_ok-one.ensures.counted in
    (c.in_ok-one.ensures.given, subst (λ (s : Shelf). Give (others_of c.args.pair.now) s c.in_ok-other.other.items c.in_ok-other.case c.in_ok-other.wedge) same c.in_ok-other.ensures.ok)
