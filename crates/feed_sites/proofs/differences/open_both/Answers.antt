use Rattle.std.proofs.Common.{◌≡◌, ◌∙◌, subst}
use Rattle.std.proofs.lemmas.Result.{err_from_is_err_and}
use Rattle.feed_files.specs.Files.{Shelf}
use Rattle.feed_edit.specs.Exporting.{IsClosedBy, IsSetOf, IsUnversioned, IsVersion}
use Rattle.feed_files.proofs.Behind.{err_behind, ok_behind}
use Rattle.feed_files.proofs.Shelves.{same_shelf}
use Rattle.feed_sites.proofs.differences.open_both.Goals as goal

pub returns-in_err-first-clause-err : goal.returns-in_err-first-clause-err
returns-in_err-first-clause-err g c =
    let first : Shelf = g.F.Files.shelf c.args.files.now in
    let mid : Shelf = g.F.Files.shelf c.open_version.new.files in
    let reported = err_behind (IsUnversioned c.args.one first mid) _ c.open_version.result c.map_err.result c.in_err-first.field-0.0 c.map_err.ensures.cases c.in_err-first.was c.open_version.ensures.err in
    let p = err_from_is_err_and c.from_residual.result c.from_residual.ensures.1 in
    rw p.1 (rw p.2 (rw reported.2 reported.1))

pub returns-in_err-second-clause-err : goal.returns-in_err-second-clause-err
returns-in_err-second-clause-err g c =
    let first : Shelf = g.F.Files.shelf c.args.files.now in
    let mid : Shelf = g.F.Files.shelf c.open_version.new.files in
    let last : Shelf = g.F.Files.shelf c.open_feed.new.files in
    let one = ok_behind (λ r. IsVersion c.args.one first r.ops) _ c.open_version.result c.map_err.result c.in_ok-first.first c.map_err.ensures.cases c.map_err.ensures.variant c.in_ok-first.was c.open_version.ensures.ok in
    let one_counted = ok_behind (λ _. mid.failures ≡ first.failures) _ c.open_version.result c.map_err.result c.in_ok-first.first c.map_err.ensures.cases c.map_err.ensures.variant c.in_ok-first.was c.open_version.ensures.counted in
    let same = same_shelf first mid c.open_version.ensures.stays one_counted in
    let reported = err_behind (IsClosedBy c.args.other.now mid last) _ c.open_feed.result c.map_err-2.result c.in_err-second.field-0.0 c.map_err-2.ensures.cases c.in_err-second.was c.open_feed.ensures.err in
    let closed = subst (λ (s : Shelf). IsClosedBy c.args.other.now s last reported.0) same reported.1 in
    let p = err_from_is_err_and c.from_residual-in_err-second.result c.from_residual-in_err-second.ensures.1 in
    rw p.1 (rw p.2 (rw reported.2 (c.in_ok-first.first.ops, one, closed)))

pub returns-clause-one : goal.returns-clause-one
returns-clause-one g c =
    ok_behind (λ r. IsVersion c.args.one (g.F.Files.shelf c.args.files.now) r.ops) _ c.open_version.result c.map_err.result c.in_ok-first.first c.map_err.ensures.cases c.map_err.ensures.variant c.in_ok-first.was c.open_version.ensures.ok

pub returns-clause-other : goal.returns-clause-other
returns-clause-other g c =
    let first : Shelf = g.F.Files.shelf c.args.files.now in
    let mid : Shelf = g.F.Files.shelf c.open_version.new.files in
    let one_counted = ok_behind (λ _. mid.failures ≡ first.failures) _ c.open_version.result c.map_err.result c.in_ok-first.first c.map_err.ensures.cases c.map_err.ensures.variant c.in_ok-first.was c.open_version.ensures.counted in
    let same = same_shelf first mid c.open_version.ensures.stays one_counted in
    let other = ok_behind (λ r. IsSetOf c.args.other.now mid r.ops) _ c.open_feed.result c.map_err-2.result c.in_ok-second.second c.map_err-2.ensures.cases c.map_err-2.ensures.variant c.in_ok-second.was c.open_feed.ensures.ok in
    subst (λ (s : Shelf). IsSetOf c.args.other.now s c.in_ok-second.second.ops) same other

pub returns-clause-counted : goal.returns-clause-counted
returns-clause-counted g c =
    let first : Shelf = g.F.Files.shelf c.args.files.now in
    let mid : Shelf = g.F.Files.shelf c.open_version.new.files in
    let last : Shelf = g.F.Files.shelf c.open_feed.new.files in
    let one_counted = ok_behind (λ _. mid.failures ≡ first.failures) _ c.open_version.result c.map_err.result c.in_ok-first.first c.map_err.ensures.cases c.map_err.ensures.variant c.in_ok-first.was c.open_version.ensures.counted in
    let other_counted = ok_behind (λ _. last.failures ≡ mid.failures) _ c.open_feed.result c.map_err-2.result c.in_ok-second.second c.map_err-2.ensures.cases c.map_err-2.ensures.variant c.in_ok-second.was c.open_feed.ensures.counted in
    other_counted ∙ one_counted
