use Rattle.std.proofs.Common.{◌≡◌, ◌≤◌, List, ℕ, length, inl, inr, refl, subst, sym}
use Rattle.std.proofs.lemmas.Result.{err_from_is_err_and}
use Rattle.feed_files.proofs.Shelves.{same_shelf}
use Rattle.view_punch.specs.Joining.{AreJoined, IsUnjoined}
use Rattle.view_punch.proofs.AllRows.{has_head, unjoined}
use Rattle.view_punch.proofs.punching.add_feed.Goals as goal

pub returns-in-Err-clause-err : goal.returns-in-Err-clause-err
returns-in-Err-clause-err g c = λ rows is. inl (refl, c.in-Err.why, refl, c.in-Err.ensures.err)

pub join-requires-clause-next : goal.join-requires-clause-next
join-requires-clause-next g c =
    let made = c.in_ok-next.ensures.ok in
    subst (λ (l : List ℕ). 8 ≤ length l) (sym c.deref.ensures.value) (has_head c.in_ok-next.next.items made.0 made.2)

pub returns-in_err-next-clause-err : goal.returns-in_err-next-clause-err
returns-in_err-next-clause-err g c =
    let still = same_shelf (g.F.Files.shelf c.args.files.now) (g.F.Files.shelf c.open_feed.new.files) c.open_feed.ensures.stays c.in-Ok.ensures.counted in
    let p = err_from_is_err_and c.from_residual.result c.from_residual.ensures.1 in
    rw p.1 (rw p.2 (λ rows is. inr (inl (still, c.in-Ok.replica.ops, c.in-Ok.ensures.ok, c.in_err-next.ensures.err))))

pub returns-in_err-join-clause-err : goal.returns-in_err-join-clause-err
returns-in_err-join-clause-err g c =
    let still = same_shelf (g.F.Files.shelf c.args.files.now) (g.F.Files.shelf c.open_feed.new.files) c.open_feed.ensures.stays c.in-Ok.ensures.counted in
    let m = c.args.means.now in
    let next = c.in_ok-next in
    let why = c.in_err-join.field-0.0 in
    let bad = subst (λ (l : List ℕ). IsUnjoined c.args.joined.now.items l why) c.deref.ensures.value c.in_err-join.ensures.err in
    let p = err_from_is_err_and c.from_residual-in_err-join.result c.from_residual-in_err-join.ensures.1 in
    rw p.1 (rw p.2 (unjoined m.faulty m.case.now m.wedge.now (g.F.Files.shelf c.args.files.now) c.args.feed.now c.args.joined.now.items next.next.items (g.F.Files.shelf c.open_feed.new.files) (g.W.Write.contents c.args.writer.now) (g.W.Write.contents c.ribbon_of.new.writer) why still next.ensures.silent
    (c.in-Ok.replica.ops, c.in-Ok.ensures.ok, next.ensures.ok, next.ensures.cast) bad))

pub returns-clause-ok : goal.returns-clause-ok
returns-clause-ok g c =
    let next = c.in_ok-next in
    let joined = subst (λ (l : List ℕ). AreJoined c.args.joined.now.items l c.join.new.joined.items) c.deref.ensures.value c.in_ok-join.ensures.ok in
    (next.next.items, (c.in-Ok.replica.ops, c.in-Ok.ensures.ok, next.ensures.ok, next.ensures.cast), joined)
