use Rattle.std.proofs.Common.{List, ℕ, inl, refl, subst}
use Rattle.std.specs.Prelude.{Option}
use Rattle.std.proofs.lemmas.Result.{err_from_is_err_and}
use Rattle.desk_ops.specs.OpSet.{OpSet}
use Rattle.feed_files.specs.Files.{Shelf}
use Rattle.feed_files.proofs.Shelves.{held_alone}
use Rattle.feed_stored.specs.Stored.{was_read}
use Rattle.feed_sites.specs.Renumbering.{IsDone, IsUndone}
use Rattle.feed_sites.proofs.Done.{held_or_same, unopened}
use Rattle.feed_sites.proofs.renumbering.renumber_feed.Goals as goal

pub returns-in_err-opened-clause-err : goal.returns-in_err-opened-clause-err
returns-in_err-opened-clause-err g c =
    let p = err_from_is_err_and c.from_residual.result c.from_residual.ensures.1 in
    rw p.1 (rw p.2 (unopened c.args.name.now c.args.other.now c.args.site (g.F.Files.shelf c.args.files.now) (g.F.Files.shelf c.open_both.new.files) (g.W.Write.contents c.args.writer.now) c.in_err-opened.field-0.0 c.in_err-opened.ensures.err))

pub returns-in_err-opened-clause-held : goal.returns-in_err-opened-clause-held
returns-in_err-opened-clause-held g c = held_or_same c.args.name.now (g.F.Files.shelf c.args.files.now) (g.F.Files.shelf c.open_both.new.files) c.args.writer.now c.open_both.ensures.held

pub returns-in_err-made-clause-err : goal.returns-in_err-made-clause-err
returns-in_err-made-clause-err g c =
    let p = err_from_is_err_and c.from_residual-in_err-made.result c.from_residual-in_err-made.ensures.1 in
    rw p.1 (rw p.2 (refl, was_read c.in_ok-opened.opened.old, c.in_ok-opened.opened.feed.ops, c.in_ok-opened.opened.other.ops, c.in_ok-opened.ensures.ok, c.in_err-made.ensures.err))

pub returns-in_err-made-clause-held : goal.returns-in_err-made-clause-held
returns-in_err-made-clause-held g c = held_or_same c.args.name.now (g.F.Files.shelf c.args.files.now) (g.F.Files.shelf c.open_both.new.files) c.args.writer.now c.open_both.ensures.held

pub returns-in_err-finish-clause-err : goal.returns-in_err-finish-clause-err
returns-in_err-finish-clause-err g c =
    let held : Shelf = g.F.Files.shelf c.open_both.new.files in
    let last : Shelf = g.F.Files.shelf c.finish.new.files in
    let before : Option (List ℕ) = g.W.Write.contents c.args.writer.now in
    let after : Option (List ℕ) = g.W.Write.contents c.finish.new.writer in
    let undone = subst (λ (now : OpSet). IsUndone c.args.name.now c.in_ok-opened.opened.feed.ops now c.in_ok-made.made.moved.ops held last before after c.in_err-finish.field-0.0) c.in_ok-made.ensures.made c.in_err-finish.ensures.err in
    let p = err_from_is_err_and c.from_residual-in_err-finish.result c.from_residual-in_err-finish.ensures.1 in
    rw p.1 (rw p.2 (held, was_read c.in_ok-opened.opened.old, c.in_ok-opened.opened.feed.ops, c.in_ok-opened.opened.other.ops, c.in_ok-made.made.moved.ops, c.in_ok-opened.ensures.ok, c.in_ok-made.ensures.moved, undone))

pub returns-in_err-finish-clause-held : goal.returns-in_err-finish-clause-held
returns-in_err-finish-clause-held g c =
    inl (held_alone c.args.name.now (g.F.Files.shelf c.args.files.now) (g.F.Files.shelf c.open_both.new.files) (g.F.Files.shelf c.finish.new.files) c.in_ok-opened.ensures.ok.taken.0 c.finish.ensures.held)

pub returns-clause-ok : goal.returns-clause-ok
returns-clause-ok g c =
    let held : Shelf = g.F.Files.shelf c.open_both.new.files in
    let last : Shelf = g.F.Files.shelf c.finish.new.files in
    let before : Option (List ℕ) = g.W.Write.contents c.args.writer.now in
    let after : Option (List ℕ) = g.W.Write.contents c.finish.new.writer in
    let done = subst (λ (now : OpSet). IsDone c.args.name.now c.in_ok-opened.opened.feed.ops now c.in_ok-made.made.moved.ops (was_read c.in_ok-opened.opened.old) held last before after) c.in_ok-made.ensures.made c.in_ok-finish.ensures.ok in
    (held, was_read c.in_ok-opened.opened.old, c.in_ok-opened.opened.feed.ops, c.in_ok-opened.opened.other.ops, c.in_ok-made.made.moved.ops, c.in_ok-opened.ensures.ok, c.in_ok-made.ensures.moved, done)

pub returns-clause-held : goal.returns-clause-held
returns-clause-held g c =
    inl (held_alone c.args.name.now (g.F.Files.shelf c.args.files.now) (g.F.Files.shelf c.open_both.new.files) (g.F.Files.shelf c.finish.new.files) c.in_ok-opened.ensures.ok.taken.0 c.finish.ensures.held)
