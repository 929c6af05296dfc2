use Rattle.std.proofs.Common.{inl, subst, sym}
use Rattle.std.proofs.lemmas.Result.{err_from_is_err_and}
use Rattle.feed_files.specs.Files.{Shelf}
use Rattle.feed_files.proofs.Shelves.{held_alone, same_shelf}
use Rattle.feed_stored.specs.Stored.{was_read}
use Rattle.feed_edit.specs.Exporting.{IsSetOf}
use Rattle.feed_edit.specs.Merging.{IsOpened}
use Rattle.feed_sites.proofs.renumbering.open_both.Goals as goal

pub returns-in_err-old-clause-err : goal.returns-in_err-old-clause-err
returns-in_err-old-clause-err g c =
    let p = err_from_is_err_and c.from_residual.result c.from_residual.ensures.1 in
    rw p.1 (rw p.2 c.in_err-old.ensures.err)

pub returns-in_err-other-clause-err : goal.returns-in_err-other-clause-err
returns-in_err-other-clause-err g c =
    let p = err_from_is_err_and c.from_residual-in_err-other.result c.from_residual-in_err-other.ensures.1 in
    rw p.1 (rw p.2 (g.F.Files.shelf c.take_feed.new.files, was_read c.in_ok-old.old, c.in_ok-old.feed.ops, c.in_ok-old.ensures.ok, c.open_feed.ensures.stays, c.in_err-other.ensures.err))

pub returns-in_err-other-clause-held : goal.returns-in_err-other-clause-held
returns-in_err-other-clause-held g c =
    inl (held_alone c.args.name.now (g.F.Files.shelf c.args.files.now) (g.F.Files.shelf c.take_feed.new.files) (g.F.Files.shelf c.open_feed.new.files) c.in_ok-old.ensures.ok.0 (inl c.open_feed.ensures.stays.2))

pub returns-clause-ok : goal.returns-clause-ok
returns-clause-ok g c =
    let first : Shelf = g.F.Files.shelf c.args.files.now in
    let mid : Shelf = g.F.Files.shelf c.take_feed.new.files in
    let last : Shelf = g.F.Files.shelf c.open_feed.new.files in
    let same = same_shelf mid last c.open_feed.ensures.stays c.in_ok-other.ensures.counted in
    record {
      taken = subst (λ (s : Shelf). IsOpened c.args.name.now first s (was_read c.in_ok-old.old) c.in_ok-old.feed.ops) (sym same) c.in_ok-old.ensures.ok;
      there = subst (λ (s : Shelf). IsSetOf c.args.other.now s c.in_ok-other.other.ops) (sym same) c.in_ok-other.ensures.ok;
    }

pub returns-clause-held : goal.returns-clause-held
returns-clause-held g c =
    inl (held_alone c.args.name.now (g.F.Files.shelf c.args.files.now) (g.F.Files.shelf c.take_feed.new.files) (g.F.Files.shelf c.open_feed.new.files) c.in_ok-old.ensures.ok.0 (inl c.open_feed.ensures.stays.2))
