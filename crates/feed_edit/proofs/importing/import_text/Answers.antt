use Rattle.std.proofs.Common.{inl, refl, subst}
use Rattle.std.proofs.lemmas.Result.{err_from_is_err_and}
use Rattle.feed_files.proofs.Shelves.{held_alone}
use Rattle.feed_files.specs.Files.{HoldsOn, Shelf}
use Rattle.feed_stored.specs.Stored.{was_read}
use Rattle.feed_edit.specs.Importing.{RefusesText, TakesText}
use Rattle.feed_edit.specs.Room.{IsBarredHere, IsOpenedHere}
use Rattle.feed_stored.specs.Room.{IsKeptOut, IsLetIn, IsMarked, is_compared}
use Rattle.feed_stored.proofs.Rooms.{holds_through}
use Rattle.feed_edit.proofs.Unimported.{unimported}
use Rattle.feed_edit.proofs.importing.import_text.Goals as goal

pub returns-in_err-old-clause-err : goal.returns-in_err-old-clause-err
returns-in_err-old-clause-err g c =
    let p = err_from_is_err_and c.from_residual.result c.from_residual.ensures.1 in
    rw p.1 (rw p.2 (refl, c.in_err-old.ensures.err))

-- ---- the feed was not let in

pub returns-in_err-let_in-clause-err : goal.returns-in_err-let_in-clause-err
returns-in_err-let_in-clause-err g c =
    let p = err_from_is_err_and c.from_residual-in_err-let_in.result c.from_residual-in_err-let_in.ensures.1 in
    let taken : Shelf = g.F.Files.shelf c.take_feed.new.files in
    let out = subst (λ n. IsKeptOut c.args.room.feed.now n (is_compared c.args.room.older (was_read c.in_ok-old.old)) c.in_ok-old.replica.ops taken (g.F.Files.shelf c.let_in.new.files) c.in_err-let_in.field-0.0) c.in_ok-old.ensures.site c.in_err-let_in.ensures.err in
    let barred : IsBarredHere c.args.room (g.F.Files.shelf c.args.files.now) (g.F.Files.shelf c.let_in.new.files) c.in_err-let_in.field-0.0 = (taken, was_read c.in_ok-old.old, c.in_ok-old.replica.ops, c.in_ok-old.ensures.ok, out) in
    rw p.1 (rw p.2 (refl, barred))

pub returns-in_err-let_in-clause-held : goal.returns-in_err-let_in-clause-held
returns-in_err-let_in-clause-held g c =
    inl (held_alone c.args.room.feed.now (g.F.Files.shelf c.args.files.now) (g.F.Files.shelf c.take_feed.new.files) (g.F.Files.shelf c.let_in.new.files) c.in_ok-old.ensures.ok.0 (inl c.let_in.ensures.stays.2))

pub returns-in_err-let_in-clause-left : goal.returns-in_err-let_in-clause-left
returns-in_err-let_in-clause-left g c =
    let p = err_from_is_err_and c.from_residual-in_err-let_in.result c.from_residual-in_err-let_in.ensures.1 in
    rw p.1 (rw p.2 refl)

-- ---- the copy was not made the text

pub returns-in_err-tally-clause-err : goal.returns-in_err-tally-clause-err
returns-in_err-tally-clause-err g c =
    let p = err_from_is_err_and c.from_residual-in_err-tally.result c.from_residual-in_err-tally.ensures.1 in
    let taken : Shelf = g.F.Files.shelf c.take_feed.new.files in
    let opened : Shelf = g.F.Files.shelf c.let_in.new.files in
    let let_in = subst (λ n. IsLetIn c.args.room.feed.now n (is_compared c.args.room.older (was_read c.in_ok-old.old)) c.in_ok-old.replica.ops taken opened) c.in_ok-old.ensures.site c.in_ok-let_in.ensures.ok in
    let here : IsOpenedHere c.args.room (g.F.Files.shelf c.args.files.now) opened (was_read c.in_ok-old.old) c.in_ok-old.replica.ops = (taken, c.in_ok-old.ensures.ok, let_in) in
    let by = subst (λ n. RefusesText n c.args.mode.plain c.args.mode.all (g.R.Read.remaining c.args.reader.now) c.in_ok-old.replica.ops c.in_err-tally.field-0.0) c.in_ok-old.ensures.site c.in_err-tally.ensures.err in
    rw p.1 (rw p.2 (unimported c.args.room c.args.mode (g.F.Files.shelf c.args.files.now) opened (was_read c.in_ok-old.old) c.in_ok-old.replica.ops (g.R.Read.remaining c.args.reader.now) (g.W.Write.contents c.args.writer.now) c.in_err-tally.field-0.0 here by))

pub returns-in_err-tally-clause-held : goal.returns-in_err-tally-clause-held
returns-in_err-tally-clause-held g c =
    inl (held_alone c.args.room.feed.now (g.F.Files.shelf c.args.files.now) (g.F.Files.shelf c.take_feed.new.files) (g.F.Files.shelf c.let_in.new.files) c.in_ok-old.ensures.ok.0 (inl c.let_in.ensures.stays.2))

pub returns-in_err-tally-clause-left : goal.returns-in_err-tally-clause-left
returns-in_err-tally-clause-left g c =
    let p = err_from_is_err_and c.from_residual-in_err-tally.result c.from_residual-in_err-tally.ensures.1 in
    rw p.1 (rw p.2 c.in_err-tally.ensures.left)

-- ---- the feed was not stored

pub returns-in_err-report_and_keep-clause-err : goal.returns-in_err-report_and_keep-clause-err
returns-in_err-report_and_keep-clause-err g c =
    let p = err_from_is_err_and c.from_residual-in_err-report_and_keep.result c.from_residual-in_err-report_and_keep.ensures.1 in
    let t = c.in_ok-tally.tally in
    let taken : Shelf = g.F.Files.shelf c.take_feed.new.files in
    let opened : Shelf = g.F.Files.shelf c.let_in.new.files in
    let let_in = subst (λ n. IsLetIn c.args.room.feed.now n (is_compared c.args.room.older (was_read c.in_ok-old.old)) c.in_ok-old.replica.ops taken opened) c.in_ok-old.ensures.site c.in_ok-let_in.ensures.ok in
    let here : IsOpenedHere c.args.room (g.F.Files.shelf c.args.files.now) opened (was_read c.in_ok-old.old) c.in_ok-old.replica.ops = (taken, c.in_ok-old.ensures.ok, let_in) in
    let by = subst (λ n. TakesText n c.args.mode.plain c.args.mode.all (g.R.Read.remaining c.args.reader.now) c.in_ok-old.replica.ops c.take_text.new.replica.ops t.inserted t.deleted) c.in_ok-old.ensures.site c.in_ok-tally.ensures.ok in
    rw p.1 (rw p.2 (opened, was_read c.in_ok-old.old, c.in_ok-old.replica.ops, here, c.take_text.new.replica.ops, t.inserted, t.deleted, by, c.in_err-report_and_keep.ensures.err))

pub returns-in_err-report_and_keep-clause-held : goal.returns-in_err-report_and_keep-clause-held
returns-in_err-report_and_keep-clause-held g c =
    let taken : Shelf = g.F.Files.shelf c.take_feed.new.files in
    let opened : Shelf = g.F.Files.shelf c.let_in.new.files in
    let kept : Shelf = g.F.Files.shelf c.report_and_keep.new.files in
    let on : HoldsOn taken.held kept.held = holds_through taken.held opened.held kept.held (inl c.let_in.ensures.stays.2) c.report_and_keep.ensures.held in
    inl (held_alone c.args.room.feed.now (g.F.Files.shelf c.args.files.now) taken kept c.in_ok-old.ensures.ok.0 on)

pub returns-in_err-report_and_keep-clause-left : goal.returns-in_err-report_and_keep-clause-left
returns-in_err-report_and_keep-clause-left g c =
    let p = err_from_is_err_and c.from_residual-in_err-report_and_keep.result c.from_residual-in_err-report_and_keep.ensures.1 in
    rw p.1 (rw p.2 c.in_ok-tally.ensures.end)

-- ---- it was

pub returns-clause-ok : goal.returns-clause-ok
returns-clause-ok g c =
    let t = c.in_ok-tally.tally in
    let taken : Shelf = g.F.Files.shelf c.take_feed.new.files in
    let opened : Shelf = g.F.Files.shelf c.let_in.new.files in
    let let_in = subst (λ n. IsLetIn c.args.room.feed.now n (is_compared c.args.room.older (was_read c.in_ok-old.old)) c.in_ok-old.replica.ops taken opened) c.in_ok-old.ensures.site c.in_ok-let_in.ensures.ok in
    let here : IsOpenedHere c.args.room (g.F.Files.shelf c.args.files.now) opened (was_read c.in_ok-old.old) c.in_ok-old.replica.ops = (taken, c.in_ok-old.ensures.ok, let_in) in
    let by = subst (λ n. TakesText n c.args.mode.plain c.args.mode.all (g.R.Read.remaining c.args.reader.now) c.in_ok-old.replica.ops c.take_text.new.replica.ops t.inserted t.deleted) c.in_ok-old.ensures.site c.in_ok-tally.ensures.ok in
    let marked = subst (λ n. IsMarked c.args.room.feed.now n c.take_text.new.replica.ops (g.F.Files.shelf c.report_and_keep.new.files) (g.F.Files.shelf c.mark.new.files)) (c.in_ok-old.ensures.site) (subst (λ n. IsMarked c.args.room.feed.now n c.take_text.new.replica.ops (g.F.Files.shelf c.report_and_keep.new.files) (g.F.Files.shelf c.mark.new.files)) c.take_text.ensures.site c.mark.ensures.marked) in
    (opened, was_read c.in_ok-old.old, c.in_ok-old.replica.ops, here, c.take_text.new.replica.ops, t.inserted, t.deleted, by, g.F.Files.shelf c.report_and_keep.new.files, c.in_ok-report_and_keep.ensures.ok, marked)

pub returns-clause-spared : goal.returns-clause-spared
returns-clause-spared g c = λ unasked.
    let taken = c.in_ok-tally.ensures.ok in
    (g.F.Files.shelf c.take_feed.new.files, was_read c.in_ok-old.old, c.in_ok-old.replica.ops, c.in_ok-old.ensures.ok, taken.0, taken.1, c.in_ok-tally.tally.inserted, c.in_ok-tally.tally.deleted, c.in_ok-report_and_keep.ensures.ok.0, taken.3 unasked)

pub returns-clause-held : goal.returns-clause-held
returns-clause-held g c =
    let taken : Shelf = g.F.Files.shelf c.take_feed.new.files in
    let opened : Shelf = g.F.Files.shelf c.let_in.new.files in
    let kept : Shelf = g.F.Files.shelf c.report_and_keep.new.files in
    let last : Shelf = g.F.Files.shelf c.mark.new.files in
    let on : HoldsOn taken.held kept.held = holds_through taken.held opened.held kept.held (inl c.let_in.ensures.stays.2) c.report_and_keep.ensures.held in
    inl (held_alone c.args.room.feed.now (g.F.Files.shelf c.args.files.now) taken last c.in_ok-old.ensures.ok.0 (holds_through taken.held kept.held last.held on c.mark.ensures.held))
