use Rattle.std.proofs.Common.{◌∙◌, ◌≡◌, ℕ, inl, inr, refl, rules, subst, sym, false, true}
use Rattle.std.proofs.lemmas.Result.{err_from_is_err_and}
use Rattle.feed_files.specs.Files.{HoldsOn, Shelf}
use Rattle.feed_files.proofs.Shelves.{held_alone, holds_on}
use Rattle.feed_stored.proofs.Rooms.{holds_through}
use Rattle.feed_stored.specs.Room.{is_compared}
use Rattle.feed_stored.specs.Room as of_set
use Rattle.feed_stored.specs.Stored.{was_read}
use Rattle.desk_script.specs.Desk.{desk}
use Rattle.desk_script.specs.FeedRun.{IsBroken, IsCutOff, IsEntered, IsKeptOut, IsLetIn}
use Rattle.desk_script.specs.declared.sheet_fault.SheetFault.{SheetFault}
use Rattle.desk_script.specs.Fault.{of_file}
use Rattle.desk_script.proofs.Feeds.{barred_of, broken_not_older, is_there, run_not_older, when_not, when_so}
use Rattle.desk_script.proofs.feed_run.on_feed.Goals as goal

-- ---- the feed was not taken

pub returns-in_err-old-clause-err : goal.returns-in_err-old-clause-err
returns-in_err-old-clause-err g c =
    let p = err_from_is_err_and c.from_residual.result c.from_residual.ensures.1 in
    rw p.1 (inl (refl, c.in_err-old.field-0.0, p.2, c.in_err-old.ensures.err))

pub returns-in_err-old-clause-left : goal.returns-in_err-old-clause-left
returns-in_err-old-clause-left g c =
    let p = err_from_is_err_and c.from_residual.result c.from_residual.ensures.1 in
    rw p.1 (inl (refl, barred_of c.args.feed.room.feed.now (g.F.Files.shelf c.args.files.now) (g.F.Files.shelf c.take_feed.new.files) p.0 c.in_err-old.field-0.0 p.2 c.in_err-old.ensures.err))

pub returns-in_err-old-clause-unread : goal.returns-in_err-old-clause-unread
returns-in_err-old-clause-unread g c =
    let p = err_from_is_err_and c.from_residual.result c.from_residual.ensures.1 in
    rw p.1 (λ made had is. absurd (run_not_older _ made had (sym p.2 ∙ is)))

-- ---- it was not let in

pub replica_at-requires : goal.replica_at-requires
replica_at-requires g c = is_there c.args.feed.room.site c.in_ok-old.ensures.ok.2.2 c.in_ok-old.world c.in_ok-old.world c.in_ok-old.ensures.ok.2.5 (λ n set there. (set, there))

pub returns-in_err-let_in-clause-err : goal.returns-in_err-let_in-clause-err
returns-in_err-let_in-clause-err g c =
    let compared = is_compared c.args.feed.room.older (was_read c.in_ok-old.old) in
    let start = desk c.in_ok-old.world (g.F.Files.shelf c.take_feed.new.files) in
    let last : Shelf = g.F.Files.shelf c.let_in.new.files in
    let site = c.replica_at.result.now in
    let why = c.in_err-let_in.field-0.0 in
    let p = err_from_is_err_and c.from_residual-in_err-let_in.result c.from_residual-in_err-let_in.ensures.1 in
    let out : IsKeptOut c.args.feed.room.feed.now c.args.feed.room.site compared start last why =
    (site.ops, c.replica_at.ensures.ops, subst (λ (n : ℕ). of_set.IsKeptOut c.args.feed.room.feed.now n compared site.ops start.shelf last why) c.replica_at.ensures.number c.in_err-let_in.ensures.err) in
    rw p.1 (inr (inl (refl, why, p.2, (was_read c.in_ok-old.old, start, c.in_ok-old.ensures.ok, out))))

pub returns-in_err-let_in-clause-left : goal.returns-in_err-let_in-clause-left
returns-in_err-let_in-clause-left g c =
    let p = err_from_is_err_and c.from_residual-in_err-let_in.result c.from_residual-in_err-let_in.ensures.1 in
    rw p.1 (inl (refl, inr (inr (c.in_err-let_in.field-0.0, p.2))))

pub returns-in_err-let_in-clause-unread : goal.returns-in_err-let_in-clause-unread
returns-in_err-let_in-clause-unread g c =
    let p = err_from_is_err_and c.from_residual-in_err-let_in.result c.from_residual-in_err-let_in.ensures.1 in
    rw p.1 (λ made had is. (refl, refl))

pub returns-in_err-let_in-clause-held : goal.returns-in_err-let_in-clause-held
returns-in_err-let_in-clause-held g c =
    inl (held_alone c.args.feed.room.feed.now (g.F.Files.shelf c.args.files.now) c.in_ok-old.ensures.ok.0 (g.F.Files.shelf c.let_in.new.files) c.in_ok-old.ensures.ok.1 (inl (c.let_in.ensures.stays.2 ∙ c.in_ok-old.ensures.ok.2.6.2)))

-- ---- not all lines were answered

pub returns-in_err-answer_lines-clause-err : goal.returns-in_err-answer_lines-clause-err
returns-in_err-answer_lines-clause-err g c =
    let compared = is_compared c.args.feed.room.older (was_read c.in_ok-old.old) in
    let start = desk c.in_ok-old.world (g.F.Files.shelf c.take_feed.new.files) in
    let begun = desk c.in_ok-old.world (g.F.Files.shelf c.let_in.new.files) in
    let site = c.replica_at.result.now in
    let guarded : IsLetIn c.args.feed.room.feed.now c.args.feed.room.site compared start begun.shelf =
    (site.ops, c.replica_at.ensures.ops, subst (λ (n : ℕ). of_set.IsLetIn c.args.feed.room.feed.now n compared site.ops start.shelf begun.shelf) c.replica_at.ensures.number c.in_ok-let_in.ensures.ok) in
    let entered : IsEntered c.args.feed.room.feed.now c.args.feed.room.site c.args.feed.room.older (g.F.Files.shelf c.args.files.now) (was_read c.in_ok-old.old) begun = (start, c.in_ok-old.ensures.ok, refl, guarded) in
    let new = desk c.answer_lines.new.world (g.F.Files.shelf c.answer_lines.new.files) in
    let p = err_from_is_err_and c.from_residual-in_err-answer_lines.result c.from_residual-in_err-answer_lines.ensures.1 in
    let broken = subst (λ (f : SheetFault). IsBroken c.args.mode begun new (g.R.Read.remaining c.args.reader.now) (g.W.Write.contents c.args.writer.now) (g.W.Write.contents c.answer_lines.new.writer) f) (sym p.2) c.in_err-answer_lines.ensures.err in
    rw p.1 (inr (inr (was_read c.in_ok-old.old, begun, entered, new, c.answer_lines.ensures.stays, inl (broken, refl))))

pub returns-in_err-answer_lines-clause-left : goal.returns-in_err-answer_lines-clause-left
returns-in_err-answer_lines-clause-left g c =
    let p = err_from_is_err_and c.from_residual-in_err-answer_lines.result c.from_residual-in_err-answer_lines.ensures.1 in
    rw p.1 (inr (inl (subst (λ (f : SheetFault). IsCutOff c.args.mode (g.R.Read.remaining c.args.reader.now) (g.R.Read.remaining c.answer_lines.new.reader) f) (sym p.2) c.in_err-answer_lines.ensures.left)))

pub returns-in_err-answer_lines-clause-unread : goal.returns-in_err-answer_lines-clause-unread
returns-in_err-answer_lines-clause-unread g c =
    let begun = desk c.in_ok-old.world (g.F.Files.shelf c.let_in.new.files) in
    let new = desk c.answer_lines.new.world (g.F.Files.shelf c.answer_lines.new.files) in
    let p = err_from_is_err_and c.from_residual-in_err-answer_lines.result c.from_residual-in_err-answer_lines.ensures.1 in
    rw p.1 (λ made had is. absurd (broken_not_older c.args.mode begun new (g.R.Read.remaining c.args.reader.now) (g.W.Write.contents c.args.writer.now) (g.W.Write.contents c.answer_lines.new.writer) made had
    (subst (λ (f : SheetFault). IsBroken c.args.mode begun new (g.R.Read.remaining c.args.reader.now) (g.W.Write.contents c.args.writer.now) (g.W.Write.contents c.answer_lines.new.writer) f) (sym p.2 ∙ is) c.in_err-answer_lines.ensures.err)))

pub returns-in_err-answer_lines-clause-held : goal.returns-in_err-answer_lines-clause-held
returns-in_err-answer_lines-clause-held g c =
    inl (held_alone c.args.feed.room.feed.now (g.F.Files.shelf c.args.files.now) c.in_ok-old.ensures.ok.0 (g.F.Files.shelf c.answer_lines.new.files) c.in_ok-old.ensures.ok.1 (inl (c.answer_lines.ensures.stays.2 ∙ c.let_in.ensures.stays.2 ∙ c.in_ok-old.ensures.ok.2.6.2)))

-- ---- the feed is stored, or not

pub replica_at-replica-requires : goal.replica_at-replica-requires
replica_at-replica-requires g c = is_there c.args.feed.room.site c.in_ok-old.ensures.ok.2.2 c.in_ok-old.world c.answer_lines.new.world c.in_ok-old.ensures.ok.2.5 c.in_ok-answer_lines.ensures.sites

pub returns-in_err-keep_replica-clause-err : goal.returns-in_err-keep_replica-clause-err
returns-in_err-keep_replica-clause-err g c =
    let compared = is_compared c.args.feed.room.older (was_read c.in_ok-old.old) in
    let start = desk c.in_ok-old.world (g.F.Files.shelf c.take_feed.new.files) in
    let begun = desk c.in_ok-old.world (g.F.Files.shelf c.let_in.new.files) in
    let site = c.replica_at.result.now in
    let guarded : IsLetIn c.args.feed.room.feed.now c.args.feed.room.site compared start begun.shelf =
    (site.ops, c.replica_at.ensures.ops, subst (λ (n : ℕ). of_set.IsLetIn c.args.feed.room.feed.now n compared site.ops start.shelf begun.shelf) c.replica_at.ensures.number c.in_ok-let_in.ensures.ok) in
    let entered : IsEntered c.args.feed.room.feed.now c.args.feed.room.site c.args.feed.room.older (g.F.Files.shelf c.args.files.now) (was_read c.in_ok-old.old) begun = (start, c.in_ok-old.ensures.ok, refl, guarded) in
    let new = desk c.answer_lines.new.world (g.F.Files.shelf c.answer_lines.new.files) in
    let p = err_from_is_err_and c.from_residual-in_err-keep_replica.result c.from_residual-in_err-keep_replica.ensures.1 in
    rw p.1 (inr (inr (was_read c.in_ok-old.old, begun, entered, new, c.answer_lines.ensures.stays, inr (c.in_ok-answer_lines.ensures.ok, c.in_err-keep_replica.field-0.0, p.2, c.in_err-keep_replica.ensures.err))))

pub returns-in_err-keep_replica-clause-left : goal.returns-in_err-keep_replica-clause-left
returns-in_err-keep_replica-clause-left g c =
    let p = err_from_is_err_and c.from_residual-in_err-keep_replica.result c.from_residual-in_err-keep_replica.ensures.1 in
    rw p.1 (inr (inr (c.in_err-keep_replica.field-0.0, p.2, c.in_ok-answer_lines.ensures.end)))

pub returns-in_err-keep_replica-clause-unread : goal.returns-in_err-keep_replica-clause-unread
returns-in_err-keep_replica-clause-unread g c =
    let p = err_from_is_err_and c.from_residual-in_err-keep_replica.result c.from_residual-in_err-keep_replica.ensures.1 in
    rw p.1 (λ made had is. absurd (run_not_older (of_file c.in_err-keep_replica.field-0.0) made had (sym p.2 ∙ is)))

pub returns-in_err-keep_replica-clause-held : goal.returns-in_err-keep_replica-clause-held
returns-in_err-keep_replica-clause-held g c =
    let held : Shelf = c.in_ok-old.ensures.ok.0 in
    let mid : Shelf = g.F.Files.shelf c.answer_lines.new.files in
    let kept : Shelf = g.F.Files.shelf c.keep_replica.new.files in
    let on : HoldsOn held.held kept.held = holds_on held.held mid.held kept.held (c.answer_lines.ensures.stays.2 ∙ c.let_in.ensures.stays.2 ∙ c.in_ok-old.ensures.ok.2.6.2) c.keep_replica.ensures.held in
    inl (held_alone c.args.feed.room.feed.now (g.F.Files.shelf c.args.files.now) held kept c.in_ok-old.ensures.ok.1 on)

pub returns-then-not-feed-clause-ok : goal.returns-then-not-feed-clause-ok
returns-then-not-feed-clause-ok g c =
    let compared = is_compared c.args.feed.room.older (was_read c.in_ok-old.old) in
    let start = desk c.in_ok-old.world (g.F.Files.shelf c.take_feed.new.files) in
    let begun = desk c.in_ok-old.world (g.F.Files.shelf c.let_in.new.files) in
    let site = c.replica_at.result.now in
    let guarded : IsLetIn c.args.feed.room.feed.now c.args.feed.room.site compared start begun.shelf =
    (site.ops, c.replica_at.ensures.ops, subst (λ (n : ℕ). of_set.IsLetIn c.args.feed.room.feed.now n compared site.ops start.shelf begun.shelf) c.replica_at.ensures.number c.in_ok-let_in.ensures.ok) in
    let entered : IsEntered c.args.feed.room.feed.now c.args.feed.room.site c.args.feed.room.older (g.F.Files.shelf c.args.files.now) (was_read c.in_ok-old.old) begun = (start, c.in_ok-old.ensures.ok, refl, guarded) in
    let new = desk c.answer_lines.new.world (g.F.Files.shelf c.answer_lines.new.files) in
    let stored : Shelf = g.F.Files.shelf c.keep_replica.new.files in
    let last = c.replica_at-replica.result.now in
    let off : c.args.feed.marks ≡ false = search rules in
    (was_read c.in_ok-old.old, begun, entered, new, c.answer_lines.ensures.stays, c.in_ok-answer_lines.ensures.ok, stored, (last.ops, c.replica_at-replica.ensures.ops, c.in_ok-keep_replica.ensures.ok), when_not c.args.feed.marks _ _ off refl)

pub returns-then-not-feed-clause-held : goal.returns-then-not-feed-clause-held
returns-then-not-feed-clause-held g c =
    let held : Shelf = c.in_ok-old.ensures.ok.0 in
    let mid : Shelf = g.F.Files.shelf c.answer_lines.new.files in
    let kept : Shelf = g.F.Files.shelf c.keep_replica.new.files in
    let on : HoldsOn held.held kept.held = holds_on held.held mid.held kept.held (c.answer_lines.ensures.stays.2 ∙ c.let_in.ensures.stays.2 ∙ c.in_ok-old.ensures.ok.2.6.2) c.keep_replica.ensures.held in
    inl (held_alone c.args.feed.room.feed.now (g.F.Files.shelf c.args.files.now) held kept c.in_ok-old.ensures.ok.1 on)

pub returns-clause-ok : goal.returns-clause-ok
returns-clause-ok g c =
    let compared = is_compared c.args.feed.room.older (was_read c.in_ok-old.old) in
    let start = desk c.in_ok-old.world (g.F.Files.shelf c.take_feed.new.files) in
    let begun = desk c.in_ok-old.world (g.F.Files.shelf c.let_in.new.files) in
    let site = c.replica_at.result.now in
    let guarded : IsLetIn c.args.feed.room.feed.now c.args.feed.room.site compared start begun.shelf =
    (site.ops, c.replica_at.ensures.ops, subst (λ (n : ℕ). of_set.IsLetIn c.args.feed.room.feed.now n compared site.ops start.shelf begun.shelf) c.replica_at.ensures.number c.in_ok-let_in.ensures.ok) in
    let entered : IsEntered c.args.feed.room.feed.now c.args.feed.room.site c.args.feed.room.older (g.F.Files.shelf c.args.files.now) (was_read c.in_ok-old.old) begun = (start, c.in_ok-old.ensures.ok, refl, guarded) in
    let new = desk c.answer_lines.new.world (g.F.Files.shelf c.answer_lines.new.files) in
    let stored : Shelf = g.F.Files.shelf c.keep_replica.new.files in
    let last = c.replica_at-replica.result.now in
    let on : c.args.feed.marks ≡ true = search rules in
    let marked = subst (λ (n : ℕ). of_set.IsMarked c.args.feed.room.feed.now n last.ops stored (g.F.Files.shelf c.mark.new.files)) c.replica_at-replica.ensures.number c.mark.ensures.marked in
    (was_read c.in_ok-old.old, begun, entered, new, c.answer_lines.ensures.stays, c.in_ok-answer_lines.ensures.ok, stored, (last.ops, c.replica_at-replica.ensures.ops, c.in_ok-keep_replica.ensures.ok), when_so c.args.feed.marks _ _ on (last.ops, c.replica_at-replica.ensures.ops, marked))

pub returns-clause-held : goal.returns-clause-held
returns-clause-held g c =
    let held : Shelf = c.in_ok-old.ensures.ok.0 in
    let mid : Shelf = g.F.Files.shelf c.answer_lines.new.files in
    let kept : Shelf = g.F.Files.shelf c.keep_replica.new.files in
    let on : HoldsOn held.held kept.held = holds_on held.held mid.held kept.held (c.answer_lines.ensures.stays.2 ∙ c.let_in.ensures.stays.2 ∙ c.in_ok-old.ensures.ok.2.6.2) c.keep_replica.ensures.held in
    let last : Shelf = g.F.Files.shelf c.mark.new.files in
    inl (held_alone c.args.feed.room.feed.now (g.F.Files.shelf c.args.files.now) held last c.in_ok-old.ensures.ok.1 (holds_through held.held kept.held last.held on c.mark.ensures.held))
