use Rattle.std.proofs.Common.{◌++◌, ◌∙◌, inl, map, refl, subst}
use Rattle.std.proofs.lemmas.Result.{err_from_is_err_and}
use Rattle.feed_files.specs.Files.{Shelf}
use Rattle.feed_files.proofs.Shelves.{held_alone, holds_on, same_shelf}
use Rattle.desk_codec.specs.Runs.{set_feed}
use Rattle.feed_stored.specs.Stored.{IsStoredAs, was_read}
use Rattle.feed_edit.specs.Forks.{IsAllowed}
use Rattle.feed_edit.proofs.Unmerged.{unmerged}
use Rattle.feed_edit.specs.Keeping.{IsKept, IsUnkept}
use Rattle.feed_edit.specs.Merging.{StopsJoining, faults_line}
use Rattle.feed_edit.proofs.merging.merge_feeds.Goals as goal

pub returns-in_err-old-clause-err : goal.returns-in_err-old-clause-err
returns-in_err-old-clause-err g c =
    let p = err_from_is_err_and c.from_residual.result c.from_residual.ensures.1 in
    rw p.1 (rw p.2 (refl, c.in_err-old.ensures.err))

pub returns-in_err-out-clause-err : goal.returns-in_err-out-clause-err
returns-in_err-out-clause-err g c =
    let p = err_from_is_err_and c.from_residual-in_err-out.result c.from_residual-in_err-out.ensures.1 in
    let others = map (λ n. n.now) c.args.others.now in
    let stops = subst (λ b. StopsJoining others b c.in_ok-old.replica.ops (g.F.Files.shelf c.take_known.new.files) (g.F.Files.shelf c.join_files.new.files) c.in_err-out.field-0.0) c.in_ok-old.ensures.forks c.in_err-out.ensures.err in
    rw p.1 (rw p.2 (unmerged c.args.name.now others c.args.forks (g.F.Files.shelf c.args.files.now) (g.F.Files.shelf c.take_known.new.files) (g.F.Files.shelf c.join_files.new.files) (was_read c.in_ok-old.old) c.in_ok-old.replica.ops
    (g.W.Write.contents c.args.writer.now) c.in_err-out.field-0.0 c.in_ok-old.ensures.ok stops))

pub returns-in_err-put_faults-clause-err : goal.returns-in_err-put_faults-clause-err
returns-in_err-put_faults-clause-err g c =
    let p = err_from_is_err_and c.from_residual-in_err-put_faults.result c.from_residual-in_err-put_faults.ensures.1 in
    let allowed = (subst (λ b. IsAllowed b c.in_ok-old.replica.ops c.join_files.new.replica.ops) c.in_ok-old.ensures.forks c.in_ok-out.ensures.allowed) in
    let same = same_shelf (g.F.Files.shelf c.take_known.new.files) (g.F.Files.shelf c.join_files.new.files) c.join_files.ensures.stays c.in_ok-out.ensures.counted in
    rw p.1 (rw p.2 (g.F.Files.shelf c.take_known.new.files, was_read c.in_ok-old.old, c.in_ok-old.replica.ops, c.in_ok-old.ensures.ok, c.join_files.new.replica.ops, c.in_ok-out.out.items, c.in_ok-out.clean, c.in_ok-out.ensures.ok, allowed, (same, refl)))

pub returns-in_err-write_and_keep-clause-err : goal.returns-in_err-write_and_keep-clause-err
returns-in_err-write_and_keep-clause-err g c =
    let p = err_from_is_err_and c.from_residual-in_err-write_and_keep.result c.from_residual-in_err-write_and_keep.ensures.1 in
    let allowed = (subst (λ b. IsAllowed b c.in_ok-old.replica.ops c.join_files.new.replica.ops) c.in_ok-old.ensures.forks c.in_ok-out.ensures.allowed) in
    let same = same_shelf (g.F.Files.shelf c.take_known.new.files) (g.F.Files.shelf c.join_files.new.files) c.join_files.ensures.stays c.in_ok-out.ensures.counted in
    let reported = subst
    (λ t. IsUnkept c.args.name.now t (g.F.Files.shelf c.join_files.new.files) (g.F.Files.shelf c.write_and_keep.new.files) (g.W.Write.contents c.args.writer.now) (g.W.Write.contents c.write_and_keep.new.writer) c.in_err-write_and_keep.field-0.0)
    (c.deref.ensures.value ∙ c.in_ok-put_faults.ensures) c.in_err-write_and_keep.ensures.err in
    let unkept = subst
    (λ (s : Shelf). IsUnkept c.args.name.now (c.in_ok-out.out.items ++ faults_line c.join_files.new.replica.ops) s (g.F.Files.shelf c.write_and_keep.new.files) (g.W.Write.contents c.args.writer.now) (g.W.Write.contents c.write_and_keep.new.writer) c.in_err-write_and_keep.field-0.0) same reported in
    rw p.1 (rw p.2 (g.F.Files.shelf c.take_known.new.files, was_read c.in_ok-old.old, c.in_ok-old.replica.ops, c.in_ok-old.ensures.ok, c.join_files.new.replica.ops, c.in_ok-out.out.items, c.in_ok-out.clean, c.in_ok-out.ensures.ok, allowed, unkept))

pub returns-clause-ok : goal.returns-clause-ok
returns-clause-ok g c =
    let allowed = (subst (λ b. IsAllowed b c.in_ok-old.replica.ops c.join_files.new.replica.ops) c.in_ok-old.ensures.forks c.in_ok-out.ensures.allowed) in
    let same = same_shelf (g.F.Files.shelf c.take_known.new.files) (g.F.Files.shelf c.join_files.new.files) c.join_files.ensures.stays c.in_ok-out.ensures.counted in
    let reported = subst
    (λ t. IsKept c.args.name.now c.join_files.new.replica.ops t (was_read c.in_ok-old.old) (g.F.Files.shelf c.join_files.new.files) (g.F.Files.shelf c.write_and_keep.new.files) (g.W.Write.contents c.args.writer.now) (g.W.Write.contents c.write_and_keep.new.writer))
    (c.deref.ensures.value ∙ c.in_ok-put_faults.ensures) c.in_ok-write_and_keep.ensures.ok in
    let kept = subst
    (λ (s : Shelf). IsKept c.args.name.now c.join_files.new.replica.ops (c.in_ok-out.out.items ++ faults_line c.join_files.new.replica.ops) (was_read c.in_ok-old.old) s (g.F.Files.shelf c.write_and_keep.new.files) (g.W.Write.contents c.args.writer.now) (g.W.Write.contents c.write_and_keep.new.writer)) same reported in
    (g.F.Files.shelf c.take_known.new.files, was_read c.in_ok-old.old, c.in_ok-old.replica.ops, c.in_ok-old.ensures.ok, c.join_files.new.replica.ops, c.in_ok-out.out.items, c.in_ok-out.ensures.ok, allowed, kept)

pub returns-clause-unforked : goal.returns-clause-unforked
returns-clause-unforked g c = λ unasked.
    let allowed = (subst (λ b. IsAllowed b c.in_ok-old.replica.ops c.join_files.new.replica.ops) c.in_ok-old.ensures.forks c.in_ok-out.ensures.allowed) in
    let same = same_shelf (g.F.Files.shelf c.take_known.new.files) (g.F.Files.shelf c.join_files.new.files) c.join_files.ensures.stays c.in_ok-out.ensures.counted in
    let stored = subst
    (λ (s : Shelf). IsStoredAs c.args.name.now (set_feed c.join_files.new.replica.ops) (was_read c.in_ok-old.old) s (g.F.Files.shelf c.write_and_keep.new.files)) same c.in_ok-write_and_keep.ensures.ok.1 in
    (g.F.Files.shelf c.take_known.new.files, was_read c.in_ok-old.old, c.in_ok-old.replica.ops, c.in_ok-old.ensures.ok, c.join_files.new.replica.ops, stored, allowed unasked)

pub returns-in_err-write_and_keep-clause-held : goal.returns-in_err-write_and_keep-clause-held
returns-in_err-write_and_keep-clause-held g c =
    let mid : Shelf = g.F.Files.shelf c.take_known.new.files in
    let last : Shelf = g.F.Files.shelf c.write_and_keep.new.files in
    let on = holds_on mid.held (g.F.Files.shelf c.join_files.new.files).held last.held c.join_files.ensures.stays.2 c.write_and_keep.ensures.held in
    inl (held_alone c.args.name.now (g.F.Files.shelf c.args.files.now) mid last c.in_ok-old.ensures.ok.0 on)

pub returns-clause-held : goal.returns-clause-held
returns-clause-held g c =
    let mid : Shelf = g.F.Files.shelf c.take_known.new.files in
    let last : Shelf = g.F.Files.shelf c.write_and_keep.new.files in
    let on = holds_on mid.held (g.F.Files.shelf c.join_files.new.files).held last.held c.join_files.ensures.stays.2 c.write_and_keep.ensures.held in
    inl (held_alone c.args.name.now (g.F.Files.shelf c.args.files.now) mid last c.in_ok-old.ensures.ok.0 on)
