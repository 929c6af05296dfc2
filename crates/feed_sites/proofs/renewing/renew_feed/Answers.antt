use Rattle.std.proofs.Common.{◌∙◌, ℕ, List, length, ap, refl, subst}
use Rattle.std.specs.Io.KnownBytes.{Appends}
use Rattle.std.proofs.lemmas.Result.{err_from_is_err_and}
use Rattle.desk_codec.specs.Runs.{set_feed}
use Rattle.feed_files.specs.Files.{IsReplaced, Shelf}
use Rattle.feed_files.proofs.Shelves.{same_shelf}
use Rattle.feed_edit.specs.Keeping.{IsUnkept}
use Rattle.feed_sites.specs.Renewing.{renewed_line}
use Rattle.feed_sites.proofs.Shelves.{not_writing, others_stay}
use Rattle.feed_sites.proofs.renewing.renew_feed.Goals as goal

pub returns-in_err-replica-clause-err : goal.returns-in_err-replica-clause-err
returns-in_err-replica-clause-err g c =
    let p = err_from_is_err_and c.from_residual-in_err-replica.result c.from_residual-in_err-replica.ensures.1 in
    let held : Shelf = g.F.Files.shelf c.take_free.new.files in
    let same = same_shelf held (g.F.Files.shelf c.open_feed.new.files) c.in_ok-old.ensures.stays c.in_ok-old.ensures.counted in
    rw p.1 (rw p.2 (held, c.in_ok-take_free.ensures.ok, c.in_ok-old.old.ops, c.in_ok-old.ensures.ok, (same, refl)))

pub returns-in_err-line-clause-err : goal.returns-in_err-line-clause-err
returns-in_err-line-clause-err g c =
    let p = err_from_is_err_and c.from_residual-in_err-line.result c.from_residual-in_err-line.ensures.1 in
    let held : Shelf = g.F.Files.shelf c.take_free.new.files in
    let same = same_shelf held (g.F.Files.shelf c.open_feed.new.files) c.in_ok-old.ensures.stays c.in_ok-old.ensures.counted in
    rw p.1 (rw p.2 (held, c.in_ok-take_free.ensures.ok, c.in_ok-old.old.ops, c.in_ok-old.ensures.ok, (same, refl)))

pub returns-in_err-line-clause-others : goal.returns-in_err-line-clause-others
returns-in_err-line-clause-others g c = λ other apart away. ap (λ kept. kept other) c.in_ok-old.ensures.stays.0 ∙ c.in_ok-take_free.ensures.others other apart away

pub returns-in_err-keep_new-clause-err : goal.returns-in_err-keep_new-clause-err
returns-in_err-keep_new-clause-err g c =
    let p = err_from_is_err_and c.from_residual-in_err-keep_new.result c.from_residual-in_err-keep_new.ensures.1 in
    let held : Shelf = g.F.Files.shelf c.take_free.new.files in
    let last : Shelf = g.F.Files.shelf c.keep_new.new.files in
    let same = same_shelf held (g.F.Files.shelf c.open_feed.new.files) c.in_ok-old.ensures.stays c.in_ok-old.ensures.counted in
    let line = c.as_bytes-3.ensures.value ∙ c.in_ok-line.ensures ∙ ap renewed_line (c.copy_len.ensures ∙ ap length c.in_ok-replica.ensures.copy) in
    let unkept = subst (λ (s : Shelf). IsUnkept c.args.new.now c.as_bytes-3.result.now s last (g.W.Write.contents c.args.writer.now) (g.W.Write.contents c.keep_new.new.writer) c.in_err-keep_new.field-0.0) same c.in_err-keep_new.ensures.err in
    let kept = subst (λ (l : List ℕ). IsUnkept c.args.new.now l held last (g.W.Write.contents c.args.writer.now) (g.W.Write.contents c.keep_new.new.writer) c.in_err-keep_new.field-0.0) line unkept in
    rw p.1 (rw p.2 (held, c.in_ok-take_free.ensures.ok, c.in_ok-old.old.ops, c.in_ok-old.ensures.ok, kept))

pub returns-in_err-keep_new-clause-others : goal.returns-in_err-keep_new-clause-others
returns-in_err-keep_new-clause-others g c =
    others_stay c.args.new.now (g.F.Files.shelf c.args.files.now).kept (g.F.Files.shelf c.take_free.new.files).kept (g.F.Files.shelf c.open_feed.new.files).kept (g.F.Files.shelf c.keep_new.new.files).kept
    c.in_ok-take_free.ensures.others c.in_ok-old.ensures.stays.0 c.in_err-keep_new.ensures.others

pub returns-clause-ok : goal.returns-clause-ok
returns-clause-ok g c =
    let held : Shelf = g.F.Files.shelf c.take_free.new.files in
    let last : Shelf = g.F.Files.shelf c.keep_new.new.files in
    let same = same_shelf held (g.F.Files.shelf c.open_feed.new.files) c.in_ok-old.ensures.stays c.in_ok-old.ensures.counted in
    let line = c.as_bytes-3.ensures.value ∙ c.in_ok-line.ensures ∙ ap renewed_line (c.copy_len.ensures ∙ ap length c.in_ok-replica.ensures.copy) in
    let written = subst (λ (l : List ℕ). Appends (g.W.Write.contents c.args.writer.now) (g.W.Write.contents c.keep_new.new.writer) l) line c.in_ok-keep_new.ensures.written in
    let stored = subst (λ (s : Shelf). IsReplaced c.args.new.now (set_feed c.in_ok-replica.replica.ops) s.kept last.kept) same c.in_ok-keep_new.ensures.stored in
    (held, c.in_ok-take_free.ensures.ok, c.in_ok-old.old.ops, c.in_ok-old.ensures.ok, c.in_ok-replica.replica.ops, c.in_ok-replica.ensures, written, stored, c.in_ok-keep_new.ensures.counted ∙ c.in_ok-old.ensures.counted)

pub returns-clause-feed : goal.returns-clause-feed
returns-clause-feed g c = λ apart.
    others_stay c.args.new.now (g.F.Files.shelf c.args.files.now).kept (g.F.Files.shelf c.take_free.new.files).kept (g.F.Files.shelf c.open_feed.new.files).kept (g.F.Files.shelf c.keep_new.new.files).kept
    c.in_ok-take_free.ensures.others c.in_ok-old.ensures.stays.0 c.in_ok-keep_new.ensures.others c.args.feed.now apart
    (not_writing c.args.new.now c.args.feed.now c.as_bytes.result.now c.as_bytes-2.result.now c.is_writing_of.result c.as_bytes.ensures.value c.as_bytes-2.ensures.value c.is_writing_of.ensures c.if-is_writing_of.false)

pub returns-clause-others : goal.returns-clause-others
returns-clause-others g c =
    others_stay c.args.new.now (g.F.Files.shelf c.args.files.now).kept (g.F.Files.shelf c.take_free.new.files).kept (g.F.Files.shelf c.open_feed.new.files).kept (g.F.Files.shelf c.keep_new.new.files).kept
    c.in_ok-take_free.ensures.others c.in_ok-old.ensures.stays.0 c.in_ok-keep_new.ensures.others
