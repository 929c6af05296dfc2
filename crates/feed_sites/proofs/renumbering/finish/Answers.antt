use Rattle.std.proofs.Common.{List, ℕ, ◌<◌, inl, inr, refl, subst}
use Rattle.std.specs.Prelude.{Option}
use Rattle.std.proofs.lemmas.Result.{IfErr-weaker, on_ok_weaker}
use Rattle.desk_ops.specs.OpSet.{size}
use Rattle.feed_files.specs.Files.{Shelf}
use Rattle.feed_edit.specs.Keeping.{IsKept, IsUnkept}
use Rattle.feed_stored.specs.Stored.{was_read}
use Rattle.feed_sites.specs.Renumbering.{IsUndone, IsUnwritten}
use Rattle.feed_sites.proofs.Done.{none_unwritten, some_there, unkept}
use Rattle.feed_sites.proofs.renumbering.finish.Goals as goal

pub returns-then-is_empty-clause-ok : goal.returns-then-is_empty-clause-ok
returns-then-is_empty-clause-ok g c = on_ok_weaker c.write_none.result (λ written. inl (c.is_empty.ensures.0 c.if-is_empty.true, written, refl)) c.write_none.ensures.ok

pub returns-then-is_empty-clause-err : goal.returns-then-is_empty-clause-err
returns-then-is_empty-clause-err g c =
    let held : Shelf = g.F.Files.shelf c.args.files.now in
    let before : Option (List ℕ) = g.W.Write.contents c.args.writer.now in
    let after : Option (List ℕ) = g.W.Write.contents c.write_none.new.writer in
    IfErr-weaker c.write_none.result (IsUnwritten before after) (IsUndone c.args.name.now c.args.opened.now.feed.ops c.args.made.now.replica.ops c.args.made.now.moved.ops held held before after)
    (λ why unwritten. none_unwritten c.args.name.now c.args.opened.now.feed.ops c.args.made.now.replica.ops c.args.made.now.moved.ops held before after why (c.is_empty.ensures.0 c.if-is_empty.true) unwritten) c.write_none.ensures.err

pub returns-clause-ok : goal.returns-clause-ok
returns-clause-ok g c =
    let held : Shelf = g.F.Files.shelf c.args.files.now in
    let last : Shelf = g.F.Files.shelf c.write_and_keep.new.files in
    let before : Option (List ℕ) = g.W.Write.contents c.args.writer.now in
    let after : Option (List ℕ) = g.W.Write.contents c.write_and_keep.new.writer in
    let some : 0 < size c.args.made.now.moved.ops = some_there c.is_empty.result (size c.args.made.now.moved.ops) c.is_empty.ensures c.if-is_empty.false in
    on_ok_weaker c.write_and_keep.result
    (λ kept. inr (some, c.in_ok-reported.reported.items, c.in_ok-reported.ensures, subst (λ (l : List ℕ). IsKept c.args.name.now c.args.made.now.replica.ops l (was_read c.args.opened.now.old) held last before after) c.deref.ensures.value kept)) c.write_and_keep.ensures.ok

pub returns-clause-err : goal.returns-clause-err
returns-clause-err g c =
    let held : Shelf = g.F.Files.shelf c.args.files.now in
    let last : Shelf = g.F.Files.shelf c.write_and_keep.new.files in
    let before : Option (List ℕ) = g.W.Write.contents c.args.writer.now in
    let after : Option (List ℕ) = g.W.Write.contents c.write_and_keep.new.writer in
    let some : 0 < size c.args.made.now.moved.ops = some_there c.is_empty.result (size c.args.made.now.moved.ops) c.is_empty.ensures c.if-is_empty.false in
    IfErr-weaker c.write_and_keep.result (IsUnkept c.args.name.now c.deref.result.now held last before after) (IsUndone c.args.name.now c.args.opened.now.feed.ops c.args.made.now.replica.ops c.args.made.now.moved.ops held last before after)
    (λ why undone. unkept c.args.name.now c.args.opened.now.feed.ops c.args.made.now.replica.ops c.args.made.now.moved.ops c.in_ok-reported.reported.items held last before after why some c.in_ok-reported.ensures
    (subst (λ (l : List ℕ). IsUnkept c.args.name.now l held last before after why) c.deref.ensures.value undone)) c.write_and_keep.ensures.err
