use Rattle.std.proofs.Common.{◌∙◌, subst}
use Rattle.std.specs.Prelude.{IfErr, OnOk}
use Rattle.feed_stored.specs.Stored.{was_read}
use Rattle.feed_edit.specs.Keeping.{IsKept, IsUnkept}
use Rattle.feed_edit.proofs.keeping.report_and_keep.Goals as goal

pub returns-clause-ok : goal.returns-clause-ok
returns-clause-ok g c =
    subst
    (λ t. OnOk c.write_and_keep.result (IsKept c.args.origin.name.now c.args.replica.now.ops t (was_read c.args.origin.old.now) (g.F.Files.shelf c.args.files.now) (g.F.Files.shelf c.write_and_keep.new.files) (g.W.Write.contents c.args.writer.now) (g.W.Write.contents c.write_and_keep.new.writer)))
    (c.as_bytes.ensures.value ∙ c.in_ok-line.ensures) c.write_and_keep.ensures.ok

pub returns-clause-err : goal.returns-clause-err
returns-clause-err g c =
    subst
    (λ t. IfErr c.write_and_keep.result (IsUnkept c.args.origin.name.now t (g.F.Files.shelf c.args.files.now) (g.F.Files.shelf c.write_and_keep.new.files) (g.W.Write.contents c.args.writer.now) (g.W.Write.contents c.write_and_keep.new.writer)))
    (c.as_bytes.ensures.value ∙ c.in_ok-line.ensures) c.write_and_keep.ensures.err
