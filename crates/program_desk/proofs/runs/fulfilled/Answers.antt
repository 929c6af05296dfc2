use Rattle.std.proofs.Common.{List, sym, subst}
use Rattle.std.specs.Borrow.{Bor}
use Rattle.clap.specs.Words.{Text}
use Rattle.program_words.specs.Words.{texts_of}
use Rattle.program_desk.specs.ByHand.{IsMergedAs, IsNotMerged}
use Rattle.program_desk.specs.Compared.{AreNotOne, AreOne}
use Rattle.program_desk.specs.Readings.{IsNotReadWhole, IsReadWhole}
use Rattle.program_desk.specs.declared.previews.Preview.{Preview}
use Rattle.program_desk.specs.declared.readings.Reading.{Reading}
use Rattle.program_desk.specs.Previews.{IsSeen, IsUnseen}
use Rattle.program_desk.specs.Wanted.{AreGalleys}
use Rattle.program_desk.specs.Runs.{Does, Stops, room_of, version_of}
use Rattle.feed_edit.specs.declared.texts.Where.{Where}
use Rattle.feed_edit.specs.Replacing.{IsReplaced}
use Rattle.program_desk.specs.Texts.{AreFound, AreNotInOrder, IsUnchanged, exchange}
use Rattle.program_desk.proofs.runs.fulfilled.Goals as goal

pub returns-in-Script-clause-done : goal.returns-in-Script-clause-done
returns-in-Script-clause-done g c zero =
    subst (λ w. Does w (g.F.Files.shelf c.args.files.now) (g.F.Files.shelf c.scripted.new.files) (g.R.Read.remaining c.args.reader.now) (g.W.Write.contents c.args.writer.now) (g.W.Write.contents c.scripted.new.writer)) (sym c.in-Script.is)
    (c.scripted.ensures.done zero)

pub returns-in-Script-clause-stopped : goal.returns-in-Script-clause-stopped
returns-in-Script-clause-stopped g c one =
    subst (λ w. Stops w (g.F.Files.shelf c.args.files.now) (g.F.Files.shelf c.scripted.new.files) (g.R.Read.remaining c.args.reader.now) (g.W.Write.contents c.args.writer.now) (g.W.Write.contents c.scripted.new.writer) c.scripted.result.told.is_whole (g.E.Write.contents c.args.faults.now) (g.E.Write.contents c.scripted.new.faults)) (sym c.in-Script.is)
    (c.scripted.ensures.stopped one)

pub returns-in-Desk-clause-done : goal.returns-in-Desk-clause-done
returns-in-Desk-clause-done g c zero =
    subst (λ w. Does w (g.F.Files.shelf c.args.files.now) (g.F.Files.shelf c.on_desk.new.files) (g.R.Read.remaining c.args.reader.now) (g.W.Write.contents c.args.writer.now) (g.W.Write.contents c.on_desk.new.writer)) (sym c.in-Desk.is)
    (c.on_desk.ensures.done zero)

pub returns-in-Desk-clause-stopped : goal.returns-in-Desk-clause-stopped
returns-in-Desk-clause-stopped g c one =
    subst (λ w. Stops w (g.F.Files.shelf c.args.files.now) (g.F.Files.shelf c.on_desk.new.files) (g.R.Read.remaining c.args.reader.now) (g.W.Write.contents c.args.writer.now) (g.W.Write.contents c.on_desk.new.writer) c.on_desk.result.told.is_whole (g.E.Write.contents c.args.faults.now) (g.E.Write.contents c.on_desk.new.faults)) (sym c.in-Desk.is)
    (c.on_desk.ensures.stopped one)

pub returns-in-Merge-clause-done : goal.returns-in-Merge-clause-done
returns-in-Merge-clause-done g c zero =
    subst (λ w. Does w (g.F.Files.shelf c.args.files.now) (g.F.Files.shelf c.merged.new.files) (g.R.Read.remaining c.args.reader.now) (g.W.Write.contents c.args.writer.now) (g.W.Write.contents c.merged.new.writer)) (sym c.in-Merge.is)
    (subst (λ (l : List (Bor Text)). IsMergedAs c.in-Merge.feed.now (texts_of l) c.in-Merge.forks c.in-Merge.review (g.F.Files.shelf c.args.files.now) (g.F.Files.shelf c.merged.new.files) (g.W.Write.contents c.args.writer.now) (g.W.Write.contents c.merged.new.writer)) c.deref.ensures.value
    (c.merged.ensures.done zero))

pub returns-in-Merge-clause-stopped : goal.returns-in-Merge-clause-stopped
returns-in-Merge-clause-stopped g c one =
    subst (λ w. Stops w (g.F.Files.shelf c.args.files.now) (g.F.Files.shelf c.merged.new.files) (g.R.Read.remaining c.args.reader.now) (g.W.Write.contents c.args.writer.now) (g.W.Write.contents c.merged.new.writer) c.merged.result.told.is_whole (g.E.Write.contents c.args.faults.now) (g.E.Write.contents c.merged.new.faults)) (sym c.in-Merge.is)
    (subst (λ (l : List (Bor Text)). IsNotMerged c.in-Merge.feed l c.in-Merge.forks c.in-Merge.review (g.F.Files.shelf c.args.files.now) (g.F.Files.shelf c.merged.new.files) (g.W.Write.contents c.args.writer.now) (g.W.Write.contents c.merged.new.writer) c.merged.result.told.is_whole (g.E.Write.contents c.args.faults.now) (g.E.Write.contents c.merged.new.faults)) c.deref.ensures.value
    (c.merged.ensures.stopped one))

pub returns-in-Import-clause-done : goal.returns-in-Import-clause-done
returns-in-Import-clause-done g c zero =
    subst (λ w. Does w (g.F.Files.shelf c.args.files.now) (g.F.Files.shelf c.imported.new.files) (g.R.Read.remaining c.args.reader.now) (g.W.Write.contents c.args.writer.now) (g.W.Write.contents c.imported.new.writer)) (sym c.in-Import.is)
    (c.imported.ensures.done zero)

pub returns-in-Import-clause-stopped : goal.returns-in-Import-clause-stopped
returns-in-Import-clause-stopped g c one =
    subst (λ w. Stops w (g.F.Files.shelf c.args.files.now) (g.F.Files.shelf c.imported.new.files) (g.R.Read.remaining c.args.reader.now) (g.W.Write.contents c.args.writer.now) (g.W.Write.contents c.imported.new.writer) c.imported.result.told.is_whole (g.E.Write.contents c.args.faults.now) (g.E.Write.contents c.imported.new.faults)) (sym c.in-Import.is)
    (c.imported.ensures.stopped one)

pub returns-in-Export-clause-done : goal.returns-in-Export-clause-done
returns-in-Export-clause-done g c zero =
    subst (λ w. Does w (g.F.Files.shelf c.args.files.now) (g.F.Files.shelf c.exported.new.files) (g.R.Read.remaining c.args.reader.now) (g.W.Write.contents c.args.writer.now) (g.W.Write.contents c.exported.new.writer)) (sym c.in-Export.is)
    (c.exported.ensures.done zero)

pub returns-in-Export-clause-stopped : goal.returns-in-Export-clause-stopped
returns-in-Export-clause-stopped g c one =
    subst (λ w. Stops w (g.F.Files.shelf c.args.files.now) (g.F.Files.shelf c.exported.new.files) (g.R.Read.remaining c.args.reader.now) (g.W.Write.contents c.args.writer.now) (g.W.Write.contents c.exported.new.writer) c.exported.result.told.is_whole (g.E.Write.contents c.args.faults.now) (g.E.Write.contents c.exported.new.faults)) (sym c.in-Export.is)
    (c.exported.ensures.stopped one)

pub returns-in-Proof-clause-done : goal.returns-in-Proof-clause-done
returns-in-Proof-clause-done g c zero =
    subst (λ w. Does w (g.F.Files.shelf c.args.files.now) (g.F.Files.shelf c.proofed.new.files) (g.R.Read.remaining c.args.reader.now) (g.W.Write.contents c.args.writer.now) (g.W.Write.contents c.proofed.new.writer)) (sym c.in-Proof.is)
    (subst (λ (asked : Preview). IsSeen asked c.in-Proof.sets.items (g.F.Files.shelf c.args.files.now) (g.F.Files.shelf c.proofed.new.files) (g.W.Write.contents c.args.writer.now) (g.W.Write.contents c.proofed.new.writer)) c.preview_of-asked.ensures
    (subst (λ (l : List (Bor Text)). IsSeen c.preview_of-asked.result l (g.F.Files.shelf c.args.files.now) (g.F.Files.shelf c.proofed.new.files) (g.W.Write.contents c.args.writer.now) (g.W.Write.contents c.proofed.new.writer)) c.deref-in-Proof.ensures.value
    (c.proofed.ensures.done zero)))

pub returns-in-Proof-clause-stopped : goal.returns-in-Proof-clause-stopped
returns-in-Proof-clause-stopped g c one =
    subst (λ w. Stops w (g.F.Files.shelf c.args.files.now) (g.F.Files.shelf c.proofed.new.files) (g.R.Read.remaining c.args.reader.now) (g.W.Write.contents c.args.writer.now) (g.W.Write.contents c.proofed.new.writer) c.proofed.result.told.is_whole (g.E.Write.contents c.args.faults.now) (g.E.Write.contents c.proofed.new.faults)) (sym c.in-Proof.is)
    (subst (λ (asked : Preview). IsUnseen asked c.in-Proof.sets.items (g.F.Files.shelf c.args.files.now) (g.F.Files.shelf c.proofed.new.files) (g.W.Write.contents c.args.writer.now) (g.W.Write.contents c.proofed.new.writer) c.proofed.result.told.is_whole (g.E.Write.contents c.args.faults.now) (g.E.Write.contents c.proofed.new.faults)) c.preview_of-asked.ensures
    (subst (λ (l : List (Bor Text)). IsUnseen c.preview_of-asked.result l (g.F.Files.shelf c.args.files.now) (g.F.Files.shelf c.proofed.new.files) (g.W.Write.contents c.args.writer.now) (g.W.Write.contents c.proofed.new.writer) c.proofed.result.told.is_whole (g.E.Write.contents c.args.faults.now) (g.E.Write.contents c.proofed.new.faults)) c.deref-in-Proof.ensures.value
    (c.proofed.ensures.stopped one)))

pub returns-in-Punch-clause-done : goal.returns-in-Punch-clause-done
returns-in-Punch-clause-done g c zero =
    subst (λ w. Does w (g.F.Files.shelf c.args.files.now) (g.F.Files.shelf c.punched.new.files) (g.R.Read.remaining c.args.reader.now) (g.W.Write.contents c.args.writer.now) (g.W.Write.contents c.punched.new.writer)) (sym c.in-Punch.is)
    (c.galleys_of.result, subst (λ (l : List (Bor Text)). AreGalleys c.galleys_of.result l c.in-Punch.case c.in-Punch.wedge) c.deref-in-Punch.ensures.value c.galleys_of.ensures, c.punched.ensures.done zero)

pub returns-in-Punch-clause-stopped : goal.returns-in-Punch-clause-stopped
returns-in-Punch-clause-stopped g c one =
    subst (λ w. Stops w (g.F.Files.shelf c.args.files.now) (g.F.Files.shelf c.punched.new.files) (g.R.Read.remaining c.args.reader.now) (g.W.Write.contents c.args.writer.now) (g.W.Write.contents c.punched.new.writer) c.punched.result.told.is_whole (g.E.Write.contents c.args.faults.now) (g.E.Write.contents c.punched.new.faults)) (sym c.in-Punch.is)
    (c.galleys_of.result, subst (λ (l : List (Bor Text)). AreGalleys c.galleys_of.result l c.in-Punch.case c.in-Punch.wedge) c.deref-in-Punch.ensures.value c.galleys_of.ensures, c.punched.ensures.stopped one)

pub returns-in-Read-clause-done : goal.returns-in-Read-clause-done
returns-in-Read-clause-done g c zero =
    subst (λ w. Does w (g.F.Files.shelf c.args.files.now) (g.F.Files.shelf c.read_whole.new.files) (g.R.Read.remaining c.args.reader.now) (g.W.Write.contents c.args.writer.now) (g.W.Write.contents c.read_whole.new.writer)) (sym c.in-Read.is)
    (subst (λ (asked : Reading). IsReadWhole asked (g.F.Files.shelf c.args.files.now) (g.F.Files.shelf c.read_whole.new.files) (g.W.Write.contents c.args.writer.now) (g.W.Write.contents c.read_whole.new.writer)) c.reading_of-asked.ensures (c.read_whole.ensures.done zero))

pub returns-in-Read-clause-stopped : goal.returns-in-Read-clause-stopped
returns-in-Read-clause-stopped g c one =
    subst (λ w. Stops w (g.F.Files.shelf c.args.files.now) (g.F.Files.shelf c.read_whole.new.files) (g.R.Read.remaining c.args.reader.now) (g.W.Write.contents c.args.writer.now) (g.W.Write.contents c.read_whole.new.writer) c.read_whole.result.told.is_whole (g.E.Write.contents c.args.faults.now) (g.E.Write.contents c.read_whole.new.faults)) (sym c.in-Read.is)
    (subst (λ (asked : Reading). IsNotReadWhole asked (g.F.Files.shelf c.args.files.now) (g.F.Files.shelf c.read_whole.new.files) (g.W.Write.contents c.args.writer.now) (g.W.Write.contents c.read_whole.new.writer) c.read_whole.result.told.is_whole (g.E.Write.contents c.args.faults.now) (g.E.Write.contents c.read_whole.new.faults)) c.reading_of-asked.ensures (c.read_whole.ensures.stopped one))

pub returns-in-Compare-clause-done : goal.returns-in-Compare-clause-done
returns-in-Compare-clause-done g c zero =
    subst (λ w. Does w (g.F.Files.shelf c.args.files.now) (g.F.Files.shelf c.cast_compared.new.files) (g.R.Read.remaining c.args.reader.now) (g.W.Write.contents c.args.writer.now) (g.W.Write.contents c.cast_compared.new.writer)) (sym c.in-Compare.is)
    (c.cast_compared.ensures.done zero)

pub returns-in-Compare-clause-stopped : goal.returns-in-Compare-clause-stopped
returns-in-Compare-clause-stopped g c one =
    subst (λ w. Stops w (g.F.Files.shelf c.args.files.now) (g.F.Files.shelf c.cast_compared.new.files) (g.R.Read.remaining c.args.reader.now) (g.W.Write.contents c.args.writer.now) (g.W.Write.contents c.cast_compared.new.writer) c.cast_compared.result.told.is_whole (g.E.Write.contents c.args.faults.now) (g.E.Write.contents c.cast_compared.new.faults)) (sym c.in-Compare.is)
    (c.cast_compared.ensures.stopped one)

pub returns-in-Replace-clause-done : goal.returns-in-Replace-clause-done
returns-in-Replace-clause-done g c zero =
    subst (λ w. Does w (g.F.Files.shelf c.args.files.now) (g.F.Files.shelf c.replaced.new.files) (g.R.Read.remaining c.args.reader.now) (g.W.Write.contents c.args.writer.now) (g.W.Write.contents c.replaced.new.writer)) (sym c.in-Replace.is)
    (subst (λ (w : Where). IsReplaced (room_of c.in-Replace.feed c.in-Replace.site c.in-Replace.older) (exchange c.in-Replace.old c.in-Replace.new c.in-Replace.plain w) (g.F.Files.shelf c.args.files.now) (g.F.Files.shelf c.replaced.new.files) (g.W.Write.contents c.args.writer.now) (g.W.Write.contents c.replaced.new.writer)) c.where_of.ensures (c.replaced.ensures.done zero))

pub returns-in-Replace-clause-stopped : goal.returns-in-Replace-clause-stopped
returns-in-Replace-clause-stopped g c one =
    subst (λ w. Stops w (g.F.Files.shelf c.args.files.now) (g.F.Files.shelf c.replaced.new.files) (g.R.Read.remaining c.args.reader.now) (g.W.Write.contents c.args.writer.now) (g.W.Write.contents c.replaced.new.writer) c.replaced.result.told.is_whole (g.E.Write.contents c.args.faults.now) (g.E.Write.contents c.replaced.new.faults)) (sym c.in-Replace.is)
    (subst (λ (w : Where). IsUnchanged (room_of c.in-Replace.feed c.in-Replace.site c.in-Replace.older) (exchange c.in-Replace.old c.in-Replace.new c.in-Replace.plain w) (g.F.Files.shelf c.args.files.now) (g.F.Files.shelf c.replaced.new.files) (g.W.Write.contents c.args.writer.now) (g.W.Write.contents c.replaced.new.writer) c.replaced.result.told.is_whole (g.E.Write.contents c.args.faults.now) (g.E.Write.contents c.replaced.new.faults)) c.where_of.ensures (c.replaced.ensures.stopped one))

pub returns-in-Check-clause-done : goal.returns-in-Check-clause-done
returns-in-Check-clause-done g c zero =
    subst (λ w. Does w (g.F.Files.shelf c.args.files.now) (g.F.Files.shelf c.checked.new.files) (g.R.Read.remaining c.args.reader.now) (g.W.Write.contents c.args.writer.now) (g.W.Write.contents c.checked.new.writer)) (sym c.in-Check.is)
    (subst (λ (l : List (Bor Text)). AreFound (texts_of l) (g.F.Files.shelf c.args.files.now) (g.F.Files.shelf c.checked.new.files) (g.W.Write.contents c.args.writer.now) (g.W.Write.contents c.checked.new.writer)) c.deref-in-Check.ensures.value
    (c.checked.ensures.done zero))

pub returns-in-Check-clause-stopped : goal.returns-in-Check-clause-stopped
returns-in-Check-clause-stopped g c one =
    subst (λ w. Stops w (g.F.Files.shelf c.args.files.now) (g.F.Files.shelf c.checked.new.files) (g.R.Read.remaining c.args.reader.now) (g.W.Write.contents c.args.writer.now) (g.W.Write.contents c.checked.new.writer) c.checked.result.told.is_whole (g.E.Write.contents c.args.faults.now) (g.E.Write.contents c.checked.new.faults)) (sym c.in-Check.is)
    (subst (λ (l : List (Bor Text)). AreNotInOrder (texts_of l) (g.F.Files.shelf c.args.files.now) (g.F.Files.shelf c.checked.new.files) (g.W.Write.contents c.args.writer.now) (g.W.Write.contents c.checked.new.writer) c.checked.result.told.is_whole (g.E.Write.contents c.args.faults.now) (g.E.Write.contents c.checked.new.faults)) c.deref-in-Check.ensures.value
    (c.checked.ensures.stopped one))

pub returns-in-Diff-clause-done : goal.returns-in-Diff-clause-done
returns-in-Diff-clause-done g c zero =
    subst (λ w. Does w (g.F.Files.shelf c.args.files.now) (g.F.Files.shelf c.compared.new.files) (g.R.Read.remaining c.args.reader.now) (g.W.Write.contents c.args.writer.now) (g.W.Write.contents c.compared.new.writer)) (sym c.in-Diff.is)
    (subst (λ (o : Bor Text). AreOne (version_of c.in-Diff.one c.in-Diff.until) o.now (g.F.Files.shelf c.args.files.now) (g.F.Files.shelf c.compared.new.files) (g.W.Write.contents c.args.writer.now) (g.W.Write.contents c.compared.new.writer)) c.other_of.ensures (c.compared.ensures.done zero))

pub returns-in-Diff-clause-stopped : goal.returns-in-Diff-clause-stopped
returns-in-Diff-clause-stopped g c one =
    subst (λ w. Stops w (g.F.Files.shelf c.args.files.now) (g.F.Files.shelf c.compared.new.files) (g.R.Read.remaining c.args.reader.now) (g.W.Write.contents c.args.writer.now) (g.W.Write.contents c.compared.new.writer) c.compared.result.told.is_whole (g.E.Write.contents c.args.faults.now) (g.E.Write.contents c.compared.new.faults)) (sym c.in-Diff.is)
    (subst (λ (o : Bor Text). AreNotOne (version_of c.in-Diff.one c.in-Diff.until) o (g.F.Files.shelf c.args.files.now) (g.F.Files.shelf c.compared.new.files) (g.W.Write.contents c.args.writer.now) (g.W.Write.contents c.compared.new.writer) c.compared.result.told.is_whole (g.E.Write.contents c.args.faults.now) (g.E.Write.contents c.compared.new.faults)) c.other_of.ensures (c.compared.ensures.stopped one))

pub returns-in-Sorts-clause-done : goal.returns-in-Sorts-clause-done
returns-in-Sorts-clause-done g c zero =
    subst (λ w. Does w (g.F.Files.shelf c.args.files.now) (g.F.Files.shelf c.listed.new.files) (g.R.Read.remaining c.args.reader.now) (g.W.Write.contents c.args.writer.now) (g.W.Write.contents c.listed.new.writer)) (sym c.in-Sorts.is)
    (c.listed.ensures.done zero)

pub returns-in-Sorts-clause-stopped : goal.returns-in-Sorts-clause-stopped
returns-in-Sorts-clause-stopped g c one =
    subst (λ w. Stops w (g.F.Files.shelf c.args.files.now) (g.F.Files.shelf c.listed.new.files) (g.R.Read.remaining c.args.reader.now) (g.W.Write.contents c.args.writer.now) (g.W.Write.contents c.listed.new.writer) c.listed.result.told.is_whole (g.E.Write.contents c.args.faults.now) (g.E.Write.contents c.listed.new.faults)) (sym c.in-Sorts.is)
    (c.listed.ensures.stopped one)

pub returns-in-Renew-clause-done : goal.returns-in-Renew-clause-done
returns-in-Renew-clause-done g c zero =
    subst (λ w. Does w (g.F.Files.shelf c.args.files.now) (g.F.Files.shelf c.renewed.new.files) (g.R.Read.remaining c.args.reader.now) (g.W.Write.contents c.args.writer.now) (g.W.Write.contents c.renewed.new.writer)) (sym c.in-Renew.is)
    (c.renewed.ensures.done zero)

pub returns-in-Renew-clause-stopped : goal.returns-in-Renew-clause-stopped
returns-in-Renew-clause-stopped g c one =
    subst (λ w. Stops w (g.F.Files.shelf c.args.files.now) (g.F.Files.shelf c.renewed.new.files) (g.R.Read.remaining c.args.reader.now) (g.W.Write.contents c.args.writer.now) (g.W.Write.contents c.renewed.new.writer) c.renewed.result.told.is_whole (g.E.Write.contents c.args.faults.now) (g.E.Write.contents c.renewed.new.faults)) (sym c.in-Renew.is)
    (c.renewed.ensures.stopped one)

pub returns-in-Renumber-clause-done : goal.returns-in-Renumber-clause-done
returns-in-Renumber-clause-done g c zero =
    subst (λ w. Does w (g.F.Files.shelf c.args.files.now) (g.F.Files.shelf c.renumbered.new.files) (g.R.Read.remaining c.args.reader.now) (g.W.Write.contents c.args.writer.now) (g.W.Write.contents c.renumbered.new.writer)) (sym c.in-Renumber.is)
    (c.renumbered.ensures.done zero)

pub returns-in-Renumber-clause-stopped : goal.returns-in-Renumber-clause-stopped
returns-in-Renumber-clause-stopped g c one =
    subst (λ w. Stops w (g.F.Files.shelf c.args.files.now) (g.F.Files.shelf c.renumbered.new.files) (g.R.Read.remaining c.args.reader.now) (g.W.Write.contents c.args.writer.now) (g.W.Write.contents c.renumbered.new.writer) c.renumbered.result.told.is_whole (g.E.Write.contents c.args.faults.now) (g.E.Write.contents c.renumbered.new.faults)) (sym c.in-Renumber.is)
    (c.renumbered.ensures.stopped one)

pub returns-in-Rooms-clause-done : goal.returns-in-Rooms-clause-done
returns-in-Rooms-clause-done g c zero =
    subst (λ w. Does w (g.F.Files.shelf c.args.files.now) (g.F.Files.shelf c.roomed.new.files) (g.R.Read.remaining c.args.reader.now) (g.W.Write.contents c.args.writer.now) (g.W.Write.contents c.roomed.new.writer)) (sym c.in-Rooms.is)
    (c.roomed.ensures.done zero)

pub returns-in-Rooms-clause-stopped : goal.returns-in-Rooms-clause-stopped
returns-in-Rooms-clause-stopped g c one =
    subst (λ w. Stops w (g.F.Files.shelf c.args.files.now) (g.F.Files.shelf c.roomed.new.files) (g.R.Read.remaining c.args.reader.now) (g.W.Write.contents c.args.writer.now) (g.W.Write.contents c.roomed.new.writer) c.roomed.result.told.is_whole (g.E.Write.contents c.args.faults.now) (g.E.Write.contents c.roomed.new.faults)) (sym c.in-Rooms.is)
    (c.roomed.ensures.stopped one)

pub returns-in-Find-clause-done : goal.returns-in-Find-clause-done
returns-in-Find-clause-done g c zero =
    subst (λ w. Does w (g.F.Files.shelf c.args.files.now) (g.F.Files.shelf c.sought.new.files) (g.R.Read.remaining c.args.reader.now) (g.W.Write.contents c.args.writer.now) (g.W.Write.contents c.sought.new.writer)) (sym c.in-Find.is)
    (c.sought.ensures.done zero)

pub returns-in-Find-clause-stopped : goal.returns-in-Find-clause-stopped
returns-in-Find-clause-stopped g c one =
    subst (λ w. Stops w (g.F.Files.shelf c.args.files.now) (g.F.Files.shelf c.sought.new.files) (g.R.Read.remaining c.args.reader.now) (g.W.Write.contents c.args.writer.now) (g.W.Write.contents c.sought.new.writer) c.sought.result.told.is_whole (g.E.Write.contents c.args.faults.now) (g.E.Write.contents c.sought.new.faults)) (sym c.in-Find.is)
    (c.sought.ensures.stopped one)

pub returns-in-Log-clause-done : goal.returns-in-Log-clause-done
returns-in-Log-clause-done g c zero =
    subst (λ w. Does w (g.F.Files.shelf c.args.files.now) (g.F.Files.shelf c.logged.new.files) (g.R.Read.remaining c.args.reader.now) (g.W.Write.contents c.args.writer.now) (g.W.Write.contents c.logged.new.writer)) (sym c.in-Log.is)
    (c.logged.ensures.done zero)

pub returns-in-Log-clause-stopped : goal.returns-in-Log-clause-stopped
returns-in-Log-clause-stopped g c one =
    subst (λ w. Stops w (g.F.Files.shelf c.args.files.now) (g.F.Files.shelf c.logged.new.files) (g.R.Read.remaining c.args.reader.now) (g.W.Write.contents c.args.writer.now) (g.W.Write.contents c.logged.new.writer) c.logged.result.told.is_whole (g.E.Write.contents c.args.faults.now) (g.E.Write.contents c.logged.new.faults)) (sym c.in-Log.is)
    (c.logged.ensures.stopped one)
