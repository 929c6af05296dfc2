use Rattle.std.proofs.Common.{refl, subst}
use Rattle.desk_script.proofs.Bytes.{reported_fault}
use Rattle.desk_script.proofs.Feeds.{device_failed, room_same}
use Rattle.std.specs.Prelude.{None}
use Rattle.desk_script.specs.FeedRun.{IsStoppedBy}
use Rattle.desk_script.specs.declared.sheet_fault.SheetFault.{SheetFault}
use Rattle.desk_script.proofs.feed_run.run_in_room.Goals as goal

pub returns-in-Err-Run-clause-err : goal.returns-in-Err-Run-clause-err
returns-in-Err-Run-clause-err g c =
    subst (λ (f : SheetFault). IsStoppedBy None c.args.room.feed.now c.args.room.site c.args.room.older (g.F.Files.shelf c.args.files.now) (g.F.Files.shelf c.on_feed.new.files) (g.R.Read.remaining c.args.reader.now) (g.W.Write.contents c.args.writer.now) (g.W.Write.contents c.on_feed.new.writer) f) c.in-Err-Run.field-0-is c.in-Err-Run.ensures.err

pub returns-in-Err-Older-clause-err : goal.returns-in-Err-Older-clause-err
returns-in-Err-Older-clause-err g c =
    subst (λ (f : SheetFault). IsStoppedBy None c.args.room.feed.now c.args.room.site c.args.room.older (g.F.Files.shelf c.args.files.now) (g.F.Files.shelf c.on_feed.new.files) (g.R.Read.remaining c.args.reader.now) (g.W.Write.contents c.args.writer.now) (g.W.Write.contents c.on_feed.new.writer) f) c.in-Err-Older.field-0-is c.in-Err-Older.ensures.err

pub returns-in-Err-Older-clause-unread : goal.returns-in-Err-Older-clause-unread
returns-in-Err-Older-clause-unread g c made had is = c.in-Err-Older.ensures.unread c.in-Err-Older.made c.in-Err-Older.held c.in-Err-Older.field-0-is

pub returns-in-Err-Run-clause-device : goal.returns-in-Err-Run-clause-device
returns-in-Err-Run-clause-device g c is =
    device_failed c.args.room.feed.now c.args.room.site c.args.room.older (g.F.Files.shelf c.args.files.now) (g.F.Files.shelf c.on_feed.new.files) (g.R.Read.remaining c.args.reader.now) (g.W.Write.contents c.args.writer.now) (g.W.Write.contents c.on_feed.new.writer) c.in-Err-Run.fault (room_same _ _ (reported_fault _ _ _ _ refl refl is))
    (subst (λ (f : SheetFault). IsStoppedBy None c.args.room.feed.now c.args.room.site c.args.room.older (g.F.Files.shelf c.args.files.now) (g.F.Files.shelf c.on_feed.new.files) (g.R.Read.remaining c.args.reader.now) (g.W.Write.contents c.args.writer.now) (g.W.Write.contents c.on_feed.new.writer) f) c.in-Err-Run.field-0-is c.in-Err-Run.ensures.err)
