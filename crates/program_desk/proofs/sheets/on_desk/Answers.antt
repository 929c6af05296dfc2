use Rattle.std.proofs.Common.{subst, sym, ◌∙◌}
use Rattle.std.specs.Prelude.{◌||◌}
use Rattle.desk_script.specs.StoredSheet.{IsStoppedOnFeed, IsStoredSheet}
use Rattle.desk_script.specs.declared.sheet_fault.SheetFault.{SheetFault}
use Rattle.desk_script.specs.declared.sheet.Mode.{Mode}
use Rattle.program_desk.specs.Causes.{room_cause, stop_cause}
use Rattle.program_desk.specs.Explained.{TellsOf}
use Rattle.program_desk.specs.Sheets.{is_older, is_older_sheet, is_sheet}
use Rattle.program_desk.proofs.Statuses.{ended_of, stop_of, when_not, when_so}
use Rattle.program_desk.proofs.sheets.on_desk.Goals as goal

pub returns-then-is_sheet-clause-done : goal.returns-then-is_sheet-clause-done
returns-then-is_sheet-clause-done g c zero =
    when_so _ _ (is_sheet c.args.desk.manner) (sym c.is_sheet.ensures ∙ c.if-is_sheet.true)
    (subst (λ (mode : Mode). IsStoredSheet mode c.args.desk.room (g.F.Files.shelf c.args.files.now) (g.F.Files.shelf c.run_sheet_on_feed-outcome.new.files) (g.R.Read.remaining c.args.reader.now) (g.W.Write.contents c.args.writer.now) (g.W.Write.contents c.run_sheet_on_feed-outcome.new.writer)) c.mode_of-mode.ensures
    (ended_of c.run_sheet_on_feed-outcome.result (λ fault. TellsOf (c.args.desk.why || is_older_sheet fault) (stop_cause c.args.desk.room.feed c.args.desk.room.site fault) c.stored_ending.result.told.is_whole (g.E.Write.contents c.args.faults.now) (g.E.Write.contents c.stored_ending.new.faults)) c.stored_ending.result.status c.stored_ending.ensures c.run_sheet_on_feed-outcome.ensures.ok zero))

pub returns-then-is_sheet-clause-stopped : goal.returns-then-is_sheet-clause-stopped
returns-then-is_sheet-clause-stopped g c one =
    when_so _ _ (is_sheet c.args.desk.manner) (sym c.is_sheet.ensures ∙ c.if-is_sheet.true)
    (subst (λ (mode : Mode). (fault : SheetFault) × IsStoppedOnFeed mode c.args.desk.room (g.F.Files.shelf c.args.files.now) (g.F.Files.shelf c.run_sheet_on_feed-outcome.new.files) (g.R.Read.remaining c.args.reader.now) (g.W.Write.contents c.args.writer.now) (g.W.Write.contents c.run_sheet_on_feed-outcome.new.writer) fault × TellsOf (c.args.desk.why || is_older_sheet fault) (stop_cause c.args.desk.room.feed c.args.desk.room.site fault) c.stored_ending.result.told.is_whole (g.E.Write.contents c.args.faults.now) (g.E.Write.contents c.stored_ending.new.faults)) c.mode_of-mode.ensures
    (stop_of c.run_sheet_on_feed-outcome.result _ (λ fault. TellsOf (c.args.desk.why || is_older_sheet fault) (stop_cause c.args.desk.room.feed c.args.desk.room.site fault) c.stored_ending.result.told.is_whole (g.E.Write.contents c.args.faults.now) (g.E.Write.contents c.stored_ending.new.faults)) c.stored_ending.result.status c.stored_ending.ensures c.run_sheet_on_feed-outcome.ensures.err one))

pub returns-else-is_sheet-clause-done : goal.returns-else-is_sheet-clause-done
returns-else-is_sheet-clause-done g c zero =
    when_not _ _ (is_sheet c.args.desk.manner) (sym c.is_sheet.ensures ∙ c.if-is_sheet.false)
    (ended_of c.run_in_room-outcome.result (λ fault. TellsOf (c.args.desk.why || is_older fault) (room_cause c.args.desk.room.feed c.args.desk.room.site fault) c.room_ending.result.told.is_whole (g.E.Write.contents c.args.faults.now) (g.E.Write.contents c.room_ending.new.faults)) c.room_ending.result.status c.room_ending.ensures c.run_in_room-outcome.ensures.ok zero)

pub returns-else-is_sheet-clause-stopped : goal.returns-else-is_sheet-clause-stopped
returns-else-is_sheet-clause-stopped g c one =
    when_not _ _ (is_sheet c.args.desk.manner) (sym c.is_sheet.ensures ∙ c.if-is_sheet.false)
    (stop_of c.run_in_room-outcome.result _ (λ fault. TellsOf (c.args.desk.why || is_older fault) (room_cause c.args.desk.room.feed c.args.desk.room.site fault) c.room_ending.result.told.is_whole (g.E.Write.contents c.args.faults.now) (g.E.Write.contents c.room_ending.new.faults)) c.room_ending.result.status c.room_ending.ensures c.run_in_room-outcome.ensures.err one)
