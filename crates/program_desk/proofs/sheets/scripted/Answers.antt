use Rattle.std.proofs.Common.{subst, sym, ◌∙◌}
use Rattle.desk_script.specs.Fault.{IsOfLines}
use Rattle.desk_script.specs.declared.fault.RunFault.TheVariants as runs
use Rattle.desk_script.specs.declared.sheet_fault.SheetFault.{SheetFault}
use Rattle.desk_script.specs.declared.sheet.Mode.{Mode}
use Rattle.program_desk.specs.Sheets.{IsDoneSheet, IsStoppedSheet, TellsRun, TellsSheet, is_sheet}
use Rattle.program_desk.proofs.Statuses.{cut_of, ended_of, stop_of, when_not, when_so}
use Rattle.program_desk.proofs.sheets.scripted.Goals as goal

pub returns-then-is_sheet-clause-done : goal.returns-then-is_sheet-clause-done
returns-then-is_sheet-clause-done g c zero = (
  c.run_sheet-outcome.ensures.stays,
  when_so _ _ (is_sheet c.args.manner) (sym c.is_sheet.ensures ∙ c.if-is_sheet.true)
      (subst (λ (mode : Mode). IsDoneSheet mode (g.F.Files.shelf c.args.files.now) (g.F.Files.shelf c.run_sheet-outcome.new.files) (g.R.Read.remaining c.args.reader.now) (g.W.Write.contents c.args.writer.now) (g.W.Write.contents c.run_sheet-outcome.new.writer)) c.mode_of-mode.ensures
      (ended_of c.run_sheet-outcome.result (λ fault. TellsSheet fault c.sheet_ending.result.told.is_whole (g.E.Write.contents c.args.faults.now) (g.E.Write.contents c.sheet_ending.new.faults)) c.sheet_ending.result.status c.sheet_ending.ensures c.run_sheet-outcome.ensures.ok zero)),
)

pub returns-then-is_sheet-clause-stopped : goal.returns-then-is_sheet-clause-stopped
returns-then-is_sheet-clause-stopped g c one = (
  c.run_sheet-outcome.ensures.stays,
  when_so _ _ (is_sheet c.args.manner) (sym c.is_sheet.ensures ∙ c.if-is_sheet.true)
      (subst (λ (mode : Mode). (fault : SheetFault) × IsStoppedSheet mode (g.F.Files.shelf c.args.files.now) (g.F.Files.shelf c.run_sheet-outcome.new.files) (g.R.Read.remaining c.args.reader.now) (g.W.Write.contents c.args.writer.now) (g.W.Write.contents c.run_sheet-outcome.new.writer) fault × TellsSheet fault c.sheet_ending.result.told.is_whole (g.E.Write.contents c.args.faults.now) (g.E.Write.contents c.sheet_ending.new.faults)) c.mode_of-mode.ensures
      (stop_of c.run_sheet-outcome.result _ (λ fault. TellsSheet fault c.sheet_ending.result.told.is_whole (g.E.Write.contents c.args.faults.now) (g.E.Write.contents c.sheet_ending.new.faults)) c.sheet_ending.result.status c.sheet_ending.ensures c.run_sheet-outcome.ensures.err one)),
)

pub returns-else-is_sheet-clause-done : goal.returns-else-is_sheet-clause-done
returns-else-is_sheet-clause-done g c zero = (
  c.run-outcome.ensures.stays,
  when_not _ _ (is_sheet c.args.manner) (sym c.is_sheet.ensures ∙ c.if-is_sheet.false)
      (ended_of c.run-outcome.result (λ fault. TellsRun fault c.run_ending.result.told.is_whole (g.E.Write.contents c.args.faults.now) (g.E.Write.contents c.run_ending.new.faults)) c.run_ending.result.status c.run_ending.ensures c.run-outcome.ensures.ok zero),
)

pub returns-else-is_sheet-clause-stopped : goal.returns-else-is_sheet-clause-stopped
returns-else-is_sheet-clause-stopped g c one = (
  c.run-outcome.ensures.stays,
  when_not _ _ (is_sheet c.args.manner) (sym c.is_sheet.ensures ∙ c.if-is_sheet.false)
      (stop_of c.run-outcome.result _ (λ fault. TellsRun fault c.run_ending.result.told.is_whole (g.E.Write.contents c.args.faults.now) (g.E.Write.contents c.run_ending.new.faults)) c.run_ending.result.status c.run_ending.ensures
      (cut_of _ _ c.run-outcome.result IsOfLines runs.NoMemory c.run-outcome.ensures.own c.run-outcome.ensures.err c.run-outcome.ensures.memory) one),
)
