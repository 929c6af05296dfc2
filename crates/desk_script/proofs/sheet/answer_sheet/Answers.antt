use Rattle.std.proofs.Common.{List, ℕ, [], string_bytes, subst}
use Rattle.std.proofs.lemmas.Result.{err_from_is_err_and}
use Rattle.std.specs.Io.KnownBytes.{Appends}
use Rattle.desk_script.specs.Lines.{lines}
use Rattle.desk_script.specs.Desk.{desk}
use Rattle.desk_script.specs.Sheet.{Ends}
use Rattle.desk_script.proofs.Reporting.{left_sheet, unread_sheet}
use Rattle.desk_script.proofs.sheet.answer_sheet.Goals as goal

pub returns-in_err-input-clause-err : goal.returns-in_err-input-clause-err
returns-in_err-input-clause-err g c =
    let p = err_from_is_err_and c.from_residual.result c.from_residual.ensures.1 in
    rw p.1 (rw p.2 (unread_sheet c.args.mode (desk c.args.world.now (g.F.Files.shelf c.args.files.now)) (g.R.Read.remaining c.args.reader.now) (g.W.Write.contents c.args.writer.now) c.in_err-input.field-0.0 c.in_err-input.ensures.err))

pub returns-in_err-input-clause-left : goal.returns-in_err-input-clause-left
returns-in_err-input-clause-left g c =
    let p = err_from_is_err_and c.from_residual.result c.from_residual.ensures.1 in
    rw p.1 (rw p.2 (left_sheet (g.R.Read.remaining c.args.reader.now) (g.R.Read.remaining c.read_whole.new.reader) c.in_err-input.field-0.0 c.in_err-input.ensures.left))

pub returns-clause-ok : goal.returns-clause-ok
returns-clause-ok g c =
    let old = desk c.args.world.now (g.F.Files.shelf c.args.files.now) in
    let new = desk c.report_lines.new.world (g.F.Files.shelf c.report_lines.new.files) in
    let reported = string_bytes c.report_lines.new.reported in
    let end = c.in_ok-end.end in
    let of_none = subst (λ (t : List ℕ). Ends c.args.mode old t (lines c.deref.result.now) end new reported) c.new-reported.ensures.bytes c.in_ok-end.ensures.ok in (
      reported,
      (c.in_ok-input.input.items, c.in_ok-input.ensures.ok, subst (λ (l : List ℕ). Ends c.args.mode old [] (lines l) end new reported) c.deref.ensures.value of_none),
      subst (Appends (g.W.Write.contents c.args.writer.now) (g.W.Write.contents c.write_out.new.writer)) c.as_bytes.ensures.value c.in_ok-write_out.ensures.ok,
    )
