use Rattle.std.proofs.Common.{ℕ, List}
use Rattle.std.specs.Prelude.{Option}
use Rattle.std.proofs.lemmas.Result.{IfErr-weaker, IfOk-weaker, err_from_is_err_and}
use Rattle.desk_ops.specs.OpSet.{OpSet}
use Rattle.feed_files.specs.Files.{Shelf}
use Rattle.feed_sites.specs.Reporting.{IsReported, IsUnreported, IsUnwritten, IsWritten}
use Rattle.feed_sites.proofs.Unreported.{unopened, unwritten}
use Rattle.feed_sites.proofs.differences.report_difference.Goals as goal

pub returns-in_err-first-clause-err : goal.returns-in_err-first-clause-err
returns-in_err-first-clause-err g c =
    let p = err_from_is_err_and c.from_residual.result c.from_residual.ensures.1 in
    rw p.1 (rw p.2 (unopened c.args.one c.args.other.now (g.F.Files.shelf c.args.files.now) (g.F.Files.shelf c.open_both.new.files) (g.W.Write.contents c.args.writer.now) c.in_err-first.field-0.0 c.in_err-first.ensures.err))

pub returns-clause-ok : goal.returns-clause-ok
returns-clause-ok g c =
    let before : Option (List ℕ) = g.W.Write.contents c.args.writer.now in
    let after : Option (List ℕ) = g.W.Write.contents c.write_difference.new.writer in
    IfOk-weaker c.write_difference.result (IsWritten c.args.one.feed.now c.args.other.now c.in_ok-first.first.ops c.in_ok-first.second.ops before after) (IsReported c.args.one c.args.other.now (g.F.Files.shelf c.args.files.now) before after)
    (λ same written. (written.0, (c.in_ok-first.first.ops, c.in_ok-first.second.ops, c.in_ok-first.ensures.one, c.in_ok-first.ensures.other, written.1), written.2)) c.write_difference.ensures.ok

pub returns-clause-err : goal.returns-clause-err
returns-clause-err g c =
    let first : Shelf = g.F.Files.shelf c.args.files.now in
    let last : Shelf = g.F.Files.shelf c.open_both.new.files in
    let before : Option (List ℕ) = g.W.Write.contents c.args.writer.now in
    let after : Option (List ℕ) = g.W.Write.contents c.write_difference.new.writer in
    IfErr-weaker c.write_difference.result (IsUnwritten c.args.one.feed.now c.args.other.now c.in_ok-first.first.ops c.in_ok-first.second.ops before after) (IsUnreported c.args.one c.args.other.now first last before after)
    (λ why unsaid. unwritten c.args.one c.args.other.now first last c.in_ok-first.first.ops c.in_ok-first.second.ops before after why c.in_ok-first.ensures.counted c.in_ok-first.ensures.one c.in_ok-first.ensures.other unsaid) c.write_difference.ensures.err
