use Rattle.std.proofs.Common.{map, refl, take}
use Rattle.std.proofs.lemmas.Result.{err_from_is_err_and}
use Rattle.feed_files.proofs.Shelves.{stays_trans}
use Rattle.feed_check.proofs.Checks.{all_checked, more_checked, stops_at, stops_behind}
use Rattle.feed_check.proofs.checking.check_files.Goals as goal

pub returns-in_err-well-clause-err : goal.returns-in_err-well-clause-err
returns-in_err-well-clause-err g c =
    let p = err_from_is_err_and c.from_residual.result c.from_residual.ensures.1 in
    rw p.1 (rw p.2 (stops_at (λ n. n.now) c.args.names.now c.loop-at.at _ c.loop-at-test.true (g.F.Files.shelf c.args.files.now) (g.F.Files.shelf c.loop-at.files) (g.F.Files.shelf c.check_file.new.files) (g.W.Write.contents c.args.writer.now)
    (g.W.Write.contents c.loop-at.writer) (g.W.Write.contents c.check_file.new.writer) c.loop-at.all c.loop-at.metal c.in_err-well.field-0.0 c.loop-at.invariant.checked c.in_err-well.ensures.err))

pub loop-at-preserved : goal.loop-at-preserved
loop-at-preserved g c = record {
  checked =
      more_checked (λ n. n.now) c.args.names.now c.loop-at.at _ c.loop-at-test.true (g.F.Files.shelf c.args.files.now) (g.F.Files.shelf c.loop-at.files) (g.F.Files.shelf c.check_file.new.files) (g.W.Write.contents c.args.writer.now)
      (g.W.Write.contents c.loop-at.writer) (g.W.Write.contents c.check_file.new.writer) c.loop-at.all c.in_ok-well.well c.both-all.result c.loop-at.metal c.with-metal.result c.in_ok-well.found c.loop-at.invariant.checked
      c.in_ok-well.ensures.ok c.both-all.ensures c.with-metal.ensures;
  stays = stays_trans c.loop-at.invariant.stays c.check_file.ensures.stays;
}
