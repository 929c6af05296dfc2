use Rattle.std.proofs.Common.{subst}
use Rattle.std.proofs.lemmas.Result.{IfErr-weaker, on_ok_weaker}
use Rattle.desk_script.specs.Desk.{desk}
use Rattle.script_world.specs.Sites.{Sites}
use Rattle.desk_script.specs.Sheet.{IsDone, IsStopped}
use Rattle.desk_script.proofs.sheet.run_sheet.Goals as goal

pub returns-clause-ok : goal.returns-clause-ok
returns-clause-ok g c =
    let new = desk c.answer_lines.new.world (g.F.Files.shelf c.answer_lines.new.files) in
    on_ok_weaker c.answer_lines.result (λ done. (c.answer_lines.new.world, subst (λ (s : Sites). IsDone c.args.mode (desk s (g.F.Files.shelf c.args.files.now)) new (g.R.Read.remaining c.args.reader.now) (g.W.Write.contents c.args.writer.now) (g.W.Write.contents c.answer_lines.new.writer)) c.new-world.ensures.sites done)) c.answer_lines.ensures.ok

pub returns-clause-err : goal.returns-clause-err
returns-clause-err g c =
    let new = desk c.answer_lines.new.world (g.F.Files.shelf c.answer_lines.new.files) in
    IfErr-weaker c.answer_lines.result _ _ (λ why stopped. (c.answer_lines.new.world, subst (λ (s : Sites). IsStopped c.args.mode (desk s (g.F.Files.shelf c.args.files.now)) new (g.R.Read.remaining c.args.reader.now) (g.W.Write.contents c.args.writer.now) (g.W.Write.contents c.answer_lines.new.writer) why) c.new-world.ensures.sites stopped)) c.answer_lines.ensures.err
