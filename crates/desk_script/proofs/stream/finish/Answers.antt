use Rattle.std.proofs.Common.{◌∷◌, [], rules, subst, sym}
use Rattle.feed_files.proofs.Shelves.{stays_same}
use Rattle.desk_script.specs.Desk.{desk}
use Rattle.desk_script.specs.Line.{line_of}
use Rattle.desk_script.specs.Script.{StopsWithin, Turn}
use Rattle.desk_script.proofs.Bytes.{on_err}
use Rattle.desk_script.proofs.Cutting.{last_some}
use Rattle.desk_script.proofs.Turns.{turn_kept, turn_stops}
use Rattle.desk_script.proofs.stream.finish.Goals as goal

pub returns-in_err-take_line-clause-err : goal.returns-in_err-take_line-clause-err
returns-in_err-take_line-clause-err g c =
    on_err c.from_residual.result (subst (StopsWithin (desk c.args.world.now (g.F.Files.shelf c.args.files.now)) (g.F.Files.shelf c.take_line.new.files) (g.W.Write.contents c.args.writer.now) (g.W.Write.contents c.take_line.new.writer)) (sym (last_some c.args.line.now (search rules))) (c.in_err-take_line.ensures.err []))

pub returns-clause-ok : goal.returns-clause-ok
returns-clause-ok g c =
    let old = desk c.args.world.now (g.F.Files.shelf c.args.files.now) in
    let new = desk c.take_line.new.world (g.F.Files.shelf c.take_line.new.files) in
    subst (Turn old new (g.W.Write.contents c.args.writer.now) (g.W.Write.contents c.let_out.new.writer)) (sym (last_some c.args.line.now (search rules)))
    (turn_kept old new (g.W.Write.contents c.args.writer.now) (g.W.Write.contents c.take_line.new.writer) (g.W.Write.contents c.let_out.new.writer) (line_of c.args.line.now ∷ []) c.in_ok-take_line.ensures.ok c.let_out.ensures)

pub returns-in_err-let_out-clause-err : goal.returns-in_err-let_out-clause-err
returns-in_err-let_out-clause-err g c =
    let old = desk c.args.world.now (g.F.Files.shelf c.args.files.now) in
    let new = desk c.take_line.new.world (g.F.Files.shelf c.take_line.new.files) in
    on_err c.from_residual-in_err-let_out.result (subst (StopsWithin old (g.F.Files.shelf c.take_line.new.files) (g.W.Write.contents c.args.writer.now) (g.W.Write.contents c.let_out.new.writer)) (sym (last_some c.args.line.now (search rules)))
    (turn_stops old new (g.F.Files.shelf c.take_line.new.files) (g.W.Write.contents c.args.writer.now) (g.W.Write.contents c.let_out.new.writer) (line_of c.args.line.now ∷ []) [] (stays_same _)
    (turn_kept old new (g.W.Write.contents c.args.writer.now) (g.W.Write.contents c.take_line.new.writer) (g.W.Write.contents c.let_out.new.writer) (line_of c.args.line.now ∷ []) c.in_ok-take_line.ensures.ok c.let_out.ensures)))
