use Rattle.view_punch.proofs.AllRows.{not_begun}
use Rattle.view_punch.proofs.punching.first_of.Goals as goal

pub returns-in-Err-clause-err : goal.returns-in-Err-clause-err
returns-in-Err-clause-err g c =
    not_begun c.args.faulty c.args.from.now (g.F.Files.shelf c.args.files.now) (g.F.Files.shelf c.begin.new.files) (g.W.Write.contents c.args.writer.now) (g.W.Write.contents c.begin.new.writer) c.in-Err.why c.in-Err.ensures.err
