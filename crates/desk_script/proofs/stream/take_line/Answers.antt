use Rattle.feed_files.proofs.Shelves.{stays_same}
use Rattle.std.proofs.Common.{ap₂, refl}
use Rattle.std.proofs.lemmas.Result.{on_err_weaker, on_ok_weaker}
use Rattle.script_answers.specs.Reply.{reply_values}
use Rattle.desk_script.specs.Desk.{desk}
use Rattle.desk_script.specs.Line.{line_of}
use Rattle.desk_script.proofs.Turns.{one_prefix, one_turn, reported_allowed}
use Rattle.desk_script.proofs.stream.take_line.Goals as goal

pub returns-clause-ok : goal.returns-clause-ok
returns-clause-ok g c =
    let old = desk c.args.world.now (g.F.Files.shelf c.args.files.now) in
    let new = desk c.answer-reply.new.world (g.F.Files.shelf c.answer-reply.new.files) in
    let line = line_of c.args.line.now in
    on_ok_weaker c.report.result (λ (r, reported, written). one_turn old new _ _ line _ r (reported_allowed old new line (reply_values c.answer-reply.result) r c.answer-reply.ensures.answered (λ long. ap₂ desk (c.answer-reply.ensures.unchanged long) (c.answer-reply.ensures.still long)) reported) refl written) c.report.ensures.ok

pub returns-clause-err : goal.returns-clause-err
returns-clause-err g c =
    let old = desk c.args.world.now (g.F.Files.shelf c.args.files.now) in
    let new = desk c.answer-reply.new.world (g.F.Files.shelf c.answer-reply.new.files) in
    let line = line_of c.args.line.now in
    on_err_weaker c.report.result (λ (r, reported, written) more. one_prefix old new (g.F.Files.shelf c.answer-reply.new.files) _ _ line _ r more (stays_same _) (reported_allowed old new line (reply_values c.answer-reply.result) r c.answer-reply.ensures.answered (λ long. ap₂ desk (c.answer-reply.ensures.unchanged long) (c.answer-reply.ensures.still long)) reported) refl written) c.report.ensures.err

pub returns-clause-sites : goal.returns-clause-sites
returns-clause-sites g c = on_ok_weaker c.report.result (λ reported. c.answer-reply.ensures.sites) c.report.ensures.ok
