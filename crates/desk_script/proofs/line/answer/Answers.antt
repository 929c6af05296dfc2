use Rattle.std.proofs.Common.{◌≡◌, subst, true}
use Rattle.script_answers.specs.NotDone.{reply_of}
use Rattle.script_answers.specs.Reply.{is_long, reply_values}
use Rattle.desk_script.specs.Desk.{desk}
use Rattle.desk_script.specs.Line.{line_of}
use Rattle.desk_script.proofs.Asking.{allows_same}
use Rattle.desk_script.proofs.Keeping.{allows_keep}
use Rattle.desk_script.proofs.line.answer.Goals as goal

pub returns-in-Ok-clause-sites : goal.returns-in-Ok-clause-sites
returns-in-Ok-clause-sites g c =
    allows_keep (desk c.args.world.now (g.F.Files.shelf c.args.files.now)) (desk c.do_line.new.world (g.F.Files.shelf c.do_line.new.files)) (line_of c.args.line.now) (reply_values c.in-Ok.reply) c.in-Ok.ensures.done

pub returns-in-Err-clause-sites : goal.returns-in-Err-clause-sites
returns-in-Err-clause-sites g c =
    allows_keep (desk c.args.world.now (g.F.Files.shelf c.args.files.now)) (desk c.do_line.new.world (g.F.Files.shelf c.do_line.new.files)) (line_of c.args.line.now) (reply_of c.in-Err.end) c.in-Err.ensures.done

pub returns-in-Ok-clause-unchanged : goal.returns-in-Ok-clause-unchanged
returns-in-Ok-clause-unchanged g c long =
    (allows_same (desk c.args.world.now (g.F.Files.shelf c.args.files.now)) (desk c.do_line.new.world (g.F.Files.shelf c.do_line.new.files)) (line_of c.args.line.now) (reply_values c.in-Ok.reply) long c.in-Ok.ensures.done).0

pub returns-in-Ok-clause-still : goal.returns-in-Ok-clause-still
returns-in-Ok-clause-still g c long =
    (allows_same (desk c.args.world.now (g.F.Files.shelf c.args.files.now)) (desk c.do_line.new.world (g.F.Files.shelf c.do_line.new.files)) (line_of c.args.line.now) (reply_values c.in-Ok.reply) long c.in-Ok.ensures.done).1

pub returns-in-Err-clause-answered : goal.returns-in-Err-clause-answered
returns-in-Err-clause-answered g c = rw c.from.ensures c.in-Err.ensures.done

pub returns-in-Err-clause-unchanged : goal.returns-in-Err-clause-unchanged
returns-in-Err-clause-unchanged g c long =
    (allows_same (desk c.args.world.now (g.F.Files.shelf c.args.files.now)) (desk c.do_line.new.world (g.F.Files.shelf c.do_line.new.files)) (line_of c.args.line.now) (reply_of c.in-Err.end) (subst (λ reply. is_long reply ≡ true) c.from.ensures long) c.in-Err.ensures.done).0

pub returns-in-Err-clause-still : goal.returns-in-Err-clause-still
returns-in-Err-clause-still g c long =
    (allows_same (desk c.args.world.now (g.F.Files.shelf c.args.files.now)) (desk c.do_line.new.world (g.F.Files.shelf c.do_line.new.files)) (line_of c.args.line.now) (reply_of c.in-Err.end) (subst (λ reply. is_long reply ≡ true) c.from.ensures long) c.in-Err.ensures.done).1
