use Rattle.std.proofs.lemmas.Result.{on_err_weaker, on_ok_weaker}
use Rattle.script_world.specs.Sites.{no_sites}
use Rattle.desk_script.proofs.Carry.{run_before, run_whole, run_prefix}
use Rattle.desk_script.proofs.stream.run.Goals as goal

pub returns-clause-ok : goal.returns-clause-ok
returns-clause-ok g c =
    on_ok_weaker c.answer_all.result
    (run_whole c.new-world.result no_sites c.answer_all.new.world (g.F.Files.shelf c.args.files.now) (g.F.Files.shelf c.answer_all.new.files) (g.R.Read.remaining c.args.reader.now) _ _ c.new-world.ensures.sites) c.answer_all.ensures.ok

pub returns-clause-err : goal.returns-clause-err
returns-clause-err g c =
    on_err_weaker c.answer_all.result
    (run_prefix c.new-world.result no_sites (g.F.Files.shelf c.args.files.now) (g.F.Files.shelf c.answer_all.new.files) (g.R.Read.remaining c.args.reader.now) _ _ c.new-world.ensures.sites) c.answer_all.ensures.err

pub returns-clause-memory : goal.returns-clause-memory
returns-clause-memory g c is =
    run_before c.new-world.result no_sites (g.F.Files.shelf c.args.files.now) (g.F.Files.shelf c.answer_all.new.files) (g.R.Read.remaining c.args.reader.now) _ _ c.new-world.ensures.sites (c.answer_all.ensures.memory is)
