use Rattle.desk_caster.proofs.CastLaw as law
use Rattle.desk_caster.proofs.laws.lines_come_back.Goals as goal

pub returns : goal.returns
returns g c = law.lines_come_back c.args.case.now c.args.wedge.now c.args.lines.now c.requires
