use Rattle.std.proofs.Common.{◌∙◌, sym}
use Rattle.desk_replica.proofs.Known.{not_known}
use Rattle.desk_replica.proofs.is_known.Goals as goal

pub returns-else-is_borne : goal.returns-else-is_borne
returns-else-is_borne g c = c.if-is_borne.false ∙ sym (not_known c.args.held.now.ops c.args.op.now (sym c.requires ∙ c.if-is_borne.false))
