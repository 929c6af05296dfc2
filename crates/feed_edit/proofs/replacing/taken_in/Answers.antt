use Rattle.std.proofs.Common.{List, subst, sym}
use Rattle.desk_ops.specs.declared.op.Symbol.{Symbol}
use Rattle.text_copy.specs.Laws.{AreLawful}
use Rattle.feed_edit.proofs.Lawful.{copy_lawful}
use Rattle.feed_edit.proofs.replacing.taken_in.Goals as goal

pub returns-clause-lawful : goal.returns-clause-lawful
returns-clause-lawful g c = subst (λ (l : List Symbol). AreLawful l) (sym c.in_ok-copy.ensures.copy) (copy_lawful c.args.replica.now.ops c.in_ok-copy.ensures.lawful)
