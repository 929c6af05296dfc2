use Rattle.std.proofs.Common.{subst, ◌++◌}
use Rattle.std.specs.Prelude.{codes}
use Rattle.std.specs.Fmt.{decimal}
use Rattle.program_desk.specs.Told.{GoesOn}
use Rattle.program_desk.proofs.explained.tell_place.Goals as goal

pub returns : goal.returns
returns g c = subst (λ why. GoesOn c.args.told.is_whole c.tell_two.result.is_whole (g.E.Write.contents c.args.faults.now) (g.E.Write.contents c.tell_two.new.faults) (codes ": line " ++ (decimal c.args.line ++ (codes ", column " ++ (decimal c.args.column ++ why))))) c.flaw_words.ensures c.tell_two.ensures
