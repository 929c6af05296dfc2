use Rattle.std.proofs.Common.{subst, sym, ◌++◌}
use Rattle.std.specs.Prelude.{codes}
use Rattle.std.specs.Fmt.{decimal}
use Rattle.program_desk.specs.Headlines.{flaw_words, said_line}
use Rattle.program_desk.specs.Told.{GoesOn}
use Rattle.program_desk.proofs.headlines.tell_said.Goals as goal

pub returns-in-NoMemory : goal.returns-in-NoMemory
returns-in-NoMemory g c = subst (λ said. GoesOn c.args.told.is_whole c.tell_more.result.is_whole (g.E.Write.contents c.args.faults.now) (g.E.Write.contents c.tell_more.new.faults) (said_line said)) (sym c.in-NoMemory.is) c.tell_more.ensures

pub returns-in-Forks : goal.returns-in-Forks
returns-in-Forks g c = subst (λ said. GoesOn c.args.told.is_whole c.tell_more-in-Forks.result.is_whole (g.E.Write.contents c.args.faults.now) (g.E.Write.contents c.tell_more-in-Forks.new.faults) (said_line said)) (sym c.in-Forks.is) c.tell_more-in-Forks.ensures

pub returns-in-NoPlace : goal.returns-in-NoPlace
returns-in-NoPlace g c = subst (λ said. GoesOn c.args.told.is_whole c.tell_more-in-NoPlace.result.is_whole (g.E.Write.contents c.args.faults.now) (g.E.Write.contents c.tell_more-in-NoPlace.new.faults) (said_line said)) (sym c.in-NoPlace.is) c.tell_more-in-NoPlace.ensures

pub returns-in-Wipes : goal.returns-in-Wipes
returns-in-Wipes g c = subst (λ said. GoesOn c.args.told.is_whole c.tell_two.result.is_whole (g.E.Write.contents c.args.faults.now) (g.E.Write.contents c.tell_two.new.faults) (said_line said)) (sym c.in-Wipes.is) c.tell_two.ensures

pub returns-in-Text : goal.returns-in-Text
returns-in-Text g c = subst (λ said. GoesOn c.args.told.is_whole c.tell_two-in-Text.result.is_whole (g.E.Write.contents c.args.faults.now) (g.E.Write.contents c.tell_two-in-Text.new.faults) (said_line said)) (sym c.in-Text.is)
    (subst (λ words. GoesOn c.args.told.is_whole c.tell_two-in-Text.result.is_whole (g.E.Write.contents c.args.faults.now) (g.E.Write.contents c.tell_two-in-Text.new.faults) (words ++ (decimal c.in-Text.line ++ (codes ", column " ++ (decimal c.in-Text.column ++ flaw_words c.in-Text.why))))) c.origin_words.ensures
    (subst (λ words. GoesOn c.args.told.is_whole c.tell_two-in-Text.result.is_whole (g.E.Write.contents c.args.faults.now) (g.E.Write.contents c.tell_two-in-Text.new.faults) (c.origin_words.result.now ++ (decimal c.in-Text.line ++ (codes ", column " ++ (decimal c.in-Text.column ++ words))))) c.flaw_words.ensures c.tell_two-in-Text.ensures))
