use Rattle.std.proofs.Common.{List, ℕ, subst, sym}
use Rattle.program_desk.specs.Explained.{other_words}
use Rattle.program_desk.specs.Told.{GoesOn, IsShown}
use Rattle.program_desk.proofs.explained.tell_other.Goals as goal

pub returns-in-Case : goal.returns-in-Case
returns-in-Case g c = subst (λ other. (shown : List ℕ) × IsShown c.args.feed.now shown × GoesOn c.args.told.is_whole c.tell_numbers.result.is_whole (g.E.Write.contents c.args.faults.now) (g.E.Write.contents c.tell_numbers.new.faults) (other_words other shown)) (sym c.in-Case.is) c.tell_numbers.ensures

pub returns-in-Wedge : goal.returns-in-Wedge
returns-in-Wedge g c = subst (λ other. (shown : List ℕ) × IsShown c.args.feed.now shown × GoesOn c.args.told.is_whole c.tell_numbers-in-Wedge.result.is_whole (g.E.Write.contents c.args.faults.now) (g.E.Write.contents c.tell_numbers-in-Wedge.new.faults) (other_words other shown)) (sym c.in-Wedge.is) c.tell_numbers-in-Wedge.ensures
