use Rattle.std.proofs.Common.{ℕ, List, sym, subst}
use Rattle.std.specs.Prelude.{IfOk, Option}
use Rattle.std.specs.Borrow.{Bor}
use Rattle.view_punch.specs.Finding.{IsFoundIn}
use Rattle.view_punch.proofs.finding.found_in.Goals as goal

pub returns-in-Some-clause-ok : goal.returns-in-Some-clause-ok
returns-in-Some-clause-ok g c = subst
    (λ (metal : Option (Bor (List ℕ) × Bor (List ℕ))). IfOk c.found_with.result (λ t. IsFoundIn c.args.feed metal c.args.text.now (g.F.Files.shelf c.args.files.now) t.0.items t.1))
    (sym c.in-Some.is) c.found_with.ensures.ok
