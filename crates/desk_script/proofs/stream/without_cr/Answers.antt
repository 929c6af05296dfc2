use Rattle.std.proofs.Common.{◌≡◌, ◌++◌, ◌∷◌, [], rules}
use Rattle.desk_script.proofs.Cutting.{cr_taken, cr_absent}
use Rattle.desk_script.proofs.stream.without_cr.Goals as goal

pub returns-then-last-eq13 : goal.returns-then-last-eq13
returns-then-last-eq13 c =
    let e : c.args.line.now ≡ c.in-Some.prefix.now ++ c.in-Some.last.now ∷ [] = search rules in
    cr_taken _ c.in-Some.prefix.now c.in-Some.last.now e c.if-last-eq13.true

pub returns-else-last-eq13 : goal.returns-else-last-eq13
returns-else-last-eq13 c =
    let e : c.args.line.now ≡ c.in-Some.prefix.now ++ c.in-Some.last.now ∷ [] = search rules in
    cr_absent _ c.in-Some.prefix.now c.in-Some.last.now e c.if-last-eq13.false
