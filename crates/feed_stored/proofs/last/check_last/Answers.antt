use Rattle.std.proofs.Common.{◌≡◌, ◌∙◌, ℕ, ◌<◌, ◌≤◌, List, ap, sym, subst, arith}
use Rattle.std.specs.Prelude.{Result, Ok, Err}
use Rattle.feed_files.specs.Files.{Shelf}
use Rattle.feed_files.specs.declared.files.FileRefusal.{FileRefusal}
use Rattle.feed_stored.specs.Greatest.{greatest_of}
use Rattle.feed_stored.specs.Last.{IsNotOlder, Says}
use Rattle.feed_stored.proofs.Places.{says_one, some_of}
use Rattle.feed_stored.proofs.last.check_last.Goals as goal

-- what says no more than is held says of nothing more
no_more : (read : Result (List ℕ) FileRefusal) (site made held : ℕ) → Says read site made → made ≤ held → (other : ℕ) → Says read site other → held < other → ⊥
no_more (Ok bytes) site made held says few other again more = let one : made ≡ other = says_one bytes site made other says again in omega (arith, one, few, more)
no_more (Err why) site made held says few other again more = says

pub returns-clause-ok : goal.returns-clause-ok
returns-clause-ok g c =
    let all = c.in_ok-made.ensures.ok in
    let said = some_of _ _ c.in_ok-made.field-0 c.in-Some.made c.in-Some.is all.4 in
    let few : c.in-Some.made ≤ c.in_ok-held.held = omega (arith, c.if-held-made.false) in
    let held : c.in_ok-held.held ≡ greatest_of c.args.replica.now.ops c.site-site.result = c.in_ok-held.ensures in
    let before : Shelf = g.F.Files.shelf c.args.files.now in
    let after : Shelf = g.F.Files.shelf c.made_here.new.files in
    let so_far : IsNotOlder c.args.name.now c.site-site.result c.in_ok-held.held before after = (all.0, all.1, all.2, all.3, λ other again more. no_more all.0 c.site-site.result c.in-Some.made c.in_ok-held.held said few other again more) in
    subst (λ (n : ℕ). IsNotOlder c.args.name.now n (greatest_of c.args.replica.now.ops n) before after) c.site-site.ensures.value (subst (λ (h : ℕ). IsNotOlder c.args.name.now c.site-site.result h before after) held so_far)
