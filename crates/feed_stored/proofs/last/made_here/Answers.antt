use Rattle.std.proofs.Common.{◌≡◌, ◌∙◌, List, ℕ, ap, subst}
use Rattle.std.specs.Prelude.{MatchOption, Ok, Err}
use Rattle.std.proofs.lemmas.Result.{IfOk-weaker}
use Rattle.feed_files.specs.Files.{Reads, Shelf}
use Rattle.feed_stored.specs.Text.{Records}
use Rattle.feed_stored.proofs.last.made_here.Goals as goal

pub returns-in-Ok-clause-ok : goal.returns-in-Ok-clause-ok
returns-in-Ok-clause-ok g c =
    let shelf : Shelf = g.F.Files.shelf c.args.files.now in
    let named = c.as_str.ensures.value ∙ c.in_ok-last.ensures in
    let given = subst (λ (n : List ℕ). Reads (shelf.kept n) (Ok c.in-Ok.bytes.items)) named c.in-Ok.ensures.given in
    IfOk-weaker c.recorded.result _ _ (λ o said. (Ok c.in-Ok.bytes.items, given, c.in-Ok.ensures.counted, (λ e. cc), subst (λ (b : List ℕ). MatchOption o ((made : ℕ) → Records b c.args.site made → ⊥) (λ made. Records b c.args.site made)) c.deref.ensures.value said)) c.recorded.ensures
