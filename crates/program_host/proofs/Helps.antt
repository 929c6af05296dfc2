-- Lines `help` that a reader answers itself, one after the other.
use Rattle.std.proofs.Common.{◌≡◌, ℕ, Bool, true, List, [], ◌∷◌, ◌++◌, ap, subst, sym, ◌∙◌}
use Rattle.std.specs.Prelude.{Option}
use Rattle.std.specs.List.{concat}
use Rattle.std.specs.Io.KnownBytes.{Consumes}
use Rattle.std.proofs.KnownBytes.{Consumes-trans}
use Rattle.std.proofs.lemmas.List.{append-nil}
use Rattle.std.proofs.lemmas.List.Elements.{All-push}
use Rattle.std.proofs.lemmas.List.Folds.{concat-append}
use Rattle.program_host.specs.Prompt.{IsHelped, asks_help}

-- the lines, and one more
joined : (helps : List (List ℕ)) (line : List ℕ) → concat helps ++ line ≡ concat (helps ++ line ∷ [])
joined helps line = sym (concat-append helps (line ∷ []) ∙ ap (λ l. concat helps ++ l) (append-nil line))

-- one more, where a line begins
pub one_more : (begins : Bool) (old mid new : Option (List ℕ)) (line : List ℕ) → IsHelped begins old mid → begins ≡ true → asks_help line ≡ true → Consumes mid new line → IsHelped begins old new
one_more begins old mid new line (helps, all, none, taken) is_true asks more = (
  helps ++ line ∷ [],
  All-push (λ l. asks_help l ≡ true) helps line all asks,
  λ is_false. cc,
  subst (Consumes old new) (joined helps line) (Consumes-trans old mid new (concat helps) line taken more),
)
