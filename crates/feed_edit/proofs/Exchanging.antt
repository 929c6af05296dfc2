-- A text that is exchanged, and why it is not.
use Rattle.std.proofs.Common.{◌≡◌, ◌⊎◌, inl, inr, ℕ, ◌<◌, List, [], length, refl, sym, ap, ◌∙◌, subst}
use Rattle.std.specs.Prelude.{◌≢◌}
use Rattle.desk_ops.specs.OpSet.{OpSet, max_ops}
use Rattle.desk_ops.specs.declared.op.Symbol.{Symbol}
use Rattle.feed_edit.specs.Editing.{IsUnrevised}
use Rattle.feed_edit.specs.Reporting.{taken}
use Rattle.feed_edit.specs.Replacing.{IsExchanged, IsUnmade, replaced_at}
use Rattle.feed_edit.specs.declared.texts.Where.{Where}
use Rattle.feed_edit.specs.declared.fault.RevisionFault.{RevisionFault}
use Rattle.feed_edit.specs.declared.fault.RevisionFault.TheVariants as revisions

pub exchanged_is : (at : Where) (old new copy text : List Symbol) (places : List ℕ) → places ≡ taken at old copy → places ≢ [] → text ≡ replaced_at places (length old) new copy → IsExchanged at old new copy text
exchanged_is at old new copy text places is some made = ((λ none. some (is ∙ none)), made ∙ ap (λ l. replaced_at l (length old) new copy) is)

-- a copy that was not made, since it has no room or memory ran out
pub unmade : (site : ℕ) (was : OpSet) (text : List Symbol) (why : RevisionFault) → (why ≡ revisions.NoMemory) ⊎ ((why ≡ revisions.Full) × (max_ops < length text)) → IsUnmade site was text why
unmade site was text why (inr full) = inl full
unmade site was text why (inl is) =
    inr (was, subst (λ w. IsUnrevised site was was text w) (sym is) (inl refl), (λ same. is), λ value. absurd (let e : revisions.NoMemory ≡ revisions.Value = sym is ∙ value in cc))
