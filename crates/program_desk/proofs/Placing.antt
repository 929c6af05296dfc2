-- Drawings that take no place but their own.
use Rattle.std.proofs.Common.{◌≡◌, ◌∙◌, ◌⊎◌, inl, inr, List, ℕ, Option, Some, None, ap, subst, sym}
use Rattle.std.specs.Borrow.{Bor}
use Rattle.program_desk.specs.Depicting.{DocumentTakes, IsMisplaced, IsNameOf, IsOrNone, IsSourceOf, PictureTakes}
use Rattle.program_desk.specs.declared.causes.Cause.{Cause}
use Rattle.program_desk.specs.declared.previews.Preview.{Preview}

-- the name that is given, or another
abbrev name_in : Bor (List ℕ) → Option (Bor (List ℕ)) → Bor (List ℕ)
name_in other None = other
name_in other (Some name) = name

pub picture_spares : (asked : Preview) (target : Bor (List ℕ)) → asked.drawings.picture ≡ Some target → (IsSourceOf asked.job target.now → ⊥) → (cause : Cause) → PictureTakes asked cause → ⊥
picture_spares asked target is spares cause (other, too, source, told) =
    let same : other ≡ target = ap (name_in target) (sym too ∙ is) in
    spares (subst (λ (t : Bor (List ℕ)). IsSourceOf asked.job t.now) same source)

pub no_picture : (asked : Preview) → asked.drawings.picture ≡ None → (cause : Cause) → PictureTakes asked cause → ⊥
no_picture asked is cause (other, too, source, told) =
    let bad : None ≡ Some other = sym is ∙ too in
    cc

pub document_spares : (asked : Preview) (target : Bor (List ℕ)) → asked.drawings.document ≡ Some target → (IsNameOf asked.drawings.picture target.now ⊎ IsSourceOf asked.job target.now → ⊥) → (cause : Cause) → DocumentTakes asked cause → ⊥
document_spares asked target is spares cause (other, too, source, told) =
    let same : other ≡ target = ap (name_in target) (sym too ∙ is) in
    spares (subst (λ (t : Bor (List ℕ)). IsNameOf asked.drawings.picture t.now ⊎ IsSourceOf asked.job t.now) same source)

pub no_document : (asked : Preview) → asked.drawings.document ≡ None → (cause : Cause) → DocumentTakes asked cause → ⊥
no_document asked is cause (other, too, source, told) =
    let bad : None ≡ Some other = sym is ∙ too in
    cc

-- where the picture takes no place it is as with the document
pub or_document : (asked : Preview) (o : Option Cause) → ((cause : Cause) → PictureTakes asked cause → ⊥) → IsOrNone (DocumentTakes asked) o → IsMisplaced asked o
or_document asked (Some cause) none takes = inr takes
or_document asked None none spares = λ cause taken. elim taken [
  | inl picture ↦ none cause picture
  | inr document ↦ spares cause document
]
