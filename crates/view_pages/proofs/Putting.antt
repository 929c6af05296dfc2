-- Pages that are stored one after the other.
use Rattle.std.proofs.Common.{◌≡◌, ℕ, ◌+◌, ◌<◌, List, ◌∷◌, length, drop, get_or, refl, sym, ap, ◌∙◌, subst, inl, inr}
use Rattle.std.proofs.lemmas.List.{at_drop_more}
use Rattle.std.specs.Prelude.{IfSome, Option, Some, None}
use Rattle.feed_files.specs.Files.{Hold, Free, HoldsOn, Shelf, Touched, Untouched, touched}
use Rattle.view_preview.specs.declared.job.Job.{Job}
use Rattle.view_preview.specs.declared.fault.PreviewFault.{PreviewFault}
use Rattle.view_pages.specs.Numbering.{ArePut, AreUnput, IsPut, IsUnput, page_name}

-- what is touched twice is touched
pub holds_twice : (a b c : Hold) → HoldsOn a b → HoldsOn b c → HoldsOn a c
holds_twice a b c (inl e) on = subst (λ (h : Hold). HoldsOn h c) e on
holds_twice a b c (inr e) (inl f) = inr (f ∙ e)
holds_twice a b c (inr e) (inr f) = inr (f ∙ ap touched e ∙ again a)
  where
    again : (h : Hold) → touched (touched h) ≡ touched h
    again Free = refl
    again (Untouched name) = refl
    again (Touched name) = refl

-- the texts from the n-th on are that text and those behind it
pub from_text : (texts : List (List ℕ)) (n : ℕ) (d text : List ℕ) → n < length texts → get_or texts n d ≡ text → drop n texts ≡ text ∷ drop (n + 1) texts
from_text texts n d text lt is = at_drop_more (λ xs. xs) texts n d lt ∙ ap (λ t. t ∷ drop (n + 1) texts) is

-- one more page that is put
pub next_put : (job : Job) (name : List ℕ) (n : ℕ) (texts : List (List ℕ)) (text : List ℕ) (first mid last : Shelf) → drop n texts ≡ text ∷ drop (n + 1) texts
    → IsPut job (page_name name (n + 1)) text first mid → ArePut job name (n + 1 + 1) (drop (n + 1) texts) mid last → ArePut job name (n + 1) (drop n texts) first last
next_put job name n texts text first mid last is put rest = subst (λ ts. ArePut job name (n + 1) ts first last) (sym is) (mid, put, rest)

-- a page behind it that is not put
pub next_unput : (job : Job) (name : List ℕ) (n : ℕ) (texts : List (List ℕ)) (text : List ℕ) (first mid last : Shelf) (fault : PreviewFault) → drop n texts ≡ text ∷ drop (n + 1) texts
    → IsPut job (page_name name (n + 1)) text first mid → AreUnput job name (n + 1 + 1) (drop (n + 1) texts) mid last fault → AreUnput job name (n + 1) (drop n texts) first last fault
next_unput job name n texts text first mid last fault is put rest = subst (λ ts. AreUnput job name (n + 1) ts first last fault) (sym is) (inr (mid, put, rest))

-- the page itself
pub this_unput : (job : Job) (name : List ℕ) (n : ℕ) (texts : List (List ℕ)) (text : List ℕ) (first last : Shelf) (fault : PreviewFault) → drop n texts ≡ text ∷ drop (n + 1) texts
    → IsUnput job (page_name name (n + 1)) first last fault → AreUnput job name (n + 1) (drop n texts) first last fault
this_unput job name n texts text first last fault is unput = subst (λ ts. AreUnput job name (n + 1) ts first last fault) (sym is) (inl unput)

-- what holds of a value holds if there is one
pub some_weaker : {T : Type 0} (o : Option T) (P Q : T → Type 0) → ((x : T) → P x → Q x) → IfSome o P → IfSome o Q
some_weaker None P Q f h = tt
some_weaker (Some x) P Q f h = f x h
