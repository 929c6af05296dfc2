-- The name under which a file is written.
use Rattle.std.proofs.Common.{◌≡◌, ℕ, ◌+◌, ◌<◌, Bool, true, false, not, IsTrue, List, ◌++◌, length, take, drop, nat_eq, refl, sym, ap, ap₂, ◌∙◌, subst, arith, length-append}
use Rattle.std.specs.Prelude.{codes}
use Rattle.std.proofs.Math.Seq.{take-append_seam, drop-append_seam}
use Rattle.std.specs.Cmp.Lexicographic.{pointwise, same_text}
use Rattle.std.proofs.lemmas.Bool.{false≢true}
use Rattle.std.proofs.lemmas.Cmp.{nat_list_eq_equiv}
use Rattle.std.proofs.lemmas.List.{take-append-drop}
use Rattle.feed_files.specs.Files.{new_name}

pub named_front : (new feed : List ℕ) → feed ≡ new_name new → take (length new) feed ≡ new
named_front new feed named = ap (take (length new)) named ∙ take-append_seam new (codes ".new")

pub named_end : (new feed : List ℕ) → feed ≡ new_name new → drop (length new) feed ≡ codes ".new"
named_end new feed named = ap (drop (length new)) named ∙ drop-append_seam new (codes ".new")

pub named_so : (new feed : List ℕ) → take (length new) feed ≡ new → drop (length new) feed ≡ codes ".new" → feed ≡ new_name new
named_so new feed front end = sym (take-append-drop (length new) feed) ∙ ap₂ (λ a b. a ++ b) front end

pub equal_texts : (xs ys : List ℕ) → xs ≡ ys → pointwise nat_eq xs ys ≡ true
equal_texts xs ys same = subst (λ (zs : List ℕ). pointwise nat_eq xs zs ≡ true) same (nat_list_eq_equiv.refl xs)

-- a test that the front is another
pub front_apart : (new feed front : List ℕ) (b : Bool) → front ≡ take (length new) feed → b ≡ not (pointwise nat_eq front new) → b ≡ true → feed ≡ new_name new → ⊥
front_apart new feed front b cut is apart named =
    let same : front ≡ new = cut ∙ named_front new feed named in
    false≢true (sym (is ∙ ap not (equal_texts front new same)) ∙ apart)

-- a test that the front is the name, and one that the end is that of a writing
pub end_decides : (new feed front back : List ℕ) (b e : Bool) → front ≡ take (length new) feed → back ≡ drop (length new) feed → b ≡ not (pointwise nat_eq front new) → b ≡ false → e ≡ pointwise nat_eq back (codes ".new")
    → (IsTrue e → feed ≡ new_name new) × (feed ≡ new_name new → IsTrue e)
end_decides new feed front back b e cut rest is same ends = (so, back_so)
  where
    front_is : (p : Bool) → pointwise nat_eq front new ≡ p → not p ≡ false → front ≡ new
    front_is true k n = same_text front new (sym k)
    front_is false k n = absurd (false≢true (sym n))

    so : IsTrue e → feed ≡ new_name new
    so h = named_so new feed (sym cut ∙ front_is (pointwise nat_eq front new) refl (sym is ∙ same)) (sym rest ∙ same_text back (codes ".new") (sym h ∙ ends))

    back_so : feed ≡ new_name new → IsTrue e
    back_so named = ends ∙ equal_texts back (codes ".new") (rest ∙ named_end new feed named)
