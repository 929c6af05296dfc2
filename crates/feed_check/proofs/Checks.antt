-- Lines, one after the other.
use Rattle.std.proofs.Common.{◌≡◌, ◌∙◌, ℕ, ◌+◌, ◌<◌, Bool, true, false, ◌&&◌, List, [], ◌∷◌, ◌++◌, inl, inr, length, map, take, drop, get_or, refl, sym, ap, subst, append_assoc, append-nil}
use Rattle.std.specs.Prelude.{Option}
use Rattle.std.proofs.KnownBytes.{Appends-trans}
use Rattle.std.proofs.lemmas.List.{map_more}
use Rattle.feed_files.specs.Files.{Shelf}
use Rattle.feed_edit.proofs.Joining.{place}
use Rattle.feed_check.specs.Checking.{AreLines, AreWritten, IsChecked, IsEnded, IsLine, IsUnchecked, IsUnended, IsUnsaid, SaysLine}
use Rattle.feed_check.specs.Metal.{IsMetal, unfit_of}
use Rattle.feed_check.specs.declared.metal.Found.{Found}
use Rattle.feed_check.specs.declared.metal.Metal.{Metal}
use Rattle.feed_check.proofs.Onlies.{unfit_is}
use Rattle.feed_check.specs.declared.fault.CheckFault.{CheckFault}

abbrev pub Files : Type 0
Files = List (List ℕ × Found)

and_more : (a b c : Bool) → a && (b && c) ≡ (a && b) && c
and_more true b c = refl
and_more false b c = refl

and_true : (a : Bool) → a && true ≡ a
and_true true = refl
and_true false = refl

-- the lines of some names, and of one more
pub lines_more : (names : List (List ℕ)) (name : List ℕ) (first mid last : Shelf) (lines line : List ℕ) (well one : Bool) (files : Files) (found : Found) → AreLines names first mid lines well files → IsLine name mid last line one found
    → AreLines (names ++ name ∷ []) first last (lines ++ line) (well && one) (files ++ (name, found) ∷ [])
lines_more [] name first mid last lines line well one files found (same, empty, all, none) is = (
  last,
  line,
  [],
  one,
  true,
  found,
  [],
  subst (λ (s : Shelf). IsLine name s last line one found) same is,
  (refl, refl, refl, refl),
  ap (λ l. l ++ line) empty ∙ sym (append-nil line),
  ap (λ b. b && one) all ∙ sym (and_true one),
  ap (λ fs. fs ++ (name, found) ∷ []) none,
)
lines_more (n ∷ names) name first mid last lines line well one files found (between, l, rest, head, others, its, more, is_head, are, joined, both, all_files) is = (
  between,
  l,
  rest ++ line,
  head,
  others && one,
  its,
  more ++ (name, found) ∷ [],
  is_head,
  lines_more names name between mid last rest line others one more found are is,
  ap (λ k. k ++ line) joined ∙ append_assoc l rest line,
  ap (λ b. b && one) both ∙ sym (and_more head others one),
  ap (λ fs. fs ++ (name, found) ∷ []) all_files,
)

pub written_more : (names : List (List ℕ)) (name : List ℕ) (first mid last : Shelf) (before between after : Option (List ℕ)) (well one : Bool) (files : Files) (found : Found) → AreWritten names first mid before between well files
    → SaysLine name mid last between after one found → AreWritten (names ++ name ∷ []) first last before after (well && one) (files ++ (name, found) ∷ [])
written_more names name first mid last before between after well one files found (lines, are, written) (line, is, more) =
    (lines ++ line, lines_more names name first mid last lines line well one files found are is, Appends-trans before between after lines line written more)

-- files before an index: their lines were written, and of those that are a case or a wedge the one is kept
pub record AreChecked (names : List (List ℕ)) (first last : Shelf) (before after : Option (List ℕ)) (well : Bool) (metal : Metal) : Type 0 where
  pub files : Files
  pub written : AreWritten names first last before after well files
  pub kept : IsMetal metal files

module _ {X : Type 0} (f : X → List ℕ) (xs : List X) (at : ℕ) (d : X) (lt : at < length xs) where
  pub more_checked : (first mid last : Shelf) (before between after : Option (List ℕ)) (well one all : Bool) (metal next : Metal) (found : Found) → AreChecked (map f (take at xs)) first mid before between well metal
      → SaysLine (f (get_or xs at d)) mid last between after one found → all ≡ well && one → ((files : Files) → IsMetal metal files → IsMetal next (files ++ (f (get_or xs at d), found) ∷ []))
      → AreChecked (map f (take (at + 1) xs)) first last before after all next
  more_checked first mid last before between after well one all metal next found h says both more = record {
    files = h.files ++ (f (get_or xs at d), found) ∷ [];
    written =
        subst (λ b. AreWritten (map f (take (at + 1) xs)) first last before after b (h.files ++ (f (get_or xs at d), found) ∷ [])) (sym both)
        (subst (λ ns. AreWritten ns first last before after (well && one) (h.files ++ (f (get_or xs at d), found) ∷ [])) (sym (map_more f xs at d lt))
        (written_more (map f (take at xs)) (f (get_or xs at d)) first mid last before between after well one h.files found h.written says));
    kept = more h.files h.kept;
  }

  pub stops_at : (first mid last : Shelf) (before between after : Option (List ℕ)) (well : Bool) (metal : Metal) (fault : CheckFault) → AreChecked (map f (take at xs)) first mid before between well metal
      → IsUnsaid (f (get_or xs at d)) mid last between after fault → IsUnchecked (map f xs) first last before after fault
  stops_at first mid last before between after well metal fault h unsaid =
      inl (map f (take at xs), map f (drop (at + 1) xs), f (get_or xs at d), place f xs at d lt, mid, between, well, h.files, h.written, unsaid)

module _ (names : List (List ℕ)) (first last : Shelf) (before between after : Option (List ℕ)) (well : Bool) (metal : Metal) (h : AreChecked names first last before between well metal) where
  -- the last line was written, or there is none
  pub all_checked : (fit all : Bool) → IsEnded (unfit_of metal) between after fit → all ≡ well && fit → IsChecked names first last before after all
  all_checked fit all ended both =
      (between, well, fit, h.files, h.written, subst (λ line. IsEnded line between after fit) (unfit_is metal h.files h.kept) ended, both)

  -- it was not written
  pub stops_behind : (fault : CheckFault) → IsUnended (unfit_of metal) between after fault → IsUnchecked names first last before after fault
  stops_behind fault unended = inr (between, well, h.files, h.written, subst (λ line. IsUnended line between after fault) (unfit_is metal h.files h.kept) unended)
