-- The groups of a paragraph: one by one, and as the definition of what a group is.
use Rattle.std.proofs.Common.{◌≡◌, ◌⊎◌, inl, inr, ℕ, zero, suc, ◌+◌, ◌<◌, ◌≤◌, true, false, List, [], ◌∷◌, length, take, drop, get_or, refl, ap, arith, length-drop, add-zero, add-suc}
use Rattle.std.proofs.lemmas.Bool.{cases_lt, cases_order}
use Rattle.std.specs.Prelude.{ℤ, pos, ◌+ℤ◌, ◌≤ℤ◌, ◌<ℤ◌, int_le}
use Rattle.std.proofs.lemmas.Int.{ints, by_lt_z}
use Rattle.desk_lines.specs.Groups.{group_width, FitsIn, longest, first_group, groups, groups_upto, ranges, IsFirstGroup, AreGroups, GroupsAreGroups}
use Rattle.desk_lines.specs.declared.groups.Group.{Group}

-- the prefix with one word more
pub width_more : (space : ℤ) (words : List ℤ) (n : ℕ) → 1 ≤ n → n < length words →
    group_width space (take (suc n) words) ≡ (group_width space (take n words) +ℤ space) +ℤ get_or words n (pos 0)
width_more space [] n low below = absurd (omega arith)
width_more space (word ∷ []) n low below = absurd (omega arith)
width_more space (word ∷ next ∷ words) zero low below = absurd (omega arith)
width_more space (word ∷ next ∷ words) (suc zero) low below = omega (arith, ints)
width_more space (word ∷ next ∷ words) (suc (suc n)) low below =
    let e = width_more space (next ∷ words) (suc n) (omega arith) (omega arith) in
    omega (arith, ints, e)

-- No width is below 0.
abbrev pub NoneNegative : List ℤ → Type 0
NoneNegative words = (i : ℕ) → i < length words → pos 0 ≤ℤ get_or words i (pos 0)

-- a longer prefix is no narrower
pub width_rises : (space : ℤ) (words : List ℤ) (n k : ℕ) → pos 0 ≤ℤ space → NoneNegative words → 1 ≤ n → n + k ≤ length words →
    group_width space (take n words) ≤ℤ group_width space (take (n + k) words)
width_rises space words n zero room wide low within = rw add-zero (omega (arith, ints))
width_rises space words n (suc k) room wide low within =
    let shorter = width_rises space words n k room wide low (omega arith) in
    let more = width_more space words (n + k) (omega arith) (omega arith) in
    let next = wide (n + k) (omega arith) in
    rw add-suc (omega (arith, ints, shorter, more, next))

-- what the longest prefix of at most n + 1 words is
pub longest_cases : (space measure : ℤ) (words : List ℤ) (n : ℕ) →
    ((FitsIn space measure (take (suc n) words)) × (longest space measure words (suc n) ≡ suc n))
    ⊎ ((measure <ℤ group_width space (take (suc n) words)) × (longest space measure words (suc n) ≡ longest space measure words n))
longest_cases space measure words n =
    by_lt_z measure (group_width space (take (suc n) words))
    (λ wide. inr (wide, let e : int_le (group_width space (take (suc n) words)) measure ≡ false = grind (arith, ints) in rw e refl))
    (λ fits. inl (fits, let e : int_le (group_width space (take (suc n) words)) measure ≡ true = grind (arith, ints) in rw e refl))

pub longest_within : (space measure : ℤ) (words : List ℤ) (n : ℕ) → longest space measure words n ≤ n
longest_within space measure words zero = omega arith
longest_within space measure words (suc n) =
    elim (longest_cases space measure words n)
    [ inl f ↦ omega (arith, f.1) | inr f ↦ omega (arith, f.1, longest_within space measure words n) ]

-- it fits, where there is one
pub longest_fits : (space measure : ℤ) (words : List ℤ) (n : ℕ) → 1 ≤ longest space measure words n →
    FitsIn space measure (take (longest space measure words n) words)
longest_fits space measure words zero some = absurd (omega arith)
longest_fits space measure words (suc n) some =
    elim (longest_cases space measure words n)
    [ inl f ↦ rw f.1 f.0 | inr f ↦ rw f.1 (longest_fits space measure words n (rw f.1 at some)) ]

-- no longer one fits
pub longest_is : (space measure : ℤ) (words : List ℤ) (n m : ℕ) → longest space measure words n < m → m ≤ n →
    FitsIn space measure (take m words) → ⊥
longest_is space measure words zero m above within fits = omega arith
longest_is space measure words (suc n) m above within fits =
    elim (longest_cases space measure words n) [
      | inl f ↦ omega (arith, f.1)
      | inr f ↦ elim (cases_lt n m) [
        | inl last ↦ let e : m ≡ suc n = omega arith in let g = rw e at fits in let wide = f.0 in omega (arith, ints)
        | inr below ↦ longest_is space measure words n m (omega (arith, f.1)) below fits
      ]
    ]

-- the first group of words
pub first_group_is_first : (space measure : ℤ) (words : List ℤ) → 1 ≤ length words →
    IsFirstGroup space measure words (first_group space measure words)
first_group_is_first space measure words some = record {
  some = omega arith;
  within = omega (arith, longest_within space measure words (length words));
  fits = elim (cases_lt 1 (longest space measure words (length words))) [
    | inl more ↦ (let e : first_group space measure words ≡ longest space measure words (length words) = omega arith in
        inl (rw e (longest_fits space measure words (length words) (omega arith))))
    | inr one ↦ inr (omega arith)
  ];
  longest_one = λ n above within fits. longest_is space measure words (length words) n (omega arith) within fits;
}

-- there is one first group
pub first_group_only : (space measure : ℤ) (words : List ℤ) (m n : ℕ) →
    IsFirstGroup space measure words m → IsFirstGroup space measure words n → m < n → ⊥
first_group_only space measure words m n first second below =
    elim second.fits [ inl fits ↦ first.longest_one n below second.within fits | inr one ↦ omega (arith, first.some) ]

pub first_group_is : (space measure : ℤ) (words : List ℤ) (n : ℕ) → IsFirstGroup space measure words n →
    first_group space measure words ≡ n
first_group_is space measure words n first =
    let other = first_group_is_first space measure words (omega (arith, first.some, first.within)) in
    elim (cases_order (first_group space measure words) n) [
      | inl same ↦ same
      | inr apart ↦ elim apart [
        | inl below ↦ absurd (first_group_only space measure words (first_group space measure words) n other first below)
        | inr above ↦ absurd (first_group_only space measure words n (first_group space measure words) first other above)
      ]
    ]

-- enough turns are enough
pub enough_turns : (space measure : ℤ) (m n : ℕ) (words : List ℤ) → length words ≤ m → length words ≤ n →
    groups_upto m space measure words ≡ groups_upto n space measure words
enough_turns space measure zero zero words low high = refl
enough_turns space measure zero (suc n) [] low high = refl
enough_turns space measure zero (suc n) (word ∷ words) low high = absurd (omega arith)
enough_turns space measure (suc m) zero [] low high = refl
enough_turns space measure (suc m) zero (word ∷ words) low high = absurd (omega arith)
enough_turns space measure (suc m) (suc n) [] low high = refl
enough_turns space measure (suc m) (suc n) (word ∷ words) low high =
    let first = first_group_is_first space measure (word ∷ words) (omega arith) in
    let size = first_group space measure (word ∷ words) in
    let left : length (drop size (word ∷ words)) ≤ length words = simp length-drop (omega (arith, first.some)) in
    ap (λ (sizes : List ℕ). size ∷ sizes)
    (enough_turns space measure m n (drop size (word ∷ words)) (omega arith) (omega arith))

-- the groups begin with the first one
pub groups_first : (space measure : ℤ) (words : List ℤ) (n : ℕ) → IsFirstGroup space measure words n →
    groups space measure words ≡ n ∷ groups space measure (drop n words)
groups_first space measure [] n first = absurd (omega (arith, first.some, first.within))
groups_first space measure (word ∷ words) n first =
    let e = first_group_is space measure (word ∷ words) n first in
    let left : length (drop n (word ∷ words)) ≤ length words = simp length-drop (omega (arith, first.some)) in
    rw (e, enough_turns space measure (length words) (length (drop n (word ∷ words))) (drop n (word ∷ words)) left (omega arith)) refl

-- the groups are what the definition says
pub groups_are : (space measure : ℤ) (turns here : ℕ) (words : List ℤ) → length words ≤ turns →
    AreGroups space measure here words (ranges here (groups_upto turns space measure words))
groups_are space measure zero here [] within = refl
groups_are space measure zero here (word ∷ words) within = absurd (omega arith)
groups_are space measure (suc turns) here [] within = refl
groups_are space measure (suc turns) here (word ∷ words) within =
    let first = first_group_is_first space measure (word ∷ words) (omega arith) in
    let size = first_group space measure (word ∷ words) in
    let left : length (drop size (word ∷ words)) ≤ turns = simp length-drop (omega (arith, first.some)) in
    (size, refl, first, groups_are space measure turns (here + size) (drop size (word ∷ words)) left)

-- and no others are
pub groups_only : (space measure : ℤ) (here : ℕ) (words : List ℤ) (found : List Group) → AreGroups space measure here words found →
    ranges here (groups space measure words) ≡ found
groups_only space measure here words [] none = rw none refl
groups_only space measure here words (group ∷ found) are =
    let first = groups_first space measure words are.0 are.2 in
    let others = groups_only space measure (here + are.0) (drop are.0 words) found are.3 in
    rw (first, are.1, others) refl

pub groups_are_groups : GroupsAreGroups
groups_are_groups space measure words =
    (groups_are space measure (length words) 0 words (omega arith), groups_only space measure 0 words)
