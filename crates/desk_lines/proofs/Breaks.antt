-- How the groups of words are found, word by word.
use Rattle.std.proofs.Common.{◌≡◌, ◌⊎◌, inl, inr, ℕ, zero, suc, ◌+◌, ◌-◌, ◌<◌, ◌≤◌, ◌^◌, List, [], ◌∷◌, ◌++◌, length, take, drop, get_or, refl, sym, ap, subst, ◌∙◌, arith, length-drop, append_assoc}
use Rattle.std.specs.Prelude.{ℤ, pos, ◌+ℤ◌, ◌≤ℤ◌, ◌<ℤ◌}
use Rattle.std.proofs.lemmas.Int.{ints}
use Rattle.std.proofs.lemmas.List.{drop-drop, append-nil}
use Rattle.std.proofs.Math.Seq.{get_or-drop}
use Rattle.std.proofs.Math.ListN.{drop_of_length-le}
use Rattle.desk_lines.specs.Groups.{group_width, groups, groups_of, ranges, IsFirstGroup, IsWidth, AreWidths}
use Rattle.desk_lines.proofs.GroupLaws.{width_more, width_rises, groups_first}
use Rattle.desk_lines.specs.declared.groups.Group.{Group}

-- a word's width is from 0 to 2 ^ 40
pub width_at : (words : List ℤ) (i : ℕ) → AreWidths words → i < length words → IsWidth (get_or words i (pos 0))
width_at words i wide below = wide i (pos 0) below

-- The words from this one to before that one are a group that is still open, and this is its width.
pub record IsOpen (space measure : ℤ) (words : List ℤ) (from to : ℕ) (width : ℤ) : Type 0 where
  pub order : from ≤ to
  pub begun : 0 < to → from < to
  pub within : to ≤ length words
  pub is : width ≡ group_width space (take (to - from) (drop from words))
  pub fits : (width ≤ℤ measure) ⊎ (to ≡ from + 1)
  pub low : pos 0 ≤ℤ width
  pub high : width ≤ℤ pos (2 ^ 40)

-- the prefix of one word
prefix_of_one : (words : List ℤ) (from : ℕ) (space : ℤ) → from < length words →
    group_width space (take 1 (drop from words)) ≡ get_or words from (pos 0)
prefix_of_one [] from space below = absurd (omega arith)
prefix_of_one (word ∷ words) zero space below = refl
prefix_of_one (word ∷ words) (suc from) space below = prefix_of_one words from space (omega arith)

-- a group of one word
pub open_one : (space measure : ℤ) (words : List ℤ) (at : ℕ) → AreWidths words → at < length words →
    IsOpen space measure words at (at + 1) (get_or words at (pos 0))
open_one space measure words at wide below =
    let width = width_at words at wide below in
    let one : at + 1 - at ≡ 1 = omega arith in
    record {
      order = omega arith;
      begun = λ _. omega arith;
      within = omega arith;
      is = rw one (sym (prefix_of_one words at space below));
      fits = inr refl;
      low = width.0;
      high = width.1;
    }

-- the width with one word more
pub wider_is : (space measure : ℤ) (words : List ℤ) (from to : ℕ) (width : ℤ) →
    IsOpen space measure words from to width → from < to → to < length words →
    (width +ℤ space) +ℤ get_or words to (pos 0) ≡ group_width space (take (suc (to - from)) (drop from words))
wider_is space measure words from to width group some below =
    let more = width_more space (drop from words) (to - from) (omega arith) (simp length-drop (omega arith)) in
    let e : from + (to - from) ≡ to = omega arith in
    let here = rw (get_or-drop, e) at more in
    let is = group.is in
    omega (arith, ints, here, is)

-- a word more still fits
pub open_more : (space measure : ℤ) (words : List ℤ) (from to : ℕ) (width : ℤ) → AreWidths words → pos 0 ≤ℤ space → measure ≤ℤ pos (2 ^ 40) →
    IsOpen space measure words from to width → from < to → to < length words →
    ((width +ℤ space) +ℤ get_or words to (pos 0)) ≤ℤ measure →
    IsOpen space measure words from (to + 1) ((width +ℤ space) +ℤ get_or words to (pos 0))
open_more space measure words from to width wide room high group some below fits =
    let next = width_at words to wide below in
    let n : to + 1 - from ≡ suc (to - from) = omega arith in
    let low = group.low in
    record {
      order = omega arith;
      begun = λ _. omega arith;
      within = omega arith;
      is = rw n (wider_is space measure words from to width group some below);
      fits = inl fits;
      low = omega (arith, ints, low, next.0);
      high = omega (arith, ints, fits, high);
    }

-- an open group that nothing follows, or that the next word makes too wide, is the first group of its words
pub open_is_first : (space measure : ℤ) (words : List ℤ) (from to : ℕ) (width : ℤ) → AreWidths words → pos 0 ≤ℤ space →
    IsOpen space measure words from to width → from < to →
    (to < length words → measure <ℤ ((width +ℤ space) +ℤ get_or words to (pos 0))) →
    IsFirstGroup space measure (drop from words) (to - from)
open_is_first space measure words from to width wide room group some last =
    record {
      some = omega arith;
      within = simp length-drop (omega (arith, group.within));
      fits = elim group.fits [
        | inl fits ↦ inl (rw group.is at fits)
        | inr one ↦ inr (omega arith)
      ];
      longest_one = λ n above within fits.
          let inside : n ≤ length words - from = simp length-drop at within in
          let below : to < length words = omega arith in
          let over = last below in
          let is = wider_is space measure words from to width group some below in
          let rises = width_rises space (drop from words) (suc (to - from)) (n - suc (to - from)) room
          (λ i h. let g : from + i < length words = (let h' : i < length words - from = simp length-drop at h in omega arith) in rw get_or-drop (width_at words (from + i) wide g).0)
          (omega arith) (simp length-drop (omega arith)) in
          let e : suc (to - from) + (n - suc (to - from)) ≡ n = omega arith in
          let reaches = rw e at rises in
          omega (arith, ints, over, is, reaches, fits);
    }

-- The groups are those found, and those of the words from this one on.
abbrev pub HasFound : (space measure : ℤ) (words : List ℤ) → List Group → ℕ → Type 0
HasFound space measure words found from =
    ranges 0 (groups space measure words) ≡ found ++ ranges from (groups space measure (drop from words))

-- one group more
pub found_more : (space measure : ℤ) (words : List ℤ) (found : List Group) (from to : ℕ) (width : ℤ) → AreWidths words → pos 0 ≤ℤ space →
    HasFound space measure words found from →
    IsOpen space measure words from to width → from < to →
    (to < length words → measure <ℤ ((width +ℤ space) +ℤ get_or words to (pos 0))) →
    HasFound space measure words (found ++ record { from = from; to = to } ∷ []) to
found_more space measure words found from to width wide room so_far group some last =
    let first = groups_first space measure (drop from words) (to - from) (open_is_first space measure words from to width wide room group some last) in
    let e : from + (to - from) ≡ to = omega arith in
    so_far ∙ rw (first, e, drop-drop, e, append_assoc) refl

-- an element that is there, whatever would stand past the end
element : (words : List ℤ) (i : ℕ) (word : ℤ) → i < length words → word ≡ get_or words i word → word ≡ get_or words i (pos 0)
element [] i word below is = absurd (omega arith)
element (first ∷ words) zero word below is = is
element (first ∷ words) (suc i) word below is = element words i word (omega arith) is

-- the loop's steps: the first word, a word more, a new group, and the last group
pub step_first : (space measure : ℤ) (words : List ℤ) (from to : ℕ) (word : ℤ) → AreWidths words → to < length words → to ≡ from →
    word ≡ get_or words to word → IsOpen space measure words from (to + 1) word
step_first space measure words from to word wide below same is =
    rw (← same, element words to word below is) (open_one space measure words to wide below)

pub step_more : (space measure : ℤ) (words : List ℤ) (from to : ℕ) (width word wider : ℤ) → AreWidths words → pos 1 ≤ℤ space →
    measure ≤ℤ pos (2 ^ 40) → IsOpen space measure words from to width → to < length words → from < to → word ≡ get_or words to word →
    wider ≡ (width +ℤ space) +ℤ word → wider ≤ℤ measure → IsOpen space measure words from (to + 1) wider
step_more space measure words from to width word wider wide room high group below some is sum fits =
    let whole : wider ≡ (width +ℤ space) +ℤ get_or words to (pos 0) = sum ∙ ap (λ (z : ℤ). (width +ℤ space) +ℤ z) (element words to word below is) in
    rw whole (open_more space measure words from to width wide (omega (arith, ints)) high group some below (rw whole at fits))

pub step_found : (space measure : ℤ) (words : List ℤ) (found : List Group) (from to : ℕ) (width word wider : ℤ) → AreWidths words →
    pos 1 ≤ℤ space → HasFound space measure words found from → IsOpen space measure words from to width → to < length words → from < to →
    word ≡ get_or words to word → wider ≡ (width +ℤ space) +ℤ word → measure <ℤ wider →
    HasFound space measure words (found ++ record { from = from; to = to } ∷ []) to
step_found space measure words found from to width word wider wide room so_far group below some is sum over =
    let whole : wider ≡ (width +ℤ space) +ℤ get_or words to (pos 0) = sum ∙ ap (λ (z : ℤ). (width +ℤ space) +ℤ z) (element words to word below is) in
    found_more space measure words found from to width wide (omega (arith, ints)) so_far group some (λ _. rw whole at over)

pub step_last : (space measure : ℤ) (words : List ℤ) (found : List Group) (from to : ℕ) (width : ℤ) → AreWidths words →
    pos 1 ≤ℤ space → HasFound space measure words found from → IsOpen space measure words from to width → to ≡ length words → from < length words →
    found ++ record { from = from; to = length words } ∷ [] ≡ groups_of space measure words
step_last space measure words found from to width wide room so_far group end some =
    let all = found_more space measure words found from to width wide (omega (arith, ints)) so_far group (omega arith) (λ h. absurd (omega arith)) in
    let none : drop to words ≡ [] = drop_of_length-le words (omega arith) in
    subst (λ (n : ℕ). found ++ record { from = from; to = n } ∷ [] ≡ groups_of space measure words) end
    (sym (all ∙ rw none (append-nil (found ++ record { from = from; to = to } ∷ []))))

pub step_none : (space measure : ℤ) (words : List ℤ) (found : List Group) (from to : ℕ) (width : ℤ) →
    HasFound space measure words found from → IsOpen space measure words from to width → to ≡ length words → length words ≤ from →
    found ≡ groups_of space measure words
step_none space measure words found from to width so_far group end none =
    let e : drop from words ≡ [] = drop_of_length-le words (omega arith) in
    sym (so_far ∙ rw e (append-nil found))
