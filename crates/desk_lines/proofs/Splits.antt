-- How the words of paragraphs are found, one by one.
use Rattle.std.proofs.Common.{◌≡◌, ℕ, suc, ◌+◌, ◌-◌, ◌<◌, ◌≤◌, Bool, true, false, ◌⊎◌, inl, inr, List, [], ◌∷◌, ◌++◌, length, take, drop, get_or, refl, sym, ap, ◌∙◌, arith, length-drop, length-take, length-append, add-one, append_assoc, drop-cons}
use Rattle.std.specs.Prelude.{◌==◌, if◌then◌else◌}
use Rattle.std.specs.List.{slice_split, All}
use Rattle.std.proofs.lemmas.Bool.{cases_lt}
use Rattle.std.proofs.lemmas.List.{drop-drop, take-append-drop, append-nil}
use Rattle.std.proofs.lemmas.List.Elements.{All-nil, All-cons, All-append, All-from_get_or}
use Rattle.std.proofs.lemmas.List.Splits.{slice_split_at, slice_split_none}
use Rattle.std.proofs.Math.Seq.{get_or-drop, get_or-take, take-length}
use Rattle.desk_ops.specs.declared.op.Symbol.{Symbol}
use Rattle.desk_ops.specs.declared.op.Style.TheVariants.{Roman}
use Rattle.desk_lines.specs.declared.words.Word.{Word}
use Rattle.desk_ops.specs.Op.{is_line_feed, is_space}
use Rattle.desk_lines.specs.Words.{drop_empty_last, paragraphs, words, word_places, paragraph_places, words_of, IsSplit}
use Rattle.desk_lines.proofs.WordLaws.{split_is, split_only}

-- the words of all paragraphs, an empty last one too, where the first begins here
abbrev pub all_places : ℕ → List Symbol → List (List Word)
all_places here copy = paragraph_places here (slice_split is_line_feed copy)

-- with words more at the start of the first paragraph
abbrev pub with_words : List Word → List (List Word) → List (List Word)
with_words ws [] = []
with_words ws (paragraph ∷ paragraphs) = (ws ++ paragraph) ∷ paragraphs

with_words_twice : (ws vs : List Word) (found : List (List Word)) → with_words ws (with_words vs found) ≡ with_words (ws ++ vs) found
with_words_twice ws vs [] = refl
with_words_twice ws vs (paragraph ∷ paragraphs) = rw append_assoc refl

with_no_words : (found : List (List Word)) → with_words [] found ≡ found
with_no_words [] = refl
with_no_words (paragraph ∷ paragraphs) = refl

-- a prefix without separators is a part of the first part
prefix_more : {A : Type 0} (test : A → Bool) (prefix xs : List A) (part : List A) (parts : List (List A)) → All (λ x. test x ≡ false) prefix →
    IsSplit test xs (part ∷ parts) → IsSplit test (prefix ++ xs) ((prefix ++ part) ∷ parts)
prefix_more test prefix xs part [] none split =
    (ap (λ (l : List _). prefix ++ l) split.0, All-append (λ x. test x ≡ false) prefix part none split.1)
prefix_more test prefix xs part (next ∷ parts) none split =
    (split.0, split.1, ap (λ (l : List _). prefix ++ l) split.2 ∙ sym (append_assoc prefix part (split.0 ∷ split.1)), split.3, All-append (λ x. test x ≡ false) prefix part none split.4, split.5)

-- No symbol is a separator.
abbrev pub NoFeed : List Symbol → Type 0
NoFeed xs = All (λ x. is_line_feed x ≡ false) xs

abbrev pub NoSpace : List Symbol → Type 0
NoSpace xs = All (λ x. is_space x ≡ false) xs

-- a word and a space, and then what follows
space_in : (here : ℕ) (part : List Symbol) (y : Symbol) (after : List Symbol) (parts : List (List Symbol)) →
    NoFeed part → NoSpace part → is_line_feed y ≡ false → is_space y ≡ true → slice_split is_line_feed after ≡ parts → IsSplit is_line_feed after parts →
    all_places here (part ++ y ∷ after)
    ≡ with_words (record { from = here; to = here + length part } ∷ []) (all_places (here + length part + 1) after)
space_in here part y after [] no_feed no_space miss hit is split = absurd split
space_in here part y after (first ∷ others) no_feed no_space miss hit is split =
    let prefix : NoFeed (part ++ y ∷ []) = All-append (λ x. is_line_feed x ≡ false) part (y ∷ []) no_feed
    (All-cons (λ x. is_line_feed x ≡ false) y [] miss (All-nil (λ x. is_line_feed x ≡ false))) in
    let whole : part ++ y ∷ after ≡ (part ++ y ∷ []) ++ after = sym (append_assoc part (y ∷ []) after) in
    let cut : slice_split is_line_feed (part ++ y ∷ after) ≡ ((part ++ y ∷ []) ++ first) ∷ others =
    ap (slice_split is_line_feed) whole
    ∙ split_only is_line_feed ((part ++ y ∷ []) ++ after) (((part ++ y ∷ []) ++ first) ∷ others) (prefix_more is_line_feed (part ++ y ∷ []) after first others prefix split) in
    let same : (part ++ y ∷ []) ++ first ≡ part ++ y ∷ first = append_assoc part (y ∷ []) first in
    let these : words (part ++ y ∷ first) ≡ part ∷ words first = slice_split_at is_space part y first no_space hit in
    let long : length (part ++ y ∷ first) ≡ length part + suc (length first) = length-append part (y ∷ first) in
    let e : here + (length part + suc (length first)) + 1 ≡ here + length part + 1 + length first + 1 = omega arith in
    rw (cut, is, same, these, long, e) refl

pub space_step : (here : ℕ) (part : List Symbol) (y : Symbol) (after : List Symbol) →
    NoFeed part → NoSpace part → is_line_feed y ≡ false → is_space y ≡ true →
    all_places here (part ++ y ∷ after)
    ≡ with_words (record { from = here; to = here + length part } ∷ []) (all_places (here + length part + 1) after)
space_step here part y after no_feed no_space miss hit =
    space_in here part y after (slice_split is_line_feed after) no_feed no_space miss hit refl (split_is is_line_feed after)

-- a word and a line feed, and then what follows
pub feed_step : (here : ℕ) (part : List Symbol) (y : Symbol) (after : List Symbol) →
    NoFeed part → NoSpace part → is_line_feed y ≡ true →
    all_places here (part ++ y ∷ after)
    ≡ (record { from = here; to = here + length part } ∷ []) ∷ all_places (here + length part + 1) after
feed_step here part y after no_feed no_space hit =
    rw (slice_split_at is_line_feed part y after no_feed hit, slice_split_none is_space part no_space) refl

-- the last word
pub last_step : (here : ℕ) (part : List Symbol) → NoFeed part → NoSpace part →
    all_places here part ≡ (record { from = here; to = here + length part } ∷ []) ∷ []
last_step here part no_feed no_space =
    rw (slice_split_none is_line_feed part no_feed, slice_split_none is_space part no_space) refl

-- words of a paragraph, unless it is empty
abbrev pub unless_blank : List Word → List (List Word)
unless_blank [] = []
unless_blank (word ∷ []) = if word.from == word.to then [] else (word ∷ []) ∷ []
unless_blank (word ∷ next ∷ words) = (word ∷ next ∷ words) ∷ []

abbrev pub drop_blank_last : List (List Word) → List (List Word)
drop_blank_last [] = []
drop_blank_last (ws ∷ []) = unless_blank ws
drop_blank_last (ws ∷ next ∷ found) = ws ∷ drop_blank_last (next ∷ found)

blank_one : (here : ℕ) → unless_blank (record { from = here; to = here } ∷ []) ≡ []
blank_one here = (let e : (here == here) ≡ true = grind arith in rw e refl)

long_one : (from to : ℕ) → from < to → unless_blank (record { from = from; to = to } ∷ []) ≡ (record { from = from; to = to } ∷ []) ∷ []
long_one from to some = (let e : (from == to) ≡ false = grind arith in rw e refl)

kept : (here : ℕ) (x : Symbol) (xs : List Symbol) (parts : List (List Symbol)) → IsSplit is_space (x ∷ xs) parts →
    unless_blank (word_places here parts) ≡ word_places here parts ∷ []
kept here x xs [] split = absurd split
kept here x xs (part ∷ []) split =
    let long : suc (length xs) ≡ length part = ap length split.0 in
    long_one here (here + length part) (omega (arith, long))
kept here x xs (part ∷ next ∷ parts) split = refl

-- an empty last paragraph is known by its one empty word
blank_is : (here : ℕ) (parts : List (List Symbol)) → paragraph_places here (drop_empty_last parts) ≡ drop_blank_last (paragraph_places here parts)
blank_is here [] = refl
blank_is here ([] ∷ []) = (let e : here + 0 ≡ here = omega arith in rw e (sym (blank_one here)))
blank_is here ((x ∷ xs) ∷ []) = sym (kept here x xs (words (x ∷ xs)) (split_is is_space (x ∷ xs)))
blank_is here (part ∷ next ∷ parts) =
    ap (λ (l : List (List Word)). word_places here (words part) ∷ l) (blank_is (here + length part + 1) (next ∷ parts))

drop_last_of : (found : List (List Word)) (ws : List Word) → drop_blank_last (found ++ ws ∷ []) ≡ found ++ unless_blank ws
drop_last_of [] ws = refl
drop_last_of (first ∷ []) ws = refl
drop_last_of (first ∷ next ∷ found) ws = ap (λ (l : List (List Word)). first ∷ l) (drop_last_of (next ∷ found) ws)

-- what the symbols past the end are read as
abbrev pub nothing : Symbol
nothing = record { style = Roman; ch = 0 }

-- The paragraphs found, the words of the next one, and where the word begins that is read; this one has no separator so far.
pub record IsReading (copy : List Symbol) (found : List (List Word)) (ws : List Word) (from to : ℕ) : Type 0 where
  pub order : from ≤ to
  pub no_feed : (k : ℕ) → from ≤ k → k < to → is_line_feed (get_or copy k nothing) ≡ false
  pub no_space : (k : ℕ) → from ≤ k → k < to → is_space (get_or copy k nothing) ≡ false
  pub so_far : all_places 0 copy ≡ found ++ with_words ws (all_places from (drop from copy))
  pub begun : 0 < length ws → 0 < to

-- the word that is read
abbrev pub part_of : List Symbol → ℕ → ℕ → List Symbol
part_of copy from to = take (to - from) (drop from copy)

none_in_part : (test : Symbol → Bool) (copy : List Symbol) (from to : ℕ) → from ≤ to → to ≤ length copy →
    ((k : ℕ) → from ≤ k → k < to → test (get_or copy k nothing) ≡ false) → All (λ x. test x ≡ false) (part_of copy from to)
none_in_part test copy from to order within none =
    All-from_get_or (λ x. test x ≡ false) (part_of copy from to) nothing
    (λ i below. let h : i < to - from = (let g = rw length-take at below in omega arith) in
    rw (get_or-take, get_or-drop) (none (from + i) (omega arith) (omega arith)))

part_length : (copy : List Symbol) (from to : ℕ) → from ≤ to → to ≤ length copy → length (part_of copy from to) ≡ to - from
part_length copy from to order within = simp (length-take, length-drop) (omega arith)

part_and_rest : (copy : List Symbol) (from to : ℕ) → from ≤ to → to < length copy →
    drop from copy ≡ part_of copy from to ++ get_or copy to nothing ∷ drop (to + 1) copy
part_and_rest copy from to order below =
    let back : from + (to - from) ≡ to = omega arith in
    let tail : drop (to - from) (drop from copy) ≡ get_or copy to nothing ∷ drop (to + 1) copy =
    rw (drop-drop, back, add-one) (drop-cons copy to nothing below) in
    sym (take-append-drop (to - from) (drop from copy)) ∙ ap (λ (l : List Symbol). part_of copy from to ++ l) tail

-- where no word is read yet
begun : (copy : List Symbol) (found : List (List Word)) (ws : List Word) (at : ℕ) → 0 < at →
    all_places 0 copy ≡ found ++ with_words ws (all_places at (drop at copy)) → IsReading copy found ws at at
begun copy found ws at some so_far = record {
  order = omega arith;
  no_feed = λ k low high. absurd (omega (arith, low, high));
  no_space = λ k low high. absurd (omega (arith, low, high));
  so_far = so_far;
  begun = λ _. some;
}

-- a space
pub read_space : (copy : List Symbol) (found : List (List Word)) (ws : List Word) (from to : ℕ) → to < length copy →
    is_line_feed (get_or copy to nothing) ≡ false → is_space (get_or copy to nothing) ≡ true → IsReading copy found ws from to →
    IsReading copy found (ws ++ record { from = from; to = to } ∷ []) (to + 1) (to + 1)
read_space copy found ws from to below miss hit reading =
    let order = reading.order in
    let no_feed = none_in_part is_line_feed copy from to order (omega arith) reading.no_feed in
    let no_space = none_in_part is_space copy from to order (omega arith) reading.no_space in
    let step = space_step from (part_of copy from to) (get_or copy to nothing) (drop (to + 1) copy) no_feed no_space miss hit in
    let long = part_length copy from to order (omega arith) in
    let back : from + (to - from) ≡ to = omega arith in
    let here : all_places from (drop from copy)
    ≡ with_words (record { from = from; to = to } ∷ []) (all_places (to + 1) (drop (to + 1) copy)) =
    ap (all_places from) (part_and_rest copy from to order below) ∙ (rw (long, back) at step) in
    begun copy found (ws ++ record { from = from; to = to } ∷ []) (to + 1) (omega arith)
    (reading.so_far ∙ ap (λ (l : List (List Word)). found ++ with_words ws l) here
    ∙ ap (λ (l : List (List Word)). found ++ l) (with_words_twice ws (record { from = from; to = to } ∷ []) (all_places (to + 1) (drop (to + 1) copy))))

-- a line feed
pub read_feed : (copy : List Symbol) (found : List (List Word)) (ws : List Word) (from to : ℕ) → to < length copy →
    is_line_feed (get_or copy to nothing) ≡ true → IsReading copy found ws from to →
    IsReading copy (found ++ (ws ++ record { from = from; to = to } ∷ []) ∷ []) [] (to + 1) (to + 1)
read_feed copy found ws from to below hit reading =
    let order = reading.order in
    let no_feed = none_in_part is_line_feed copy from to order (omega arith) reading.no_feed in
    let no_space = none_in_part is_space copy from to order (omega arith) reading.no_space in
    let step = feed_step from (part_of copy from to) (get_or copy to nothing) (drop (to + 1) copy) no_feed no_space hit in
    let long = part_length copy from to order (omega arith) in
    let back : from + (to - from) ≡ to = omega arith in
    let rest = all_places (to + 1) (drop (to + 1) copy) in
    let here : all_places from (drop from copy) ≡ (record { from = from; to = to } ∷ []) ∷ rest =
    ap (all_places from) (part_and_rest copy from to order below) ∙ (rw (long, back) at step) in
    begun copy (found ++ (ws ++ record { from = from; to = to } ∷ []) ∷ []) [] (to + 1) (omega arith)
    (reading.so_far ∙ ap (λ (l : List (List Word)). found ++ with_words ws l) here
    ∙ sym (append_assoc found ((ws ++ record { from = from; to = to } ∷ []) ∷ []) rest)
    ∙ ap (λ (l : List (List Word)). (found ++ (ws ++ record { from = from; to = to } ∷ []) ∷ []) ++ l) (sym (with_no_words rest)))

-- any other symbol
pub read_other : (copy : List Symbol) (found : List (List Word)) (ws : List Word) (from to : ℕ) →
    is_line_feed (get_or copy to nothing) ≡ false → is_space (get_or copy to nothing) ≡ false → IsReading copy found ws from to →
    IsReading copy found ws from (to + 1)
read_other copy found ws from to miss none reading = record {
  order = omega (arith, reading.order);
  no_feed = λ k low high. elim (cases_lt k to) [
    | inl below ↦ reading.no_feed k low below
    | inr at ↦ (let e : k ≡ to = omega arith in rw e miss)
  ];
  no_space = λ k low high. elim (cases_lt k to) [
    | inl below ↦ reading.no_space k low below
    | inr at ↦ (let e : k ≡ to = omega arith in rw e none)
  ];
  so_far = reading.so_far;
  begun = λ _. omega arith;
}

-- the whole copy is read
read_all : (copy : List Symbol) (found : List (List Word)) (ws : List Word) (from to : ℕ) → to ≡ length copy → IsReading copy found ws from to →
    words_of copy ≡ found ++ unless_blank (ws ++ record { from = from; to = to } ∷ [])
read_all copy found ws from to end reading =
    let order = reading.order in
    let whole : part_of copy from to ≡ drop from copy = (let e : to - from ≡ length (drop from copy) = simp length-drop (omega arith) in rw e (take-length (drop from copy))) in
    let no_feed : NoFeed (drop from copy) = rw whole at (none_in_part is_line_feed copy from to order (omega arith) reading.no_feed) in
    let no_space : NoSpace (drop from copy) = rw whole at (none_in_part is_space copy from to order (omega arith) reading.no_space) in
    let back : from + (length copy - from) ≡ to = omega arith in
    let last = rw (length-drop, back) at (last_step from (drop from copy) no_feed no_space) in
    let all = reading.so_far ∙ ap (λ (l : List (List Word)). found ++ with_words ws l) last in
    blank_is 0 (slice_split is_line_feed copy) ∙ ap drop_blank_last all ∙ drop_last_of found (ws ++ record { from = from; to = to } ∷ [])

-- a last paragraph that isn't empty
pub read_last : (copy : List Symbol) (found : List (List Word)) (ws : List Word) (from to : ℕ) → to ≡ length copy →
    (from < length copy) ⊎ (0 < length ws) → IsReading copy found ws from to →
    found ++ (ws ++ record { from = from; to = length copy } ∷ []) ∷ [] ≡ words_of copy
read_last copy found [] from to end (inl some) reading =
    let all = read_all copy found [] from to end reading in
    let one = long_one from to (omega arith) in
    rw (← end) (sym (all ∙ ap (λ (l : List (List Word)). found ++ l) one))
read_last copy found [] from to end (inr some) reading = absurd (omega (arith, some))
read_last copy found (word ∷ []) from to end some reading = rw (← end) (sym (read_all copy found (word ∷ []) from to end reading))
read_last copy found (word ∷ next ∷ ws) from to end some reading =
    rw (← end) (sym (read_all copy found (word ∷ next ∷ ws) from to end reading))

-- no last paragraph
pub read_none : (copy : List Symbol) (found : List (List Word)) (ws : List Word) (from to : ℕ) → to ≡ length copy →
    length copy ≤ from → length ws ≡ 0 → IsReading copy found ws from to → found ≡ words_of copy
read_none copy found [] from to end past none reading =
    let e : from ≡ to = omega (arith, reading.order) in
    let all = read_all copy found [] from to end reading in
    sym (all ∙ rw (e, blank_one to) (append-nil found))
read_none copy found (word ∷ ws) from to end past none reading = absurd (omega arith)
