-- The split of a list, and where its parts stand.
use Rattle.std.proofs.Common.{◌≡◌, ℕ, suc, ◌+◌, ◌-◌, ◌≤◌, Bool, true, false, List, [], ◌∷◌, ◌++◌, map, length, take, drop, refl, sym, ap, ◌∙◌, arith, length-drop, length-take, length-append, append_assoc}
use Rattle.std.specs.List.{slice_split, onto_first}
use Rattle.std.proofs.lemmas.List.{drop-drop, append-nil}
use Rattle.std.proofs.lemmas.List.Splits.{slice_split-cons_yes, slice_split-cons_no, slice_split_at, slice_split_none}
use Rattle.std.proofs.lemmas.List.Elements.{All-nil, All-cons}
use Rattle.desk_ops.specs.declared.op.Symbol.{Symbol}
use Rattle.desk_lines.specs.declared.words.Word.{Word}
use Rattle.desk_ops.specs.Op.{is_line_feed, is_space}
use Rattle.desk_lines.specs.Words.{drop_empty_last, paragraphs, words, word_places, paragraph_places, IsSplit, joined, spelled, StandInTurn, AreSplit, WordsAreWords}

-- a symbol more in the first part
split_onto : {A : Type 0} (test : A → Bool) (x : A) (xs : List A) (parts : List (List A)) → test x ≡ false →
    IsSplit test xs parts → IsSplit test (x ∷ xs) (onto_first x parts)
split_onto test x xs [] miss split = absurd split
split_onto test x xs (part ∷ []) miss split =
    (ap (λ (l : List _). x ∷ l) split.0, All-cons (λ y. test y ≡ false) x part miss split.1)
split_onto test x xs (part ∷ next ∷ parts) miss split =
    (split.0, split.1, ap (λ (l : List _). x ∷ l) split.2, split.3, All-cons (λ y. test y ≡ false) x part miss split.4, split.5)

-- an empty part more
split_after : {A : Type 0} (test : A → Bool) (x : A) (xs : List A) (parts : List (List A)) → test x ≡ true →
    IsSplit test xs parts → IsSplit test (x ∷ xs) ([] ∷ parts)
split_after test x xs [] hit split = absurd split
split_after test x xs (part ∷ parts) hit split = (x, xs, refl, hit, All-nil (λ y. test y ≡ false), split)

split_step : {A : Type 0} (test : A → Bool) (x : A) (xs : List A) (b : Bool) → test x ≡ b →
    IsSplit test xs (slice_split test xs) → IsSplit test (x ∷ xs) (slice_split test (x ∷ xs))
split_step test x xs true is split = rw (slice_split-cons_yes test x xs is) (split_after test x xs (slice_split test xs) is split)
split_step test x xs false is split = rw (slice_split-cons_no test x xs is) (split_onto test x xs (slice_split test xs) is split)

-- a list is split into the parts that std's split gives
pub split_is : {A : Type 0} (test : A → Bool) (xs : List A) → IsSplit test xs (slice_split test xs)
split_is test [] = (refl, All-nil (λ y. test y ≡ false))
split_is test (x ∷ xs) = split_step test x xs (test x) refl (split_is test xs)

-- and into no others
pub split_only : {A : Type 0} (test : A → Bool) (xs : List A) (parts : List (List A)) → IsSplit test xs parts →
    slice_split test xs ≡ parts
split_only test xs [] split = absurd split
split_only test xs (part ∷ []) split = ap (slice_split test) split.0 ∙ slice_split_none test part split.1
split_only test xs (part ∷ next ∷ parts) split =
    ap (slice_split test) split.2 ∙ slice_split_at test part split.0 split.1 split.4 split.3
    ∙ ap (λ (l : List (List _)). part ∷ l) (split_only test split.1 (next ∷ parts) split.5)

take_prefix : {A : Type 0} (prefix after : List A) → take (length prefix) (prefix ++ after) ≡ prefix
take_prefix [] after = refl
take_prefix (x ∷ prefix) after = ap (λ (l : List _). x ∷ l) (take_prefix prefix after)

drop_prefix : {A : Type 0} (prefix : List A) (x : A) (after : List A) → drop (length prefix + 1) (prefix ++ x ∷ after) ≡ after
drop_prefix [] x after = refl
drop_prefix (y ∷ prefix) x after = (let e : length (y ∷ prefix) + 1 ≡ suc (length prefix + 1) = omega arith in rw e (drop_prefix prefix x after))

-- what stands after a part and the symbol behind it
drop_part : (copy : List Symbol) (here : ℕ) (part : List Symbol) (y : Symbol) (after : List Symbol) → drop here copy ≡ part ++ y ∷ after →
    drop (here + length part + 1) copy ≡ after
drop_part copy here part y after is =
    let e : here + length part + 1 ≡ here + (length part + 1) = omega arith in
    rw (e, ← drop-drop, is) (drop_prefix part y after)

spelled_part : (copy : List Symbol) (here : ℕ) (part after : List Symbol) → drop here copy ≡ part ++ after →
    spelled copy (record { from = here; to = here + length part }) ≡ part
spelled_part copy here part after is =
    let e : here + length part - here ≡ length part = omega arith in
    rw (e, is) (take_prefix part after)

-- the places of the parts, read in the copy, give the parts
pub spelled_words : (test : Symbol → Bool) (copy : List Symbol) (here : ℕ) (xs after : List Symbol) (parts : List (List Symbol)) →
    drop here copy ≡ xs ++ after → IsSplit test xs parts → map (spelled copy) (word_places here parts) ≡ parts
spelled_words test copy here xs after [] is split = absurd split
spelled_words test copy here xs after (part ∷ []) is split =
    let whole : drop here copy ≡ part ++ after = is ∙ ap (λ (l : List Symbol). l ++ after) split.0 in
    ap (λ (l : List Symbol). l ∷ []) (spelled_part copy here part after whole)
spelled_words test copy here xs after (part ∷ next ∷ parts) is split =
    let whole : drop here copy ≡ part ++ split.0 ∷ (split.1 ++ after) =
    is ∙ ap (λ (l : List Symbol). l ++ after) split.2 ∙ append_assoc part (split.0 ∷ split.1) after in
    let first = spelled_part copy here part (split.0 ∷ (split.1 ++ after)) whole in
    let others = spelled_words test copy (here + length part + 1) split.1 after (next ∷ parts)
    (drop_part copy here part split.0 (split.1 ++ after) whole) split.5 in
    rw (first, others) refl

-- the length of parts, each with the symbol behind it
abbrev pub span : {A : Type 0} → List (List A) → ℕ
span [] = 0
span (part ∷ parts) = length part + 1 + span parts

pub span_is : {A : Type 0} (test : A → Bool) (xs : List A) (parts : List (List A)) → IsSplit test xs parts → span parts ≡ length xs + 1
span_is test xs [] split = absurd split
span_is test xs (part ∷ []) split = let e = ap length split.0 in omega (arith, e)
span_is test xs (part ∷ next ∷ parts) split =
    let more = span_is test split.1 (next ∷ parts) split.5 in
    let e : length xs ≡ length part + suc (length split.1) = ap length split.2 ∙ length-append part (split.0 ∷ split.1) in
    omega (arith, e, more)

-- the places of the parts stand one after the other
pub places_in_turn : (copy : List Symbol) (here : ℕ) (parts : List (List Symbol)) (more : List Word) →
    here + span parts ≤ length copy + 1 → StandInTurn copy (here + span parts) more →
    StandInTurn copy here (word_places here parts ++ more)
places_in_turn copy here [] more within turn = (let e : here + 0 ≡ here = omega arith in rw e at turn)
places_in_turn copy here (part ∷ parts) more within turn =
    let e : here + (length part + 1 + span parts) ≡ here + length part + 1 + span parts = omega arith in
    (refl, omega arith, omega (arith, within), places_in_turn copy (here + length part + 1) parts more (omega (arith, within)) (rw e at turn))

-- the words of a paragraph that stands here
pub words_here : (copy : List Symbol) (here : ℕ) (paragraph after : List Symbol) → drop here copy ≡ paragraph ++ after →
    IsSplit is_space paragraph (map (spelled copy) (word_places here (words paragraph)))
words_here copy here paragraph after is =
    let split = split_is is_space paragraph in
    rw (spelled_words is_space copy here paragraph after (words paragraph) is split) split

paragraph_in_turn : (copy : List Symbol) (here : ℕ) (paragraph : List Symbol) (more : List Word) →
    here + length paragraph ≤ length copy → StandInTurn copy (here + length paragraph + 1) more →
    StandInTurn copy here (word_places here (words paragraph) ++ more)
paragraph_in_turn copy here paragraph more within turn =
    let long : span (words paragraph) ≡ length paragraph + 1 = span_is is_space paragraph (words paragraph) (split_is is_space paragraph) in
    let e : here + span (words paragraph) ≡ here + length paragraph + 1 = omega (arith, long) in
    places_in_turn copy here (words paragraph) more (omega (arith, e, within)) (rw e turn)

-- the words found are those of the paragraphs
pub places_are : (copy : List Symbol) (here : ℕ) (xs : List Symbol) (parts : List (List Symbol)) → drop here copy ≡ xs →
    here + length xs ≤ length copy → IsSplit is_line_feed xs parts →
    AreSplit copy (drop_empty_last parts) (paragraph_places here (drop_empty_last parts))
    × StandInTurn copy here (joined (paragraph_places here (drop_empty_last parts)))
places_are copy here xs [] is within split = absurd split
places_are copy here xs ([] ∷ []) is within split = (tt, tt)
places_are copy here xs ((x ∷ part) ∷ []) is within split =
    let whole : drop here copy ≡ (x ∷ part) ++ [] = is ∙ split.0 ∙ sym (append-nil (x ∷ part)) in
    let long = ap length split.0 in
    ((words_here copy here (x ∷ part) [] whole, tt), paragraph_in_turn copy here (x ∷ part) [] (omega (arith, long, within)) tt)
places_are copy here xs (part ∷ next ∷ parts) is within split =
    let whole : drop here copy ≡ part ++ split.0 ∷ split.1 = is ∙ split.2 in
    let long : length xs ≡ length part + suc (length split.1) = ap length split.2 ∙ length-append part (split.0 ∷ split.1) in
    let others = places_are copy (here + length part + 1) split.1 (next ∷ parts)
    (drop_part copy here part split.0 split.1 whole) (omega (arith, long, within)) split.5 in (
      (words_here copy here part (split.0 ∷ split.1) whole, others.0),
      paragraph_in_turn copy here part (joined (paragraph_places (here + length part + 1) (drop_empty_last (next ∷ parts)))) (omega (arith, long, within)) others.1,
    )

-- words that stand one after the other are known by what they spell
word_only : (copy : List Symbol) (here : ℕ) (found more : List Word) → StandInTurn copy here (found ++ more) →
    (word_places here (map (spelled copy) found) ≡ found) × StandInTurn copy (here + span (map (spelled copy) found)) more
word_only copy here [] more turn = (refl, (let e : here + 0 ≡ here = omega arith in rw e turn))
word_only copy here (word ∷ found) more turn =
    let others = word_only copy (word.to + 1) found more turn.3 in
    let long : length (spelled copy word) ≡ word.to - word.from = simp (length-take, length-drop) (omega (arith, turn.1, turn.2)) in
    let e : here + length (spelled copy word) ≡ word.to = omega (arith, long, turn.0, turn.1) in
    let all : here + (length (spelled copy word) + 1 + span (map (spelled copy) found)) ≡ word.to + 1 + span (map (spelled copy) found) = omega (arith, e) in
    let first : record { from = here; to = word.to } ≡ word = ap (λ (n : ℕ). let w : Word = record { from = n; to = word.to } in w) (sym turn.0) in
    (rw (e, others.0, first) refl, rw all others.1)

-- and no others are
pub places_only : (copy : List Symbol) (here : ℕ) (paragraphs : List (List Symbol)) (found : List (List Word)) →
    AreSplit copy paragraphs found → StandInTurn copy here (joined found) → paragraph_places here paragraphs ≡ found
places_only copy here [] [] split turn = refl
places_only copy here [] (words ∷ found) split turn = absurd split
places_only copy here (paragraph ∷ paragraphs) [] split turn = absurd split
places_only copy here (paragraph ∷ paragraphs) (ws ∷ found) split turn =
    let one = split_only is_space paragraph (map (spelled copy) ws) split.0 in
    let long = span_is is_space paragraph (map (spelled copy) ws) split.0 in
    let these = word_only copy here ws (joined found) turn in
    let e : here + span (map (spelled copy) ws) ≡ here + length paragraph + 1 = omega (arith, long) in
    let others = places_only copy (here + length paragraph + 1) paragraphs found split.1 (rw e at these.1) in
    rw (one, these.0, others) refl

pub words_are_words : WordsAreWords
words_are_words copy =
    let cut = split_is is_line_feed copy in
    let are = places_are copy 0 copy (slice_split is_line_feed copy) refl (omega arith) cut in (
      record { parts = slice_split is_line_feed copy; cut = cut; split = are.0; places = are.1 },
      λ found h. (let e : slice_split is_line_feed copy ≡ h.parts = split_only is_line_feed copy h.parts h.cut in
          rw e (places_only copy 0 (drop_empty_last h.parts) found h.split h.places)),
    )
