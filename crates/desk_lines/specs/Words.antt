-- Paragraphs and words of a copy.
use Rattle.std.specs.Prelude.{◌≡◌, ℕ, ◌+◌, ◌-◌, ◌≤◌, Bool, true, false, ◌&&◌, ◌==◌, List, [], ◌∷◌, ◌++◌, length, map}
use Rattle.std.specs.Prelude.{take, drop}
use Rattle.std.specs.List.{slice_split, All}
use Rattle.desk_ops.specs.Op.{is_line_feed, is_space}
use Rattle.desk_ops.specs.OpSet.{max_ops}
use Rattle.desk_ops.specs.declared.op.Symbol.{Symbol}
use Rattle.desk_lines.specs.declared.words.Word.{Word}

-- no copy has more symbols: each is of an operation of its own
abbrev pub most_symbols : ℕ
most_symbols = max_ops

-- no copy has more words
abbrev pub most_words : ℕ
most_words = most_symbols + 1

abbrev pub unless_empty : {A : Type 0} → List A → List (List A)
unless_empty [] = []
unless_empty (x ∷ xs) = (x ∷ xs) ∷ []

-- the list without an empty last part
abbrev pub drop_empty_last : {A : Type 0} → List (List A) → List (List A)
drop_empty_last [] = []
drop_empty_last (part ∷ []) = unless_empty part
drop_empty_last (part ∷ next ∷ parts) = part ∷ drop_empty_last (next ∷ parts)

-- the copy is split at each line feed, and one empty last paragraph is dropped
abbrev pub paragraphs : List Symbol → List (List Symbol)
paragraphs copy = drop_empty_last (slice_split is_line_feed copy)

-- a paragraph is split at each space
abbrev pub words : List Symbol → List (List Symbol)
words paragraph = slice_split is_space paragraph

-- where words stand in the copy: the first begins here, and one symbol stands between two
abbrev pub word_places : ℕ → List (List Symbol) → List Word
word_places here [] = []
word_places here (word ∷ words) =
    record { from = here; to = here + length word } ∷ word_places (here + length word + 1) words

-- where the words of each paragraph stand
abbrev pub paragraph_places : ℕ → List (List Symbol) → List (List Word)
paragraph_places here [] = []
paragraph_places here (paragraph ∷ paragraphs) =
    word_places here (words paragraph) ∷ paragraph_places (here + length paragraph + 1) paragraphs

-- the words of each paragraph of a copy, by their places there
abbrev pub words_of : List Symbol → List (List Word)
words_of copy = paragraph_places 0 (paragraphs copy)

-- The list is cut into these parts at each element that passes the test, and such an element is in no part.
abbrev pub IsSplit : {A : Type 0} → (A → Bool) → List A → List (List A) → Type 0
IsSplit test xs [] = ⊥
IsSplit test xs (part ∷ []) = (xs ≡ part) × All (λ x. test x ≡ false) part
IsSplit {A} test xs (part ∷ next ∷ parts) =
    (y : A) × (rest : List A)
    × (xs ≡ part ++ y ∷ rest) × (test y ≡ true) × All (λ x. test x ≡ false) part × IsSplit test rest (next ∷ parts)

-- the lists, one after the other
abbrev pub joined : {A : Type 0} → List (List A) → List A
joined [] = []
joined (xs ∷ lists) = xs ++ joined lists

-- the symbols of a word
abbrev pub spelled : List Symbol → Word → List Symbol
spelled copy word = take (word.to - word.from) (drop word.from copy)

-- The words stand in the copy one after the other: the first begins here, and one symbol stands between two.
abbrev pub StandInTurn : List Symbol → ℕ → List Word → Type 0
StandInTurn copy here [] = Unit {0}
StandInTurn copy here (word ∷ words) =
    (word.from ≡ here) × (word.from ≤ word.to) × (word.to ≤ length copy) × StandInTurn copy (word.to + 1) words

-- Each paragraph is split at each space into the words found.
abbrev pub AreSplit : List Symbol → List (List Symbol) → List (List Word) → Type 0
AreSplit copy [] [] = Unit {0}
AreSplit copy [] (words ∷ found) = ⊥
AreSplit copy (paragraph ∷ paragraphs) [] = ⊥
AreSplit copy (paragraph ∷ paragraphs) (words ∷ found) =
    IsSplit is_space paragraph (map (spelled copy) words) × AreSplit copy paragraphs found

-- The copy is split at each line feed and one empty last paragraph is dropped; each paragraph is split at each space
-- into the words found, which stand in the copy one after the other.
pub record AreWords (copy : List Symbol) (found : List (List Word)) : Type 0 where
  pub parts : List (List Symbol)
  pub cut : IsSplit is_line_feed copy parts
  pub split : AreSplit copy (drop_empty_last parts) found
  pub places : StandInTurn copy 0 (joined found)

-- The words of each paragraph are what the definition of paragraphs and words says, and no others are.
abbrev pub WordsAreWords : Type 0
WordsAreWords = (copy : List Symbol) →
    AreWords copy (words_of copy) × ((found : List (List Word)) → AreWords copy found → words_of copy ≡ found)
