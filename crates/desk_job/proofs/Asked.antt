-- Where a growth is refused there was something to keep.
use Rattle.std.proofs.Common.{◌≡◌, ℕ, zero, suc, ◌<◌, ◌≤◌, List, [], ◌∷◌, length, replicate, ap, arith, length-append, get_or, Option, Some, Result, Ok, Err}
use Rattle.std.specs.Prelude.{IfErr, false}
use Rattle.std.specs.List.{zip}
use Rattle.std.proofs.lemmas.List.{length-replicate}
use Rattle.std.proofs.lemmas.List.Folds.{length-flat_map-take}
use Rattle.desk_ops.specs.declared.op.Symbol.{Symbol}
use Rattle.desk_signals.specs.declared.Cell.{Cell}
use Rattle.desk_lines.specs.declared.words.Word.{Word}
use Rattle.desk_lines.specs.Words.{joined, words_of}
use Rattle.desk_case.specs.Case.{CaseValues, cell_of}
use Rattle.desk_ribbon.specs.declared.Punch.{Punch}
use Rattle.desk_job.specs.Job.{plain, word_punches, fill_punches}

-- what holds anyway holds of an error
pub of_any : {A E : Type 0} (r : Result A E) (P : Type 0) → P → IfErr r (λ _. P)
of_any (Ok value) P holds = tt
of_any (Err error) P holds = holds

-- a word with a symbol of the case has a matrix
pub matrix_asked : (case : CaseValues) (word : List Symbol) (i : ℕ) (d : Symbol) (cell : Cell) →
    i < length word → Some cell ≡ cell_of case (get_or word i d) → 1 ≤ length (word_punches case word)
matrix_asked case word i d cell below is =
    let some = length-flat_map-take (λ (symbol : Symbol). plain (cell_of case symbol)) word i d below in
    let one : 1 ≡ length (plain (cell_of case (get_or word i d))) = ap (λ (found : Option Cell). length (plain found)) is in
    omega (arith, some, one)

-- fills of which one is used have a matrix
pub fill_asked : (counts : List ℕ) (cells : List Cell) (i d : ℕ) → i < length counts → length counts ≤ length cells → 1 ≤ get_or counts i d →
    1 ≤ length (fill_punches (zip counts cells))
fill_asked [] cells i d below few used = absurd (omega (arith, below))
fill_asked (count ∷ counts) [] i d below few used = absurd (omega (arith, few))
fill_asked (count ∷ counts) (cell ∷ cells) zero d below few used =
    let punch : Punch = record { cell = cell; s = false } in
    let long = length-append (replicate count punch) (fill_punches (zip counts cells)) in
    let many = length-replicate count punch in
    omega (arith, long, many, used)
fill_asked (count ∷ counts) (cell ∷ cells) (suc i) d below few used =
    let punch : Punch = record { cell = cell; s = false } in
    let long = length-append (replicate count punch) (fill_punches (zip counts cells)) in
    let more = fill_asked counts cells i d (omega (arith, below)) (omega (arith, few)) used in
    omega (arith, long, more)

-- a paragraph with a word is one of paragraphs with a word
pub word_asked : (found : List (List Word)) (i : ℕ) (d ws : List Word) → i < length found → ws ≡ get_or found i d → 1 ≤ length ws → 1 ≤ length (joined found)
word_asked [] i d ws below is some = absurd (omega (arith, below))
word_asked (first ∷ found) zero d ws below is some =
    let long = length-append first (joined found) in
    let same : length ws ≡ length first = ap length is in
    omega (arith, long, same, some)
word_asked (first ∷ found) (suc i) d ws below is some =
    let long = length-append first (joined found) in
    let more = word_asked found i d ws (omega (arith, below)) is some in
    omega (arith, long, more)

-- where paragraphs have a word there are symbols
pub symbol_asked : (copy : List Symbol) (found : List (List Word)) → found ≡ words_of copy → 1 ≤ length (joined found) → 1 ≤ length copy
symbol_asked [] found is some = absurd (let none : length (joined found) ≡ 0 = ap (λ (ws : List (List Word)). length (joined ws)) is in omega (arith, none, some))
symbol_asked (symbol ∷ copy) found is some = omega arith
