-- The cast lines read as the lines that were set.
use Rattle.std.proofs.Common.{◌≡◌, ℕ, zero, suc, Bool, true, false, cond, List, [], ◌∷◌, ◌++◌, replicate, refl, sym, ap, ◌∙◌, Some, None, Option, append_assoc}
use Rattle.std.specs.Prelude.{is_some}
use Rattle.std.specs.List.{zip, AllByRecursion}
use Rattle.desk_ops.specs.declared.op.Symbol.{Symbol}
use Rattle.desk_ops.specs.Op.{space}
use Rattle.desk_signals.specs.declared.Cell.{Cell}
use Rattle.desk_wedge.specs.Wedge.{WedgeValues}
use Rattle.desk_case.specs.Case.{CaseValues, symbol_at, cell_of}
use Rattle.desk_ribbon.specs.declared.Punch.{Punch}
use Rattle.desk_caster.specs.Lines.{reading, meaning}
use Rattle.desk_caster.proofs.CastLaw.{casts}
use Rattle.desk_job.specs.Job.{Terms, SetLine, plain, word_punches, spaced_punches, words_punches, space_punch, fill_punches, fills, punches, has_added}
use Rattle.desk_job.specs.Reading.{spaced, joined, text}

-- Cells and symbols of the case are inverse to each other, and its space and its fills bear no symbol.
pub record IsSound (case : CaseValues) : Type 0 where
  pub inverse : (symbol : Symbol) (cell : Cell) → cell_of case symbol ≡ Some cell → symbol_at case cell ≡ Some symbol
  pub space_blank : symbol_at case case.space ≡ None
  pub fills_blank : AllByRecursion (λ cell. symbol_at case cell ≡ None) case.fill

-- The case has the symbol.
abbrev pub Has : CaseValues → Symbol → Type 0
Has case symbol = is_some (cell_of case symbol) ≡ true

abbrev pub WordsHave : CaseValues → List (List Symbol) → Type 0
WordsHave case words = AllByRecursion (λ word. AllByRecursion (Has case) word) words

-- the text of matrices before they are cast
abbrev pub read : CaseValues → List Punch → List Symbol
read case [] = []
read case (punch ∷ more) = meaning punch.s (symbol_at case punch.cell) ++ read case more

pub read_casts : (case : CaseValues) (wedge : WedgeValues) (coarse fine : ℕ) (ps : List Punch) →
    reading (casts case wedge coarse fine ps) ≡ read case ps
read_casts case wedge coarse fine [] = refl
read_casts case wedge coarse fine (p ∷ ps) = ap (λ (t : List Symbol). meaning p.s (symbol_at case p.cell) ++ t) (read_casts case wedge coarse fine ps)

pub read_append : (case : CaseValues) (a b : List Punch) → read case (a ++ b) ≡ read case a ++ read case b
read_append case [] b = refl
read_append case (m ∷ a) b = rw (read_append case a b) (sym (append_assoc (meaning m.s (symbol_at case m.cell)) (read case a) (read case b)))

read_symbol : (case : CaseValues) (symbol : Symbol) (found : Option Cell) → IsSound case → cell_of case symbol ≡ found → is_some found ≡ true →
    read case (plain found) ≡ symbol ∷ []
read_symbol case symbol None sound is some = cc
read_symbol case symbol (Some cell) sound is some = rw (sound.inverse symbol cell is) refl

pub read_word : (case : CaseValues) (word : List Symbol) → IsSound case → AllByRecursion (Has case) word → read case (word_punches case word) ≡ word
read_word case [] sound has = refl
read_word case (symbol ∷ word) sound has =
    read_append case (plain (cell_of case symbol)) (word_punches case word)
    ∙ rw (read_symbol case symbol (cell_of case symbol) sound refl has.0, read_word case word sound has.1) refl

read_spaced : (case : CaseValues) (words : List (List Symbol)) → IsSound case → WordsHave case words →
    read case (spaced_punches case words) ≡ spaced words
read_spaced case [] sound has = refl
read_spaced case (word ∷ words) sound has =
    ap (λ (t : List Symbol). space ∷ t)
    (read_append case (word_punches case word) (spaced_punches case words)
    ∙ rw (read_word case word sound has.0, read_spaced case words sound has.1) refl)

read_words : (case : CaseValues) (words : List (List Symbol)) → IsSound case → WordsHave case words →
    read case (words_punches case words) ≡ joined words
read_words case [] sound has = refl
read_words case (word ∷ words) sound has =
    read_append case (word_punches case word) (spaced_punches case words)
    ∙ rw (read_word case word sound has.0, read_spaced case words sound has.1) refl

-- fills aren't read
read_fill : (case : CaseValues) (n : ℕ) (cell : Cell) → symbol_at case cell ≡ None → read case (replicate n (record { cell = cell; s = false })) ≡ []
read_fill case zero cell none = refl
read_fill case (suc n) cell none = rw (none, read_fill case n cell none) refl

read_fills : (case : CaseValues) (counts : List ℕ) (cells : List Cell) → AllByRecursion (λ cell. symbol_at case cell ≡ None) cells →
    read case (fill_punches (zip counts cells)) ≡ []
read_fills case [] cells none = refl
read_fills case (n ∷ counts) [] none = refl
read_fills case (n ∷ counts) (cell ∷ cells) none =
    read_append case (replicate n (record { cell = cell; s = false })) (fill_punches (zip counts cells))
    ∙ rw (read_fill case n cell none.0, read_fills case counts cells none.1) refl

-- a line that is cast reads as its text
pub line_reads : (terms : Terms) (line : SetLine) (coarse fine : ℕ) → IsSound terms.case → WordsHave terms.case line.words →
    reading (casts terms.case terms.wedge coarse fine (punches terms line)) ≡ text terms line
line_reads terms line coarse fine sound has =
    read_casts terms.case terms.wedge coarse fine (punches terms line)
    ∙ (read_append terms.case (words_punches terms.case line.words) _
    ∙ rw (read_words terms.case line.words sound has)
    (ap (λ (t : List Symbol). joined line.words ++ t) (read_end terms line (has_added terms line) sound)))
  where
    read_end : (terms : Terms) (line : SetLine) (added : Bool) → IsSound terms.case →
        read terms.case (cond added (space_punch terms.case ∷ []) [] ++ fill_punches (zip (fills terms line) terms.case.fill))
        ≡ cond added (space ∷ []) []
    read_end terms line true sound = ap (λ (t : List Symbol). space ∷ t) (read_fills terms.case (fills terms line) terms.case.fill sound.fills_blank)
    read_end terms line false sound = read_fills terms.case (fills terms line) terms.case.fill sound.fills_blank
