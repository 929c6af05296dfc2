-- What holds of the script's texts.
use Rattle.std.specs.Prelude.{◌≡◌, ◌≢◌, ◌↔◌, ℕ, List, [], ◌∷◌, ◌++◌, Some, None, codes}
use Rattle.std.specs.Char.{IsScalar}
use Rattle.std.specs.Str.{IsUtf8}
use Rattle.desk_ops.specs.declared.op.Symbol.{Symbol}
use Rattle.script_answers.specs.declared.copy.Place.TheVariants.{Run}
use Rattle.script_answers.specs.Command.{Insert}
use Rattle.script_answers.specs.Copy.{copy_from, copy_at}
use Rattle.script_answers.specs.Grammar.{command_of}
use Rattle.script_answers.specs.Reading.{number_of}
use Rattle.script_answers.specs.Writing.{copy_chars_from, copy_text}
use Rattle.script_answers.specs.Spelling.{RunOf, joined, AreRuns, IsCopy}

-- each symbol has a character, as each `char` is one
abbrev pub AreCharacters : List Symbol → Type 0
AreCharacters [] = Unit {0}
AreCharacters (s ∷ symbols) = IsScalar s.ch × AreCharacters symbols

-- What is written for a copy of one symbol or more is read again as that copy.
pub record CopyIsReadAgain : Type 0 where
  -- in characters
  pub characters : (s : Symbol) (symbols : List Symbol)
      → copy_from Run (copy_chars_from None (s ∷ symbols)) ≡ Some (s ∷ symbols)
  -- in bytes, which are UTF-8
  pub bytes : (s : Symbol) (symbols : List Symbol) → AreCharacters (s ∷ symbols)
      → IsUtf8 (copy_text (s ∷ symbols)) × (copy_at (Some (copy_text (s ∷ symbols))) ≡ Some (s ∷ symbols))
  -- in the line of an insert, behind the numbers of a site and of a place
  pub line : (site place : List ℕ) (m n : ℕ) (s : Symbol) (symbols : List Symbol)
      → number_of site ≡ Some m → number_of place ≡ Some n → AreCharacters (s ∷ symbols)
      → command_of (codes "insert " ++ (site ++ 32 ∷ (place ++ 32 ∷ copy_text (s ∷ symbols))))
      ≡ Some (Insert m n (s ∷ symbols))

-- what reads COPY reads exactly its spelling
abbrev pub CopyIsItsSpelling : Type 0
CopyIsItsSpelling = (cs : List ℕ) (symbols : List Symbol) → (copy_from Run cs ≡ Some symbols) ↔ IsCopy cs symbols

-- neighbouring runs differ in style, so that each is the longest of its own
abbrev pub AreLongest : List RunOf → Type 0
AreLongest [] = Unit {0}
AreLongest (run ∷ []) = Unit {0}
AreLongest (run ∷ next ∷ runs) = (run.0.style ≢ next.0.style) × AreLongest (next ∷ runs)

-- what is written for a copy of one symbol or more are its runs, each the longest of its style
abbrev pub RunsAreLongest : Type 0
RunsAreLongest =
    (s : Symbol) (symbols : List Symbol) → (runs : List RunOf) × (s ∷ symbols ≡ joined runs)
    × AreRuns (copy_chars_from None (s ∷ symbols)) runs × AreLongest runs
