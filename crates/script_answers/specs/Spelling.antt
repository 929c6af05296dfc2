-- COPY's spelling, by cases.
use Rattle.std.specs.Prelude.{◌≡◌, ◌≢◌, ◌⊎◌, ℕ, List, [], ◌∷◌, ◌++◌, Some}
use Rattle.desk_ops.specs.declared.op.Style.{Style}
use Rattle.desk_ops.specs.declared.op.Symbol.{Symbol}
use Rattle.script_answers.specs.Copy.{symbol, style_of, escaped}

-- what stands for a character inside quotes: itself, where it is neither a quote nor a backslash, or an escape
abbrev pub StandsFor : List ℕ → ℕ → Type 0
StandsFor cs ch = ((cs ≡ ch ∷ []) × (ch ≢ 34) × (ch ≢ 92)) ⊎ ((c : ℕ) × (cs ≡ 92 ∷ c ∷ []) × (escaped c ≡ Some ch))

-- what stands inside the quotes of a run, symbol by symbol
abbrev pub SpellsInside : Style → List ℕ → List Symbol → Type 0
SpellsInside style cs [] = cs ≡ []
SpellsInside style cs (y ∷ ys) =
    (ch : ℕ) × (y ≡ symbol style ch)
    × ((prefix rest : List ℕ) × (cs ≡ prefix ++ rest) × StandsFor prefix ch × SpellsInside style rest ys)

-- the letter of a style, and one or more characters in quotes
pub record IsRun (cs : List ℕ) (first : Symbol) (more : List Symbol) : Type 0 where
  pub style : Style
  pub letter : ℕ
  pub named : style_of letter ≡ Some style
  pub inside : List ℕ
  pub is : cs ≡ letter ∷ 34 ∷ (inside ++ 34 ∷ [])
  pub spelled : SpellsInside style inside (first ∷ more)

-- a run's symbols, of which there is one at least
abbrev pub RunOf : Type 0
RunOf = Symbol × List Symbol

abbrev pub joined : List RunOf → List Symbol
joined [] = []
joined (run ∷ runs) = run.0 ∷ (run.1 ++ joined runs)

-- one or more runs, separated by one space
abbrev pub AreRuns : List ℕ → List RunOf → Type 0
AreRuns cs [] = ⊥
AreRuns cs (run ∷ []) = IsRun cs run.0 run.1
AreRuns cs (run ∷ next ∷ runs) = (prefix rest : List ℕ) × (cs ≡ prefix ++ 32 ∷ rest) × IsRun prefix run.0 run.1
    × AreRuns rest (next ∷ runs)

abbrev pub IsCopy : List ℕ → List Symbol → Type 0
IsCopy cs symbols = (runs : List RunOf) × (symbols ≡ joined runs) × AreRuns cs runs
