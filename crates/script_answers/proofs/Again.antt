-- What is written for a copy is read again as that copy.
use Rattle.std.proofs.Common.{◌≡◌, ℕ, ◌==◌, false, List, [], ◌∷◌, ◌++◌, Option, Some, None, refl, ap, ◌∙◌}
use Rattle.std.proofs.lemmas.Bool.{eqb-true}
use Rattle.desk_ops.specs.declared.op.Style.{Style}
use Rattle.desk_ops.specs.declared.op.Style.TheVariants.{Roman, Italic, SmallCap}
use Rattle.desk_ops.specs.declared.op.Symbol.{Symbol}
use Rattle.script_answers.specs.declared.copy.Place.TheVariants.{Run, Opened, Inside}
use Rattle.script_answers.specs.Reading.{◌>>=◌}
use Rattle.script_answers.specs.Copy.{symbol, step, copy_from}
use Rattle.script_answers.specs.Writing.{opening, quoted, turn, copy_chars_from}
use Rattle.desk_ops.proofs.Stamps.{by_cases}

abbrev pub onto : Style → ℕ → Option (List Symbol) → Option (List Symbol)
onto style c read = read >>= λ more. Some (symbol style c ∷ more)

pub nothing : (read : Option (List Symbol)) → (read >>= λ more. Some ([] ++ more)) ≡ read
nothing None = refl
nothing (Some more) = refl

-- a character that stands for itself
pub itself : (style : Style) (c : ℕ) (rest : List ℕ) → (c == 92) ≡ false → (c == 34) ≡ false → copy_from (Inside style) (c ∷ rest) ≡ onto style c (copy_from (Inside style) rest)
unfolding step
itself style c rest p q = rw (q, p) refl

pub itself_first : (style : Style) (c : ℕ) (rest : List ℕ) → (c == 92) ≡ false → (c == 34) ≡ false → copy_from (Opened style) (c ∷ rest) ≡ onto style c (copy_from (Inside style) rest)
unfolding step
itself_first style c rest p q = rw (q, p) refl

in_quotes : (style : Style) (c : ℕ) (rest : List ℕ) → copy_from (Inside style) (quoted c ++ rest) ≡ onto style c (copy_from (Inside style) rest)
unfolding step
in_quotes style c rest =
    by_cases (c == 10) (λ e. rw (eqb-true c 10 e) (nothing (onto style 10 (copy_from (Inside style) rest))))
    (λ p. by_cases (c == 92) (λ e. rw (eqb-true c 92 e) (nothing (onto style 92 (copy_from (Inside style) rest))))
    (λ q. by_cases (c == 34) (λ e. rw (eqb-true c 34 e) (nothing (onto style 34 (copy_from (Inside style) rest))))
    (λ r. rw (p, q, r) (itself style c rest q r))))

first_in_quotes : (style : Style) (c : ℕ) (rest : List ℕ) → copy_from (Opened style) (quoted c ++ rest) ≡ onto style c (copy_from (Inside style) rest)
unfolding step
first_in_quotes style c rest =
    by_cases (c == 10) (λ e. rw (eqb-true c 10 e) (nothing (onto style 10 (copy_from (Inside style) rest))))
    (λ p. by_cases (c == 92) (λ e. rw (eqb-true c 92 e) (nothing (onto style 92 (copy_from (Inside style) rest))))
    (λ q. by_cases (c == 34) (λ e. rw (eqb-true c 34 e) (nothing (onto style 34 (copy_from (Inside style) rest))))
    (λ r. rw (p, q, r) (itself_first style c rest q r))))

opened : (style : Style) (rest : List ℕ) → copy_from Run (opening style ++ rest) ≡ copy_from (Opened style) rest
unfolding step
opened Roman rest = nothing _ ∙ nothing _
opened Italic rest = nothing _ ∙ nothing _
opened SmallCap rest = nothing _ ∙ nothing _

turned : (run style : Style) (c : ℕ) (rest : List ℕ) → copy_from (Inside run) (turn (Some run) style ++ (quoted c ++ rest)) ≡ onto style c (copy_from (Inside style) rest)
unfolding step
turned Roman Roman c rest = in_quotes Roman c rest
turned Italic Italic c rest = in_quotes Italic c rest
turned SmallCap SmallCap c rest = in_quotes SmallCap c rest
turned Roman Italic c rest = nothing _ ∙ nothing _ ∙ opened Italic (quoted c ++ rest) ∙ first_in_quotes Italic c rest
turned Roman SmallCap c rest = nothing _ ∙ nothing _ ∙ opened SmallCap (quoted c ++ rest) ∙ first_in_quotes SmallCap c rest
turned Italic Roman c rest = nothing _ ∙ nothing _ ∙ opened Roman (quoted c ++ rest) ∙ first_in_quotes Roman c rest
turned Italic SmallCap c rest = nothing _ ∙ nothing _ ∙ opened SmallCap (quoted c ++ rest) ∙ first_in_quotes SmallCap c rest
turned SmallCap Roman c rest = nothing _ ∙ nothing _ ∙ opened Roman (quoted c ++ rest) ∙ first_in_quotes Roman c rest
turned SmallCap Italic c rest = nothing _ ∙ nothing _ ∙ opened Italic (quoted c ++ rest) ∙ first_in_quotes Italic c rest

inside_again : (run : Style) (symbols : List Symbol) → copy_from (Inside run) (copy_chars_from (Some run) symbols) ≡ Some symbols
unfolding step
inside_again run [] = refl
inside_again run (s ∷ symbols) = turned run s.style s.ch (copy_chars_from (Some s.style) symbols) ∙ ap (onto s.style s.ch) (inside_again s.style symbols)

pub read_again : (s : Symbol) (symbols : List Symbol) → copy_from Run (copy_chars_from None (s ∷ symbols)) ≡ Some (s ∷ symbols)
read_again s symbols = opened s.style (quoted s.ch ++ copy_chars_from (Some s.style) symbols) ∙ first_in_quotes s.style s.ch (copy_chars_from (Some s.style) symbols) ∙ ap (onto s.style s.ch) (inside_again s.style symbols)
