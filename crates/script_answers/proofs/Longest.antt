-- What is written for a copy is runs, each the longest of its style.
use Rattle.std.proofs.Common.{◌≡◌, ℕ, ◌==◌, true, false, List, [], ◌∷◌, ◌++◌, Some, None, refl, sym, ap, subst, ◌∙◌, append_assoc, inl, inr}
use Rattle.std.specs.Prelude.{◌≢◌, ◌⊎◌}
use Rattle.std.proofs.lemmas.Bool.{eqb-true}
use Rattle.desk_ops.specs.declared.op.Style.{Style}
use Rattle.desk_ops.specs.declared.op.Style.TheVariants.{Roman, Italic, SmallCap}
use Rattle.desk_ops.specs.declared.op.Symbol.{Symbol}
use Rattle.desk_ops.specs.Op.{same_style}
use Rattle.script_answers.specs.Copy.{symbol, style_of}
use Rattle.script_answers.specs.Writing.{opening, quoted, copy_chars_from}
use Rattle.script_answers.specs.Spelling.{StandsFor, SpellsInside, IsRun, RunOf, joined, AreRuns}
use Rattle.script_answers.specs.Laws.{AreLongest}
use Rattle.desk_ops.proofs.Stamps.{by_cases}
use Rattle.desk_ops.proofs.Symbols.{style_itself, style_same}
use Rattle.script_answers.proofs.Spelling.{is_not}

other_is : (a b : Style) → same_style a b ≡ false → a ≢ b
other_is a b e same = absurd (let f : true ≡ false = sym (style_itself a) ∙ ap (same_style a) same ∙ e in cc)

stands : (c : ℕ) → StandsFor (quoted c) c
stands c =
    by_cases (c == 10) (λ e. rw (eqb-true c 10 e) (inr (110, refl, refl)))
    (λ p. by_cases (c == 92) (λ e. rw (eqb-true c 92 e) (inr (92, refl, refl)))
    (λ q. by_cases (c == 34) (λ e. rw (eqb-true c 34 e) (inr (34, refl, refl)))
    (λ r. rw (p, q, r) (inl (refl, is_not c 34 r, is_not c 92 q)))))

-- ---- what follows a symbol of an open run

abbrev Follows : List ℕ → List RunOf → Type 0
Follows left runs = ((left ≡ []) × (runs ≡ [])) ⊎ ((rest : List ℕ) × (left ≡ 32 ∷ rest) × AreRuns rest runs)

record Written (s : Symbol) (ys : List Symbol) (cs : List ℕ) : Type 0 where
  pub more : List Symbol
  pub runs : List RunOf
  pub inside : List ℕ
  pub left : List ℕ
  pub split : cs ≡ inside ++ 34 ∷ left
  pub spelled : SpellsInside s.style inside more
  pub then_runs : Follows left runs
  pub longest : AreLongest ((s, more) ∷ runs)
  pub all : ys ≡ more ++ joined runs

letter : Style → ℕ
letter Roman = 114
letter Italic = 105
letter SmallCap = 115

opening_is : (style : Style) → opening style ≡ letter style ∷ 34 ∷ []
unfolding letter
opening_is Roman = refl
opening_is Italic = refl
opening_is SmallCap = refl

letter_named : (style : Style) → style_of (letter style) ≡ Some style
unfolding letter
letter_named Roman = refl
letter_named Italic = refl
letter_named SmallCap = refl

-- a run that is opened, with its first symbol, and those after it
whole : (y : Symbol) (cs : List ℕ) (more : List Symbol) (runs : List RunOf) (inside left : List ℕ) → cs ≡ inside ++ 34 ∷ left → SpellsInside y.style inside more → Follows left runs
    → AreRuns (opening y.style ++ (quoted y.ch ++ cs)) ((y, more) ∷ runs)
whole y cs more runs inside left split spelled follows = at runs follows
  where
    text : opening y.style ++ (quoted y.ch ++ cs) ≡ letter y.style ∷ 34 ∷ ((quoted y.ch ++ inside) ++ 34 ∷ left)
    text = ap (λ l. l ++ (quoted y.ch ++ cs)) (opening_is y.style) ∙ ap (λ l. letter y.style ∷ 34 ∷ (quoted y.ch ++ l)) split ∙ ap (λ l. letter y.style ∷ 34 ∷ l) (sym (append_assoc (quoted y.ch) inside (34 ∷ left)))

    run : (prefix : List ℕ) → prefix ≡ letter y.style ∷ 34 ∷ ((quoted y.ch ++ inside) ++ 34 ∷ []) → IsRun prefix y more
    run prefix is = record { style = y.style; letter = letter y.style; named = letter_named y.style; inside = quoted y.ch ++ inside; is = is; spelled = (y.ch, refl, (quoted y.ch, inside, refl, stands y.ch, spelled)) }

    at : (rs : List RunOf) → Follows left rs → AreRuns (opening y.style ++ (quoted y.ch ++ cs)) ((y, more) ∷ rs)
    at [] (inl (empty, none)) = run _ (text ∙ ap (λ l. letter y.style ∷ 34 ∷ ((quoted y.ch ++ inside) ++ 34 ∷ l)) empty)
    at [] (inr (rest, space, are)) = absurd are
    at (r ∷ rs) (inl (empty, none)) = absurd (let f : (r ∷ rs) ≡ [] = none in cc)
    at (r ∷ rs) (inr (rest, space, are)) = (
      letter y.style ∷ 34 ∷ ((quoted y.ch ++ inside) ++ 34 ∷ []),
      rest,
      text ∙ ap (λ l. letter y.style ∷ 34 ∷ ((quoted y.ch ++ inside) ++ 34 ∷ l)) space ∙ ap (λ l. letter y.style ∷ 34 ∷ l) (sym (append_assoc (quoted y.ch ++ inside) (34 ∷ []) (32 ∷ rest))),
      run _ refl,
      are,
    )

same_longest : (s y : Symbol) (more : List Symbol) (runs : List RunOf) → s.style ≡ y.style → AreLongest ((y, more) ∷ runs) → AreLongest ((s, y ∷ more) ∷ runs)
same_longest s y more [] e h = h
same_longest s y more (r ∷ rs) e (differs, rest) = (λ same. differs (sym e ∙ same), rest)

-- the next symbol in the same run, or in another
joins : (s y : Symbol) (ys : List Symbol) (cs : List ℕ) → s.style ≡ y.style → Written y ys cs → Written s (y ∷ ys) (quoted y.ch ++ cs)
joins s y ys cs e w = record {
  more = y ∷ w.more;
  runs = w.runs;
  inside = quoted y.ch ++ w.inside;
  left = w.left;
  split = ap (λ l. quoted y.ch ++ l) w.split ∙ sym (append_assoc (quoted y.ch) w.inside (34 ∷ w.left));
  spelled = (y.ch, ap (λ style. symbol style y.ch) (sym e), (quoted y.ch, w.inside, refl, stands y.ch, subst (λ style. SpellsInside style w.inside w.more) (sym e) w.spelled));
  then_runs = w.then_runs;
  longest = same_longest s y w.more w.runs e w.longest;
  all = ap (λ l. y ∷ l) w.all;
}

begins : (s y : Symbol) (ys : List Symbol) (cs : List ℕ) → s.style ≢ y.style → Written y ys cs → Written s (y ∷ ys) (34 ∷ 32 ∷ (opening y.style ++ (quoted y.ch ++ cs)))
begins s y ys cs e w = record {
  more = [];
  runs = (y, w.more) ∷ w.runs;
  inside = [];
  left = 32 ∷ (opening y.style ++ (quoted y.ch ++ cs));
  split = refl;
  spelled = refl;
  then_runs = inr (opening y.style ++ (quoted y.ch ++ cs), refl, whole y cs w.more w.runs w.inside w.left w.split w.spelled w.then_runs);
  longest = (e, w.longest);
  all = ap (λ l. y ∷ l) w.all;
}

written : (s : Symbol) (ys : List Symbol) → Written s ys (copy_chars_from (Some s.style) ys)
written s [] = record { more = []; runs = []; inside = []; left = []; split = refl; spelled = refl; then_runs = inl (refl, refl); longest = tt; all = refl }
written s (y ∷ ys) =
    by_cases (same_style s.style y.style)
    (λ e. rw e (joins s y ys (copy_chars_from (Some y.style) ys) (style_same s.style y.style e) (written y ys)))
    (λ e. rw e (begins s y ys (copy_chars_from (Some y.style) ys) (other_is s.style y.style e) (written y ys)))

pub longest : (s : Symbol) (symbols : List Symbol) → (runs : List RunOf) × (s ∷ symbols ≡ joined runs) × AreRuns (copy_chars_from None (s ∷ symbols)) runs × AreLongest runs
longest s symbols =
    let w = written s symbols in
    ((s, w.more) ∷ w.runs, ap (λ l. s ∷ l) w.all, whole s (copy_chars_from (Some s.style) symbols) w.more w.runs w.inside w.left w.split w.spelled w.then_runs, w.longest)
