-- Symbols that are written with their marks, one by one, and where words end.
use Rattle.std.proofs.Common.{◌≡◌, ℕ, ◌+◌, ◌==◌, ◌≤◌, ◌<◌, Bool, true, false, cond, List, [], ◌∷◌, ◌++◌, refl, sym, ap, ◌∙◌, append_assoc, length, map, drop, get_or, All, arith}
use Rattle.std.specs.Prelude.{◌||◌}
use Rattle.std.specs.Str.{encode_utf8_all}
use Rattle.std.proofs.lemmas.Bool.{eqb-true}
use Rattle.std.proofs.lemmas.Str.{encodes-append}
use Rattle.std.specs.List.{AllByRecursion}
use Rattle.std.proofs.lemmas.List.Elements.{recursion_from_All}
use Rattle.desk_ops.specs.declared.op.Style.{Style}
use Rattle.desk_ops.specs.declared.op.Symbol.{Symbol}
use Rattle.desk_ops.specs.Op.{space}
use Rattle.desk_ops.proofs.Lists.{drop-at}
use Rattle.desk_lines.specs.declared.words.Word.{Word}
use Rattle.desk_job.specs.Setting.{IsWord}
use Rattle.text_copy.specs.Plain.{all_shown, directional_name, in_style, is_directional, shown}
use Rattle.text_copy.specs.Writing.{quoted, turn, text_from}
use Rattle.text_copy.proofs.WrittenOut.{name_text}
use Rattle.view_proof.specs.Parts.{end_from, end_of, shown_quoted}

or_parts : (a b : Bool) → (a || b) ≡ false → (a ≡ false) × (b ≡ false)
or_parts true b e = absurd (let f : true ≡ false = e in cc)
or_parts false b e = (refl, e)

or-false : (a : Bool) → (a || false) ≡ a
or-false true = refl
or-false false = refl

-- what is shown of a symbol that is no space in a text with marks
shown_text : (run : Style) (count : ℕ) (s : Symbol) (rest : List Symbol) → (s.ch == 32) ≡ false → (s.ch == 10) ≡ false
    → text_from run count (shown s ++ rest) ≡ (turn run count s.style ++ shown_quoted s.ch) ++ text_from s.style 0 rest
unfolding shown
shown_text run count s rest other line =
    rw line
    (elim (is_directional s.ch) as (λ b. text_from run count (cond b (map (in_style s.style) (directional_name s.ch)) (s ∷ []) ++ rest) ≡ (turn run count s.style ++ cond b (directional_name s.ch) (quoted s.ch)) ++ text_from s.style 0 rest) [
      | true ↦ name_text run count s.style s.ch rest
      | false ↦ rw other refl
    ])

-- a space or the end of a line is one space more before the next word
gap_text : (run : Style) (count : ℕ) (s : Symbol) (rest : List Symbol) → ((s.ch == 32) || (s.ch == 10)) ≡ true → text_from run count (shown s ++ rest) ≡ text_from run (count + 1) rest
unfolding shown
gap_text run count s rest is =
    elim (s.ch == 10) as (λ b. ((s.ch == 32) || b) ≡ true → text_from run count (cond b (space ∷ []) (cond (is_directional s.ch) (map (in_style s.style) (directional_name s.ch)) (s ∷ [])) ++ rest) ≡ text_from run (count + 1) rest) [
      | true ↦ λ e. refl
      | false ↦ λ e.
          let here : (s.ch == 32) ≡ true = sym (or-false (s.ch == 32)) ∙ e in
          let unmarked : is_directional s.ch ≡ false = ap is_directional (eqb-true s.ch 32 here) in
          rw (unmarked, here) refl
    ] is

-- another symbol is written as it is shown, with the spaces before it
pub marked_put : (out turned after whole : List ℕ) (run : Style) (count : ℕ) (symbols : List Symbol) (i : ℕ) (s d : Symbol) → i < length symbols → s ≡ get_or symbols i d → ((s.ch == 32) || (s.ch == 10)) ≡ false
    → turned ≡ out ++ encode_utf8_all (turn run count s.style) → after ≡ turned ++ encode_utf8_all (shown_quoted s.ch)
    → out ++ encode_utf8_all (text_from run count (all_shown (drop i symbols))) ≡ whole
    → after ++ encode_utf8_all (text_from s.style 0 (all_shown (drop (i + 1) symbols))) ≡ whole
marked_put out turned after whole run count symbols i s d lt is word turns quotes so_far =
    let parts = or_parts (s.ch == 32) (s.ch == 10) word in
    let more = text_from s.style 0 (all_shown (drop (i + 1) symbols)) in
    let rest = encode_utf8_all more in
    let here : text_from run count (all_shown (drop i symbols)) ≡ (turn run count s.style ++ shown_quoted s.ch) ++ more
    = ap (λ l. text_from run count (all_shown l)) (drop-at symbols i s d lt is) ∙ shown_text run count s (all_shown (drop (i + 1) symbols)) parts.0 parts.1 in
    let all : encode_utf8_all ((turn run count s.style ++ shown_quoted s.ch) ++ more) ≡ (encode_utf8_all (turn run count s.style) ++ encode_utf8_all (shown_quoted s.ch)) ++ rest
    = encodes-append (turn run count s.style ++ shown_quoted s.ch) more ∙ ap (λ xs. xs ++ rest) (encodes-append (turn run count s.style) (shown_quoted s.ch)) in
    let ahead : after ++ rest ≡ out ++ ((encode_utf8_all (turn run count s.style) ++ encode_utf8_all (shown_quoted s.ch)) ++ rest) = rw (quotes, turns) (simp append_assoc) in
    ahead ∙ ap (λ xs. out ++ xs) (sym all) ∙ ap (λ xs. out ++ encode_utf8_all xs) (sym here) ∙ so_far

-- another space stands before the next word
pub gap_put : (out whole : List ℕ) (run : Style) (count : ℕ) (symbols : List Symbol) (i : ℕ) (s d : Symbol) → i < length symbols → s ≡ get_or symbols i d → ((s.ch == 32) || (s.ch == 10)) ≡ true
    → out ++ encode_utf8_all (text_from run count (all_shown (drop i symbols))) ≡ whole
    → out ++ encode_utf8_all (text_from run (count + 1) (all_shown (drop (i + 1) symbols))) ≡ whole
gap_put out whole run count symbols i s d lt is gap so_far =
    ap (λ xs. out ++ encode_utf8_all xs) (sym (ap (λ l. text_from run count (all_shown l)) (drop-at symbols i s d lt is) ∙ gap_text run count s (all_shown (drop (i + 1) symbols)) gap)) ∙ so_far

end_within : (copy : List Symbol) (here : ℕ) (words : List Word) → here ≤ length copy → AllByRecursion (IsWord copy) words → end_from here words ≤ length copy
end_within copy here [] lies stand = lies
end_within copy here (word ∷ words) lies stand = end_within copy word.to words stand.0.within stand.1

-- words that stand in a copy end in it
pub words_end : (copy : List Symbol) (words : List Word) → All (IsWord copy) words → end_of words ≤ length copy
words_end copy words stand = end_within copy 0 words (omega arith) (recursion_from_All (IsWord copy) words stand)
