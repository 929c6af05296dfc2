-- Writing a copy, symbol by symbol.
use Rattle.std.proofs.Common.{◌≡◌, ℕ, ◌+◌, ◌<◌, false, List, [], ◌∷◌, ◌++◌, refl, sym, ap, ◌∙◌, append_assoc, length, drop, get_or}
use Rattle.std.proofs.Math.Utf8.{encode}
use Rattle.std.proofs.lemmas.Grind.{replicate_next}
use Rattle.std.proofs.lemmas.Str.{encodes-append}
use Rattle.std.specs.Prelude.{Result, OnOk}
use Rattle.std.proofs.lemmas.Result.{on_ok_weaker}
use Rattle.std.proofs.lemmas.Bool.{ne_eqb}
use Rattle.std.specs.Str.{encode_utf8_all}
use Rattle.desk_ops.specs.declared.op.Style.{Style}
use Rattle.desk_ops.specs.declared.op.Symbol.{Symbol}
use Rattle.desk_ops.specs.Op.{same_style}
use Rattle.desk_ops.proofs.Lists.{drop-at}
use Rattle.text_copy.specs.Marks.{mark}
use Rattle.text_copy.specs.Writing.{spaces, quoted, turn, text_from}

pub space_put : (out before after : List ℕ) (n : ℕ) → before ≡ out ++ encode_utf8_all (spaces n) → after ≡ before ++ encode 32 → after ≡ out ++ encode_utf8_all (spaces (n + 1))
unfolding encode
space_put out before after n so_far pushed =
    pushed ∙ ap (λ xs. xs ++ 32 ∷ []) so_far ∙ append_assoc out (encode_utf8_all (spaces n)) (32 ∷ [])
    ∙ ap (λ xs. out ++ xs) (sym (encodes-append (spaces n) (32 ∷ [])) ∙ ap encode_utf8_all (sym (replicate_next n 32)))

-- another symbol is written, with the spaces before it
pub symbol_put : (out turned after whole : List ℕ) (run : Style) (count : ℕ) (copy : List Symbol) (i : ℕ) (s d : Symbol) → i < length copy → s ≡ get_or copy i d → (s.ch ≡ 32 → ⊥)
    → turned ≡ out ++ encode_utf8_all (turn run count s.style) → after ≡ turned ++ encode_utf8_all (quoted s.ch)
    → out ++ encode_utf8_all (text_from run count (drop i copy)) ≡ whole
    → after ++ encode_utf8_all (text_from s.style 0 (drop (i + 1) copy)) ≡ whole
symbol_put out turned after whole run count copy i s d lt is other turns quotes so_far =
    let rest = encode_utf8_all (text_from s.style 0 (drop (i + 1) copy)) in
    let here : text_from run count (s ∷ drop (i + 1) copy) ≡ (turn run count s.style ++ quoted s.ch) ++ text_from s.style 0 (drop (i + 1) copy) = rw (ne_eqb s.ch 32 other) refl in
    let all : encode_utf8_all ((turn run count s.style ++ quoted s.ch) ++ text_from s.style 0 (drop (i + 1) copy)) ≡ (encode_utf8_all (turn run count s.style) ++ encode_utf8_all (quoted s.ch)) ++ rest
    = encodes-append (turn run count s.style ++ quoted s.ch) _ ∙ ap (λ xs. xs ++ rest) (encodes-append (turn run count s.style) (quoted s.ch)) in
    let ahead : after ++ rest ≡ out ++ ((encode_utf8_all (turn run count s.style) ++ encode_utf8_all (quoted s.ch)) ++ rest) = rw (quotes, turns) (simp append_assoc) in
    ahead ∙ ap (λ xs. out ++ xs) (sym all) ∙ ap (λ xs. out ++ encode_utf8_all xs) (sym here ∙ ap (text_from run count) (sym (drop-at copy i s d lt is))) ∙ so_far

-- a run that ends, spaces, and one that begins
pub turn_put : (out closed spaced : List ℕ) {E : Type 0} (run : Style) (count : ℕ) (style : Style) (result : Result (Unit {0}) E) (after : List ℕ) → same_style run style ≡ false
    → closed ≡ out ++ encode_utf8_all (mark run) → spaced ≡ closed ++ encode_utf8_all (spaces count)
    → OnOk result (after ≡ spaced ++ encode_utf8_all (mark style)) → OnOk result (after ≡ out ++ encode_utf8_all (turn run count style))
turn_put out closed spaced run count style result after other closes spaces_put =
    let all : encode_utf8_all (turn run count style) ≡ encode_utf8_all (mark run) ++ (encode_utf8_all (spaces count) ++ encode_utf8_all (mark style))
    = rw other (encodes-append (mark run) (spaces count ++ mark style) ∙ ap (λ xs. encode_utf8_all (mark run) ++ xs) (encodes-append (spaces count) (mark style))) in
    on_ok_weaker result (λ e. e ∙ ap (λ xs. xs ++ encode_utf8_all (mark style)) (spaces_put ∙ ap (λ xs. xs ++ encode_utf8_all (spaces count)) closes)
    ∙ append_assoc (out ++ encode_utf8_all (mark run)) (encode_utf8_all (spaces count)) (encode_utf8_all (mark style))
    ∙ append_assoc out (encode_utf8_all (mark run)) (encode_utf8_all (spaces count) ++ encode_utf8_all (mark style))
    ∙ ap (λ xs. out ++ xs) (sym all))
