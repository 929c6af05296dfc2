-- Writing a copy, and reading it again.
use Rattle.std.proofs.Common.{◌≡◌, ℕ, ◌+◌, ◌<◌, List, ◌∷◌, ◌++◌, Option, Some, None, refl, sym, ap, ◌∙◌, append_assoc, length, drop, get_or}
use Rattle.std.proofs.Math.Utf8.{encode}
use Rattle.std.proofs.lemmas.List.{at_drop_more}
use Rattle.std.proofs.lemmas.Str.{encodes-append}
use Rattle.std.specs.Str.{encode_utf8_all}
use Rattle.desk_ops.specs.declared.op.Style.{Style}
use Rattle.desk_ops.specs.declared.op.Style.TheVariants.{Roman, Italic, SmallCap}
use Rattle.desk_ops.specs.declared.op.Symbol.{Symbol}
use Rattle.script_answers.specs.Writing.{opening, quoted, turn, copy_chars_from}

plain_opening : (style : Style) → encode_utf8_all (opening style) ≡ opening style
unfolding encode
plain_opening Roman = refl
plain_opening Italic = refl
plain_opening SmallCap = refl

plain_turn : (run : Option Style) (style : Style) → encode_utf8_all (turn run style) ≡ turn run style
unfolding encode
plain_turn None style = plain_opening style
plain_turn (Some Roman) Roman = refl
plain_turn (Some Roman) Italic = refl
plain_turn (Some Roman) SmallCap = refl
plain_turn (Some Italic) Roman = refl
plain_turn (Some Italic) Italic = refl
plain_turn (Some Italic) SmallCap = refl
plain_turn (Some SmallCap) Roman = refl
plain_turn (Some SmallCap) Italic = refl
plain_turn (Some SmallCap) SmallCap = refl

pub copy_put : (out turned out' whole : List ℕ) (run : Option Style) (symbols : List Symbol) (i : ℕ) (s d : Symbol) → i < length symbols → s ≡ get_or symbols i d
    → turned ≡ out ++ turn run s.style → out' ≡ turned ++ encode_utf8_all (quoted s.ch)
    → out ++ encode_utf8_all (copy_chars_from run (drop i symbols)) ≡ whole
    → out' ++ encode_utf8_all (copy_chars_from (Some s.style) (drop (i + 1) symbols)) ≡ whole
copy_put out turned out' whole run symbols i s d lt is turns quotes so_far =
    let rest = encode_utf8_all (copy_chars_from (Some s.style) (drop (i + 1) symbols)) in
    let here : drop i symbols ≡ s ∷ drop (i + 1) symbols = at_drop_more (λ xs. xs) symbols i d lt ∙ ap (λ x. x ∷ drop (i + 1) symbols) (sym is) in
    let all : encode_utf8_all (copy_chars_from run (s ∷ drop (i + 1) symbols)) ≡ turn run s.style ++ (encode_utf8_all (quoted s.ch) ++ rest)
    = encodes-append (turn run s.style) _ ∙ ap (λ xs. xs ++ encode_utf8_all (quoted s.ch ++ copy_chars_from (Some s.style) (drop (i + 1) symbols))) (plain_turn run s.style)
    ∙ ap (λ xs. turn run s.style ++ xs) (encodes-append (quoted s.ch) _) in
    let ahead : out' ++ rest ≡ out ++ (turn run s.style ++ (encode_utf8_all (quoted s.ch) ++ rest)) = rw (quotes, turns) (simp append_assoc) in
    ahead ∙ ap (λ xs. out ++ xs) (sym all) ∙ ap (λ xs. out ++ encode_utf8_all (copy_chars_from run xs)) (sym here) ∙ so_far
