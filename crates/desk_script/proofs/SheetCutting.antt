-- The first line of bytes, found byte by byte.
use Rattle.std.proofs.Common.{◌≡◌, ℕ, ◌+◌, ◌-◌, ◌<◌, ◌==◌, false, List, [], ◌∷◌, length, take, drop, get_or, sym, ap, ◌∙◌, arith, eq-eqb}
use Rattle.std.proofs.lemmas.List.{at_drop_all, drop_more, length-drop, take_all}
use Rattle.desk_script.specs.Line.{line_of}
use Rattle.desk_script.specs.Lines.{lines, without_cr}
use Rattle.desk_script.specs.Pending.{lines_from}
use Rattle.desk_script.proofs.Cutting.{from_end, last_some, lines-from}

-- none of the first bytes ends a line
abbrev pub IsWithin : List ℕ → ℕ → Type 0
IsWithin bytes at = lines_from [] bytes ≡ lines_from (take at bytes) (drop at bytes)

-- what a slice from a place on has
pub slice_from : (bytes : List ℕ) (at : ℕ) → take (length bytes - at) (drop at bytes) ≡ drop at bytes
slice_from bytes at = take_all (length bytes - at) (drop at bytes) (omega (arith, length-drop at bytes))

pub slice_end : (bytes : List ℕ) → take (length bytes - length bytes) (drop (length bytes) bytes) ≡ []
slice_end bytes = slice_from bytes (length bytes) ∙ at_drop_all (λ l. l) bytes (length bytes) (omega arith)

pub first_ends : (bytes line rest : List ℕ) (at : ℕ) → at < length bytes → get_or bytes at 0 ≡ 10 → line ≡ without_cr (take at bytes) → rest ≡ drop (at + 1) bytes → IsWithin bytes at → lines bytes ≡ line_of line ∷ lines rest
first_ends bytes line rest at lt end cut after so_far =
    sym (lines-from bytes) ∙ so_far ∙ ap (lines_from (take at bytes)) (drop_more bytes at 0 lt)
    ∙ from_end (take at bytes) (drop (at + 1) bytes) (get_or bytes at 0) (eq-eqb (get_or bytes at 0) 10 end)
    ∙ ap (λ l. line_of (without_cr (take at bytes)) ∷ l) (lines-from (drop (at + 1) bytes)) ∙ ap (λ l. line_of l ∷ lines (drop (at + 1) bytes)) (sym cut) ∙ ap (λ l. line_of line ∷ lines l) (sym after)

all_within : (bytes : List ℕ) → lines_from (take (length bytes) bytes) (drop (length bytes) bytes) ≡ lines_from bytes []
all_within bytes =
    at_drop_all (lines_from (take (length bytes) bytes)) bytes (length bytes) (omega arith) ∙ ap (λ p. lines_from p []) (take_all (length bytes) bytes (omega arith))

pub last_is : (bytes rest : List ℕ) (at : ℕ) → at ≡ length bytes → (length bytes == 0) ≡ false → rest ≡ [] → IsWithin bytes at → lines bytes ≡ line_of bytes ∷ lines rest
last_is bytes rest at end some empty so_far =
    sym (lines-from bytes) ∙ so_far ∙ ap (λ n. lines_from (take n bytes) (drop n bytes)) end ∙ all_within bytes ∙ last_some bytes some ∙ ap (λ r. line_of bytes ∷ lines r) (sym empty)
