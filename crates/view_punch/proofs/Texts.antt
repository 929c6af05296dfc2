-- Texts that grow by one part.
use Rattle.std.proofs.Common.{◌≡◌, ℕ, ◌+◌, suc, [], List, ◌++◌, ◌∙◌, ap, refl, sym, append-nil, append_assoc, add-one}
use Rattle.desk_signals.specs.Words.{column_name}
use Rattle.desk_case.specs.Case.{CaseValues, symbol_at}
use Rattle.view_proof.specs.Parts.{right}
use Rattle.view_punch.specs.Layout.{cells_to, held_text, line_text, lines_to, names_to, shown_cell}

-- no part yet
none_yet : (text part : List ℕ) → part ≡ [] → text ≡ text ++ part
none_yet text part is = sym (append-nil text) ∙ ap (λ xs. text ++ xs) (sym is)

-- a part more, after the first n of them
one_part : (parts : ℕ → List ℕ) (part out before after : List ℕ) (n : ℕ) → parts (suc n) ≡ parts n ++ part → before ≡ out ++ parts n → after ≡ before ++ part → after ≡ out ++ parts (n + 1)
one_part parts part out before after n grows so_far put =
    put ∙ ap (λ xs. xs ++ part) so_far ∙ append_assoc out (parts n) part ∙ ap (λ xs. out ++ xs) (sym grows) ∙ ap (λ k. out ++ parts k) (sym (add-one n))

pub no_names : (text : List ℕ) → text ≡ text ++ names_to 0
unfolding names_to
no_names text = none_yet text (names_to 0) refl

pub one_name : (out before after : List ℕ) (n : ℕ) → before ≡ out ++ names_to n → after ≡ before ++ right 4 (column_name (shown_cell 0 n).column) → after ≡ out ++ names_to (n + 1)
unfolding names_to
one_name out before after n so_far put = one_part names_to (right 4 (column_name (shown_cell 0 n).column)) out before after n refl so_far put

pub no_cells : (case : CaseValues) (row : ℕ) (text : List ℕ) → text ≡ text ++ cells_to case row 0
unfolding cells_to
no_cells case row text = none_yet text (cells_to case row 0) refl

pub one_cell : (case : CaseValues) (row : ℕ) (out before after : List ℕ) (n : ℕ) → before ≡ out ++ cells_to case row n → after ≡ before ++ held_text case (shown_cell row n) (symbol_at case (shown_cell row n)) → after ≡ out ++ cells_to case row (n + 1)
unfolding cells_to
one_cell case row out before after n so_far put = one_part (cells_to case row) (held_text case (shown_cell row n) (symbol_at case (shown_cell row n))) out before after n refl so_far put

pub no_lines : (case : CaseValues) (text : List ℕ) → text ≡ text ++ lines_to case 0
unfolding lines_to
no_lines case text = none_yet text (lines_to case 0) refl

pub one_line : (case : CaseValues) (out before after : List ℕ) (n : ℕ) → before ≡ out ++ lines_to case n → after ≡ before ++ line_text case n → after ≡ out ++ lines_to case (n + 1)
unfolding lines_to
one_line case out before after n so_far put = one_part (lines_to case) (line_text case n) out before after n refl so_far put
