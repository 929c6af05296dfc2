-- Where galleys end in the rows of galleys.
use Rattle.std.proofs.Common.{◌≡◌, ℕ, suc, ◌+◌, Bool, true, false, List, [], ◌∷◌, ◌++◌, map, length, refl, sym, ap, ◌∙◌, append_assoc, arith}
use Rattle.std.specs.List.{flat_map}
use Rattle.std.proofs.lemmas.List.{append-nil}
use Rattle.desk_signals.specs.declared.RibbonRow.{RibbonRow}
use Rattle.desk_signals.specs.declared.RibbonRow.TheVariants.{Coarse, FineOut}
use Rattle.desk_ribbon.specs.Ribbon.{line_rows, punch_row, ribbon_rows}
use Rattle.desk_ribbon.specs.declared.Punch.{Punch}
use Rattle.desk_ribbon.specs.declared.PunchLine.{PunchLine}
use Rattle.view_ribbon.specs.EndLaws.{GalleysEnd}
use Rattle.view_ribbon.specs.Ends.{ended, ended_from}

-- the matrices of a line end no galley
past_cells : (n : ℕ) (is_out : Bool) (punches : List Punch) (coarse : ℕ) (rest : List RibbonRow) →
    ended_from n is_out (map punch_row punches ++ (Coarse coarse ∷ rest)) ≡ ended_from (suc n) false rest
past_cells n is_out [] coarse rest = refl
past_cells n is_out (p ∷ punches) coarse rest = past_cells n false punches coarse rest

past_line : (n : ℕ) (line : PunchLine (Unit {0})) (rest : List RibbonRow) → ended_from n true (line_rows line ++ rest) ≡ ended_from (suc n) true rest
past_line n line rest =
    ap (ended_from n true) (append_assoc (map punch_row line.matrices) (Coarse line.coarse ∷ FineOut line.fine ∷ []) rest)
    ∙ past_cells n true line.matrices line.coarse (FineOut line.fine ∷ rest)

past_lines : (n : ℕ) (lines : List (PunchLine (Unit {0}))) (rest : List RibbonRow) →
    ended_from n true (flat_map line_rows lines ++ rest) ≡ ended_from (n + length lines) true rest
past_lines n [] rest = ap (λ m. ended_from m true rest) (let e : n ≡ n + 0 = omega arith in e)
past_lines n (line ∷ lines) rest =
    ap (ended_from n true) (append_assoc (line_rows line) (flat_map line_rows lines) rest)
    ∙ (past_line n line (flat_map line_rows lines ++ rest)
    ∙ (past_lines (suc n) lines rest ∙ ap (λ m. ended_from m true rest) (let e : suc n + length lines ≡ n + suc (length lines) = omega arith in e)))

-- the lines of a galley behind its head row
past_galley : (lines : List (PunchLine (Unit {0}))) (rest : List RibbonRow) → ended_from 0 true (flat_map line_rows lines ++ rest) ≡ ended_from (length lines) true rest
past_galley lines rest = past_lines 0 lines rest ∙ ap (λ m. ended_from m true rest) (let e : 0 + length lines ≡ length lines = omega arith in e)

past_last : (lines : List (PunchLine (Unit {0}))) → ended_from 0 true (flat_map line_rows lines) ≡ []
past_last lines = ap (ended_from 0 true) (sym (append-nil (flat_map line_rows lines))) ∙ past_galley lines []

-- one galley ends at the head row of the next
next_galleys : (n : ℕ) (galleys : List (List (PunchLine (Unit {0})))) (last : List (PunchLine (Unit {0}))) →
    ended_from n true (flat_map ribbon_rows galleys ++ ribbon_rows last) ≡ n ∷ map length galleys
next_galleys n [] last = ap (λ (l : List ℕ). n ∷ l) (past_last last)
next_galleys n (galley ∷ galleys) last =
    ap (ended_from n true) (append_assoc (ribbon_rows galley) (flat_map ribbon_rows galleys) (ribbon_rows last))
    ∙ ap (λ (l : List ℕ). n ∷ l) (past_galley galley (flat_map ribbon_rows galleys ++ ribbon_rows last) ∙ next_galleys (length galley) galleys last)

pub galleys_end : GalleysEnd
galleys_end [] last = past_last last
galleys_end (galley ∷ galleys) last =
    ap ended (append_assoc (ribbon_rows galley) (flat_map ribbon_rows galleys) (ribbon_rows last))
    ∙ (past_galley galley (flat_map ribbon_rows galleys ++ ribbon_rows last) ∙ next_galleys (length galley) galleys last)
