-- The lines of a galley are those of the job.
use Rattle.std.proofs.Common.{◌≡◌, ℕ, suc, Bool, true, false, List, [], ◌∷◌, ◌++◌, map, refl, sym, ap, ◌∙◌, Some, None, if◌then◌else◌, ◌==◌}
use Rattle.std.specs.Prelude.{ℤ, pos, option_and_then}
use Rattle.std.specs.List.{flat_map}
use Rattle.desk_ops.specs.declared.op.Symbol.{Symbol}
use Rattle.desk_lines.specs.declared.words.Word.{Word}
use Rattle.desk_lines.specs.declared.groups.Group.{Group}
use Rattle.desk_lines.specs.Words.{words_of}
use Rattle.desk_lines.specs.Groups.{groups_of}
use Rattle.desk_ribbon.specs.declared.Punch.{Punch}
use Rattle.desk_ribbon.specs.Ribbon.{head_row}
use Rattle.desk_signals.specs.declared.RibbonRow.{RibbonRow}
use Rattle.desk_units.specs.WedgeSum.{pair_of}
use Rattle.desk_job.specs.Job.{Terms, measure, tight_space, widths, spaces, wedge_sum, punches, line_fault, line_faults, line_rows, lines, rows_of, rows_at}
use Rattle.desk_job.specs.Setting.{line_at, words_at}
use Rattle.desk_job.specs.Making.{all_lines, lines_at, paragraph_lines}
use Rattle.desk_job.specs.declared.JobFault.{JobFault}
use Rattle.desk_job.specs.declared.JobFault.TheVariants.{TooWide}
use Rattle.desk_job.proofs.Adding.{none_before}
use Rattle.desk_job.proofs.NoFaults.{none_after}
use Rattle.desk_job.proofs.Paragraphs.{copy_is, paragraph_is}
use Rattle.view_galley.specs.Values.{LineValues}
use Rattle.view_galley.specs.Line.{Placed, line_of, values_of}
use Rattle.view_galley.specs.Galley.{all_placed, galley_of, numbered, placed_at, placed_in, rows_of_line}

map_append : {A B : Type 0} (f : A → B) (xs ys : List A) → map f (xs ++ ys) ≡ map f xs ++ map f ys
map_append f [] ys = refl
map_append f (x ∷ xs) ys = ap (λ (l : List _). f x ∷ l) (map_append f xs ys)

placed_lines : (copy : List Symbol) (words : List Word) (groups : List Group) → map (line_of copy) (placed_at words groups) ≡ lines_at copy words groups
placed_lines copy words [] = refl
placed_lines copy words (group ∷ groups) = rw (placed_lines copy words groups) refl

paragraph_placed : (terms : Terms) (copy : List Symbol) (words : List Word) → map (line_of copy) (placed_in terms copy words) ≡ paragraph_lines terms copy words
paragraph_placed terms copy words =
    placed_lines copy words (groups_of (tight_space terms) (pos (measure terms)) (widths terms (words_at copy words)))
    ∙ paragraph_is terms copy words (widths terms (words_at copy words)) refl

paragraphs_placed : (terms : Terms) (copy : List Symbol) (found : List (List Word)) → map (line_of copy) (all_placed terms copy found) ≡ all_lines terms copy found
paragraphs_placed terms copy [] = refl
paragraphs_placed terms copy (ws ∷ found) =
    map_append (line_of copy) (placed_in terms copy ws) (all_placed terms copy found)
    ∙ rw (paragraph_placed terms copy ws, paragraphs_placed terms copy found) refl

-- the lines stand where the galley says
copy_placed : (terms : Terms) (copy : List Symbol) → map (line_of copy) (all_placed terms copy (words_of copy)) ≡ lines terms copy
copy_placed terms copy = paragraphs_placed terms copy (words_of copy) ∙ copy_is terms copy

numbered_lines : (terms : Terms) (copy : List Symbol) (n : ℕ) (ps : List Placed) →
    map (λ (line : LineValues). line_at copy line.words line.filled) (numbered terms copy n ps) ≡ map (line_of copy) ps
numbered_lines terms copy n [] = refl
numbered_lines terms copy n (placed ∷ ps) = rw (numbered_lines terms copy (suc n) ps) refl

pub lines_are_of_job : (terms : Terms) (copy : List Symbol) →
    map (λ (line : LineValues). line_at copy line.words line.filled) (galley_of terms copy) ≡ lines terms copy
lines_are_of_job terms copy = numbered_lines terms copy 1 (all_placed terms copy (words_of copy)) ∙ copy_placed terms copy

numbered_faults : (terms : Terms) (copy : List Symbol) (n : ℕ) (ps : List Placed) →
    flat_map (λ (line : LineValues). line.faults) (numbered terms copy n ps) ≡ line_faults terms n (map (line_of copy) ps)
numbered_faults terms copy n [] = refl
numbered_faults terms copy n (placed ∷ ps) = rw (numbered_faults terms copy (suc n) ps) refl

pub faults_are_of_job : (terms : Terms) (copy : List Symbol) →
    flat_map (λ (line : LineValues). line.faults) (galley_of terms copy) ≡ line_faults terms 1 (lines terms copy)
faults_are_of_job terms copy =
    numbered_faults terms copy 1 (all_placed terms copy (words_of copy)) ∙ ap (line_faults terms 1) (copy_placed terms copy)

-- a line without a fault has a space, and so the number that drives it
rows_by_space : (b : Bool) (n : ℕ) (more : List JobFault) (ps : List Punch) (z : ℤ) → (if b then TooWide n ∷ [] else more) ≡ [] →
    rows_at ps (pair_of z) ≡ rows_at ps (option_and_then pair_of (if b then None else Some z))
rows_by_space true n more ps z none = absurd (one_fault none)
  where
    one_fault : (TooWide n ∷ []) ≡ [] → ⊥
    one_fault e = cc
rows_by_space false n more ps z none = refl

numbered_rows : (terms : Terms) (copy : List Symbol) (n : ℕ) (ps : List Placed) → line_faults terms n (map (line_of copy) ps) ≡ [] →
    flat_map (line_rows terms) (map (line_of copy) ps) ≡ flat_map (rows_of_line terms.case copy) (numbered terms copy n ps)
numbered_rows terms copy n [] none = refl
numbered_rows terms copy n (placed ∷ ps) none =
    let line = line_of copy placed in
    let more = line_faults terms (suc n) (map (line_of copy) ps) in
    let here : line_rows terms line ≡ rows_of_line terms.case copy (values_of terms copy n placed) =
    rows_by_space (spaces terms line == 0) n _ (punches terms line) (wedge_sum terms line) (none_before (line_fault terms n line) more none) in
    let rest = numbered_rows terms copy (suc n) ps (none_after (line_fault terms n line) more none) in
    both here rest
  where
    both : {A : Type 0} {a b c d : List A} → a ≡ b → c ≡ d → a ++ c ≡ b ++ d
    both e f = rw (e, f) refl

pub rows_are_of_galley : (terms : Terms) (copy : List Symbol) → line_faults terms 1 (lines terms copy) ≡ [] →
    rows_of terms (lines terms copy) ≡ head_row ∷ flat_map (rows_of_line terms.case copy) (galley_of terms copy)
rows_are_of_galley terms copy none =
    let ps = all_placed terms copy (words_of copy) in
    let is = copy_placed terms copy in
    ap (λ (l : List RibbonRow). head_row ∷ l)
    (ap (flat_map (line_rows terms)) (sym is) ∙ numbered_rows terms copy 1 ps (ap (line_faults terms 1) is ∙ none))
