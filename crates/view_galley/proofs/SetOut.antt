-- What the program finds of a line is what the definitions say.
use Rattle.std.proofs.Common.{◌≡◌, ℕ, zero, suc, ◌+◌, ◌-◌, ◌*◌, ◌≤◌, Bool, List, [], ◌∷◌, length, take, drop, refl, sym, ap, ◌∙◌, arith, length-take, length-drop, Option}
use Rattle.std.specs.Prelude.{ℤ, pos, ◌+ℤ◌, ◌-ℤ◌, ◌*ℤ◌, int_le, unsigned_abs, sum_by, ◌&&◌, if◌then◌else◌}
use Rattle.desk_ops.specs.declared.op.Symbol.{Symbol}
use Rattle.desk_lines.specs.declared.words.Word.{Word}
use Rattle.desk_lines.specs.declared.groups.Group.{Group}
use Rattle.desk_lines.specs.Words.{spelled}
use Rattle.desk_justify.specs.Filled.{fills_of, taken}
use Rattle.desk_justify.specs.Positions.{sum_of}
use Rattle.desk_job.specs.Job.{Terms, SetLine, measure, widths, word_width, tight_space, space_width, fill_widths, rest, spaces, wedge_sum, sum_fault}
use Rattle.desk_job.specs.Making.{IsRange, group_words}
use Rattle.desk_job.specs.Setting.{line_at, words_at}
use Rattle.desk_job.specs.declared.JobFault.{JobFault}
use Rattle.desk_job.proofs.LineSizes.{faulted, length_at, measured_at, numbers_are, room_is, spaces_at}
use Rattle.desk_job.proofs.Parts.{drop_map, widths_part}
use Rattle.view_galley.specs.declared.line.Next.{Next}
use Rattle.view_galley.specs.Values.{LineValues}
use Rattle.view_galley.specs.Line.{free, neutral_width, next_at, sum_if, values_of}

-- what the program finds of the words of a line
pub record Finds (terms : Terms) (copy : List Symbol) (words : List Word) (found : List ℤ) (group : Group) (filled : Bool) (n : ℕ)
    (width : ℕ) (added : Bool) (count : ℕ) (rem : ℤ) (counts : List ℕ) (gap room : ℤ) : Type 0 where
  pub range : IsRange (length words) group
  pub are : found ≡ widths terms (words_at copy words)
  pub width_is : width ≡ sum_by unsigned_abs (take (group.to - group.from) (drop group.from found))
  pub added_is : added ≡ filled && int_le (pos width +ℤ pos (length (group_words words group)) *ℤ tight_space terms) (pos (measure terms))
  pub count_is : count ≡ (length (group_words words group) - 1) + (if added then 1 else 0)
  pub rem_is : rem ≡ pos (measure terms) -ℤ pos (width + count * space_width terms)
  pub counts_are : counts ≡ (if filled then fills_of rem (fill_widths terms) else [])
  pub gap_is : gap ≡ rem -ℤ pos (taken counts (fill_widths terms))
  pub room_is : room ≡ pos (measure terms) -ℤ (pos width +ℤ pos (length (group_words words group)) *ℤ tight_space terms)

-- what is kept of it
pub record Keeps (terms : Terms) (words : List Word) (found : List ℤ) (group : Group) (filled : Bool) (n : ℕ)
    (width : ℕ) (added : Bool) (count : ℕ) (rem : ℤ) (counts : List ℕ) (gap room : ℤ) (v : LineValues) : Type 0 where
  pub number_kept : v.number ≡ n
  pub words_kept : v.words ≡ group_words words group
  pub filled_kept : v.filled ≡ filled
  pub added_kept : v.added ≡ added
  pub spaces_kept : v.spaces ≡ count
  pub width_kept : v.width ≡ width + count * space_width terms
  pub rest_kept : v.rest ≡ rem
  pub fills_kept : v.fills ≡ counts
  pub wedge_sum_kept : v.wedge_sum ≡ sum_if count (sum_of gap count)
  pub faults_kept : v.faults ≡ sum_fault terms n filled count (sum_of gap count)
  pub next_kept : v.next ≡ next_at room (drop group.to words) (drop group.to found)

same_values : (v w : LineValues) → v.number ≡ w.number → v.words ≡ w.words → v.filled ≡ w.filled → v.added ≡ w.added → v.spaces ≡ w.spaces →
    v.width ≡ w.width → v.rest ≡ w.rest → v.fills ≡ w.fills → v.wedge_sum ≡ w.wedge_sum → v.faults ≡ w.faults → v.next ≡ w.next → v ≡ w
same_values v w a b c d e f g h i j k =
    by_parts v.number w.number v.words w.words v.filled w.filled v.added w.added v.spaces w.spaces v.width w.width v.rest w.rest v.fills w.fills
    v.wedge_sum w.wedge_sum v.faults w.faults v.next w.next a b c d e f g h i j k
  where
    by_parts : (n n' : ℕ) (ws ws' : List Word) (b b' c c' : Bool) (s s' x x' : ℕ) (z z' : ℤ) (fs fs' : List ℕ) (o o' : Option ℤ) (js js' : List JobFault)
        (y y' : Option Next) → n ≡ n' → ws ≡ ws' → b ≡ b' → c ≡ c' → s ≡ s' → x ≡ x' → z ≡ z' → fs ≡ fs' → o ≡ o' → js ≡ js' → y ≡ y' →
        (let v : LineValues = record { number = n; words = ws; filled = b; added = c; spaces = s; width = x; rest = z; fills = fs; wedge_sum = o; faults = js; next = y } in v)
        ≡ (let w : LineValues = record { number = n'; words = ws'; filled = b'; added = c'; spaces = s'; width = x'; rest = z'; fills = fs'; wedge_sum = o'; faults = js'; next = y' } in w)
    by_parts n n' ws ws' b b' c c' s s' x x' z z' fs fs' o o' js js' y y' e1 e2 e3 e4 e5 e6 e7 e8 e9 e10 e11 =
        rw (e1, e2, e3, e4, e5, e6, e7, e8, e9, e10, e11) refl

-- what is free by the sum of the widths is what is free by the width of the group
free_is : (terms : Terms) (copy : List Symbol) (places : List Word) (width : ℕ) (room : ℤ) → 1 ≤ length places →
    width ≡ sum_by (word_width terms) (words_at copy places) → room ≡ pos (measure terms) -ℤ (pos width +ℤ pos (length places) *ℤ tight_space terms) →
    room ≡ free terms (words_at copy places)
free_is terms copy places width room some wide is =
    let long = length_at copy places in
    let e = room_is terms (words_at copy places) (omega (arith, some, long)) in
    is ∙ ap (λ (z : ℤ). pos (measure terms) -ℤ z) (rw (wide, ← long) e)

after_widths : (terms : Terms) (copy : List Symbol) (words : List Word) (found : List ℤ) (n : ℕ) → found ≡ widths terms (words_at copy words) →
    drop n found ≡ widths terms (words_at copy (drop n words))
after_widths terms copy words found n are =
    ap (drop n) are ∙ (drop_map (λ (w : List Symbol). pos (word_width terms w)) n (words_at copy words) ∙ ap (widths terms) (drop_map (spelled copy) n words))

take_all : {A : Type 0} (xs : List A) (n : ℕ) → length xs ≤ n → take n xs ≡ xs
take_all [] zero h = refl
take_all [] (suc n) h = refl
take_all (x ∷ xs) zero h = absurd (omega arith)
take_all (x ∷ xs) (suc n) h = ap (λ (l : List _). x ∷ l) (take_all xs n (omega (arith, h)))

rest_is : {A : Type 0} (xs : List A) (n : ℕ) → take (length xs - n) (drop n xs) ≡ drop n xs
rest_is xs n = let long = length-drop n xs in take_all (drop n xs) (length xs - n) (omega (arith, long))

-- the words from a place on, and their widths
pub next_rest : (room : ℤ) (words : List Word) (found : List ℤ) (n : ℕ) →
    next_at room (take (length words - n) (drop n words)) (take (length found - n) (drop n found)) ≡ next_at room (drop n words) (drop n found)
next_rest room words found n = rw (rest_is words n, rest_is found n) refl

pub set_out_is : (terms : Terms) (copy : List Symbol) (words : List Word) (found : List ℤ) (group : Group) (filled : Bool) (n width : ℕ) (added : Bool)
    (count : ℕ) (rem : ℤ) (counts : List ℕ) (gap room : ℤ) (v : LineValues) →
    Finds terms copy words found group filled n width added count rem counts gap room →
    Keeps terms words found group filled n width added count rem counts gap room v →
    v ≡ values_of terms copy n (record { words = group_words words group; filled = filled; after = drop group.to words })
set_out_is terms copy words found group filled n width added count rem counts gap room v finds keeps =
    let these = group_words words group in
    let ws = words_at copy these in
    let line : SetLine = line_at copy these filled in
    let order = finds.range.order in
    let within = finds.range.within in
    let a = length-take (group.to - group.from) (drop group.from words) in
    let b = length-drop group.from words in
    let some : 1 ≤ length these = omega (arith, order, within, a, b) in
    let part = widths_part terms copy words found (group.to - group.from) group.from finds.are in
    let m = measured_at terms copy these filled width added (take (group.to - group.from) (drop group.from found)) some part finds.width_is finds.added_is in
    let s = spaces_at copy these added count finds.count_is in
    let h = numbers_are terms ws filled width added count rem counts gap (sum_of gap count) m s finds.rem_is finds.counts_are finds.gap_is refl in
    let wide : width + count * space_width terms ≡ neutral_width terms line = rw (m.width_found, h.spaces_found) refl in
    let rest_is : rem ≡ rest terms line = finds.rem_is ∙ ap (λ (k : ℕ). pos (measure terms) -ℤ pos k) wide in
    let sum_is : sum_if count (sum_of gap count) ≡ sum_if (spaces terms line) (wedge_sum terms line) =
    ap (sum_if count) h.sum_found ∙ ap (λ (k : ℕ). sum_if k (wedge_sum terms line)) h.spaces_found in
    let faults_are = faulted terms n line count added counts (sum_of gap count) v.faults h keeps.faults_kept in
    let free_found = free_is terms copy these width room some m.width_found finds.room_is in
    let after = after_widths terms copy words found group.to finds.are in
    let next_is : next_at room (drop group.to words) (drop group.to found) ≡ next_at (free terms ws) (drop group.to words) (widths terms (words_at copy (drop group.to words))) =
    rw (free_found, after) refl in
    same_values v (values_of terms copy n (record { words = these; filled = filled; after = drop group.to words }))
    keeps.number_kept keeps.words_kept keeps.filled_kept (keeps.added_kept ∙ h.added_found) (keeps.spaces_kept ∙ h.spaces_found) (keeps.width_kept ∙ wide) (keeps.rest_kept ∙ rest_is)
    (keeps.fills_kept ∙ h.fills_found) (keeps.wedge_sum_kept ∙ sum_is) (sym faults_are) (keeps.next_kept ∙ next_is)
