-- The numbers of a line: the width of its words, its spaces, its rest.
use Rattle.std.proofs.Common.{◌≡◌, ℕ, suc, ◌+◌, ◌-◌, ◌*◌, ◌≤◌, Bool, true, false, List, [], ◌∷◌, length, refl, sym, ap, ◌∙◌, arith}
use Rattle.std.specs.Prelude.{ℤ, pos, negsuc, ◌+ℤ◌, ◌-ℤ◌, ◌*ℤ◌, int_le, unsigned_abs, sum_by, ◌&&◌, if◌then◌else◌}
use Rattle.std.proofs.lemmas.Int.{ints}
use Rattle.std.proofs.lemmas.List.{length-map}
use Rattle.desk_caster.specs.Caster.{row_width}
use Rattle.std.proofs.lemmas.List.Sums.{sum_by-cons}
use Rattle.desk_ops.specs.declared.op.Symbol.{Symbol}
use Rattle.desk_lines.specs.Groups.{group_width}
use Rattle.desk_justify.specs.Filled.{fills_of, taken, room}
use Rattle.desk_justify.specs.Positions.{sum_of}
use Rattle.desk_justify.proofs.Fills.{counts_number}
use Rattle.desk_job.specs.Job.{Terms, SetLine, widths, word_width, tight_space, space_width, fill_widths, measure, has_added, spaces, rest, fills, left, wedge_sum, sum_fault, line_fault}
use Rattle.desk_lines.specs.declared.words.Word.{Word}
use Rattle.desk_job.specs.Setting.{words_at}
use Rattle.desk_job.specs.declared.JobFault.{JobFault}
use Rattle.desk_job.specs.declared.JobFault.TheVariants.{TooWide}

pub none_of : (w : ℤ) → pos 0 *ℤ w ≡ pos 0
none_of (pos k) = omega (arith, ints)
none_of (negsuc k) = omega (arith, ints)

pub one_more : (w : ℤ) (n : ℕ) → pos (suc n) *ℤ w ≡ w +ℤ pos n *ℤ w
one_more (pos k) n = omega (arith, ints)
one_more (negsuc k) n = omega (arith, ints)

-- the widths' sum is the width of the words
pub total_is : (terms : Terms) (ws : List (List Symbol)) → sum_by unsigned_abs (widths terms ws) ≡ sum_by (word_width terms) ws
total_is terms [] = refl
total_is terms (word ∷ ws) =
    sum_by-cons unsigned_abs (pos (word_width terms word)) (widths terms ws)
    ∙ (ap (λ (n : ℕ). word_width terms word + n) (total_is terms ws) ∙ sym (sum_by-cons (word_width terms) word ws))

-- the width of words and their spaces at tight
pub width_is : (terms : Terms) (word : List Symbol) (words : List (List Symbol)) →
    group_width (tight_space terms) (widths terms (word ∷ words))
    ≡ pos (sum_by (word_width terms) (word ∷ words)) +ℤ pos (length words) *ℤ tight_space terms
width_is terms word [] = let z = none_of (tight_space terms) in let e = sum_by-cons (word_width terms) word [] in omega (arith, ints, z, e)
width_is terms word (next ∷ words) =
    let e = sum_by-cons (word_width terms) word (next ∷ words) in
    let m = one_more (tight_space terms) (length words) in
    let more = width_is terms next words in
    omega (arith, ints, e, m, more)

-- and with one space more
pub room_is : (terms : Terms) (ws : List (List Symbol)) → 1 ≤ length ws →
    pos (sum_by (word_width terms) ws) +ℤ pos (length ws) *ℤ tight_space terms ≡ group_width (tight_space terms) (widths terms ws) +ℤ tight_space terms
room_is terms [] some = absurd (omega arith)
room_is terms (word ∷ words) some =
    let m = one_more (tight_space terms) (length words) in
    let e = width_is terms word words in
    omega (arith, ints, m, e)

-- what the program found of a line
pub record IsMeasured (terms : Terms) (ws : List (List Symbol)) (filled : Bool) (width : ℕ) (added : Bool) : Type 0 where
  pub width_found : width ≡ sum_by (word_width terms) ws
  pub added_found : added ≡ has_added terms (record { words = ws; filled = filled })

pub measured : (terms : Terms) (ws : List (List Symbol)) (filled : Bool) (width : ℕ) (added : Bool) (found : List ℤ) →
    1 ≤ length ws → found ≡ widths terms ws → width ≡ sum_by unsigned_abs found →
    added ≡ filled && int_le (pos width +ℤ pos (length ws) *ℤ tight_space terms) (pos (measure terms)) →
    IsMeasured terms ws filled width added
measured terms ws filled width added found some are sum reported =
    let e : width ≡ sum_by (word_width terms) ws = sum ∙ (ap (sum_by unsigned_abs) are ∙ total_is terms ws) in
    record {
      width_found = e;
      added_found = reported ∙ ap (λ (z : ℤ). filled && int_le z (pos (measure terms)))
          (ap (λ (n : ℕ). pos n +ℤ pos (length ws) *ℤ tight_space terms) e ∙ room_is terms ws some);
    }

-- what the program sets a line by
pub record HasNumbers (terms : Terms) (line : SetLine) (count : ℕ) (added : Bool) (counts : List ℕ) (sum : ℤ) : Type 0 where
  pub spaces_found : count ≡ spaces terms line
  pub added_found : added ≡ has_added terms line
  pub fills_found : counts ≡ fills terms line
  pub sum_found : sum ≡ wedge_sum terms line

pub spaces_are : (terms : Terms) (ws : List (List Symbol)) (filled : Bool) (width : ℕ) (added : Bool) (count : ℕ) →
    IsMeasured terms ws filled width added → count ≡ (length ws - 1) + (if added then 1 else 0) →
    count ≡ spaces terms (record { words = ws; filled = filled })
spaces_are terms ws filled width added count m so = so ∙ ap (λ (b : Bool). (length ws - 1) + (if b then 1 else 0)) m.added_found

pub numbers_are : (terms : Terms) (ws : List (List Symbol)) (filled : Bool) (width : ℕ) (added : Bool) (count : ℕ) (rem : ℤ) (counts : List ℕ) (gap sum : ℤ) →
    IsMeasured terms ws filled width added → count ≡ (length ws - 1) + (if added then 1 else 0) →
    rem ≡ pos (measure terms) -ℤ pos (width + count * space_width terms) →
    counts ≡ (if filled then fills_of rem (fill_widths terms) else []) →
    gap ≡ rem -ℤ pos (taken counts (fill_widths terms)) →
    sum ≡ sum_of gap count →
    HasNumbers terms (record { words = ws; filled = filled }) count added counts sum
numbers_are terms ws filled width added count rem counts gap sum m so is_rem is_counts is_gap is_sum =
    let line : SetLine = record { words = ws; filled = filled } in
    let s = spaces_are terms ws filled width added count m so in
    let r : rem ≡ rest terms line =
    is_rem ∙ (ap (λ (n : ℕ). pos (measure terms) -ℤ pos (n + count * space_width terms)) m.width_found
    ∙ ap (λ (n : ℕ). pos (measure terms) -ℤ pos (sum_by (word_width terms) ws + n * space_width terms)) s) in
    let k : counts ≡ fills terms line = is_counts ∙ ap (λ (z : ℤ). if filled then fills_of z (fill_widths terms) else []) r in
    let l : gap ≡ left terms line =
    is_gap ∙ (ap (λ (z : ℤ). z -ℤ pos (taken counts (fill_widths terms))) r
    ∙ ap (λ (cs : List ℕ). rest terms line -ℤ pos (taken cs (fill_widths terms))) k) in
    record {
      spaces_found = s;
      added_found = m.added_found;
      fills_found = k;
      sum_found = is_sum ∙ (ap (λ (z : ℤ). sum_of z count) l ∙ ap (λ (n : ℕ). sum_of (left terms line) n) s);
    }

-- what fills leave of a rest, by counts that are the same
pub left_of : (gap rem : ℤ) (counts given : List ℕ) (found : List ℤ) → given ≡ counts → gap ≡ rem -ℤ pos (taken given found) → gap ≡ rem -ℤ pos (taken counts found)
left_of gap rem counts given found same is = rw same at is

pub faulted : (terms : Terms) (n : ℕ) (line : SetLine) (count : ℕ) (added : Bool) (counts : List ℕ) (sum : ℤ) (faults : List JobFault) →
    HasNumbers terms line count added counts sum → faults ≡ sum_fault terms n line.filled count sum → line_fault terms n line ≡ faults
faulted terms n line count added counts sum faults h reported =
    sym (reported ∙ (ap (λ (k : ℕ). sum_fault terms n line.filled k sum) h.spaces_found ∙ ap (λ (z : ℤ). sum_fault terms n line.filled (spaces terms line) z) h.sum_found))

pub too_wide : (terms : Terms) (n : ℕ) (line : SetLine) (count : ℕ) → count ≡ spaces terms line → count ≡ 0 → line_fault terms n line ≡ TooWide n ∷ []
too_wide terms n line count s none = ap (λ (k : ℕ). sum_fault terms n line.filled k (wedge_sum terms line)) (sym s ∙ none)

pub fills_number : (terms : Terms) (rem : ℤ) (filled : Bool) → length (if filled then fills_of rem (fill_widths terms) else []) ≤ length (fill_widths terms)
fills_number terms rem true = let e = counts_number (room rem) (fill_widths terms) in omega (arith, e)
fills_number terms rem false = omega arith

-- ---- of words by their places

pub length_at : (copy : List Symbol) (places : List Word) → length (words_at copy places) ≡ length places
length_at copy [] = refl
length_at copy (place ∷ places) = ap suc (length_at copy places)

pub measured_at : (terms : Terms) (copy : List Symbol) (places : List Word) (filled : Bool) (width : ℕ) (added : Bool) (found : List ℤ) →
    1 ≤ length places → found ≡ widths terms (words_at copy places) → width ≡ sum_by unsigned_abs found →
    added ≡ filled && int_le (pos width +ℤ pos (length places) *ℤ tight_space terms) (pos (measure terms)) →
    IsMeasured terms (words_at copy places) filled width added
measured_at terms copy places filled width added found some are sum is =
    let long = length_at copy places in
    measured terms (words_at copy places) filled width added found (omega (arith, some, long)) are sum (rw long is)

pub spaces_at : (copy : List Symbol) (places : List Word) (added : Bool) (count : ℕ) → count ≡ (length places - 1) + (if added then 1 else 0) →
    count ≡ (length (words_at copy places) - 1) + (if added then 1 else 0)
spaces_at copy places added count so = let long = length_at copy places in rw long so

pub fill_number : (terms : Terms) → length (fill_widths terms) ≡ length terms.case.fill
fill_number terms = length-map terms.case.fill (λ cell. pos (row_width terms.wedge cell.row))
