-- Where a job has no fault, each of its lines can be set.
use Rattle.std.proofs.Common.{◌≡◌, ℕ, suc, Bool, true, false, List, [], ◌∷◌, ◌++◌, length, drop, refl, sym, ap, ◌∙◌, arith}
use Rattle.std.specs.Prelude.{ℤ, pos, ◌≤ℤ◌, int_lt, not, ◌||◌, ◌==◌, is_some}
use Rattle.std.specs.List.{slice_split, onto_first, flat_map}
use Rattle.std.proofs.lemmas.Int.{ints, by_lt_z}
use Rattle.std.proofs.lemmas.Bool.{false≢true, or_parts}
use Rattle.std.proofs.lemmas.Bool.Decides.{nat_tests}
use Rattle.std.proofs.lemmas.List.Splits.{slice_split-cons_yes, slice_split-cons_no}
use Rattle.desk_ops.specs.declared.op.Symbol.{Symbol}
use Rattle.desk_ops.proofs.Lists.{Each, Each-append, Each-drop, Each-take, Each-weaker}
use Rattle.desk_units.specs.WedgeSum.{greatest}
use Rattle.desk_case.specs.Case.{CaseValues, cell_of}
use Rattle.desk_ops.specs.Op.{is_line_feed, is_space}
use Rattle.desk_lines.specs.Words.{drop_empty_last, paragraphs, words}
use Rattle.desk_lines.specs.Groups.{groups}
use Rattle.desk_job.specs.Job.{Terms, SetLine, measure, widths, tight_space, spaces, wedge_sum, line_fault, line_faults, fault_if, is_lacking, lacking, cut, marked, lines_of_words, lines}
use Rattle.desk_job.specs.Terms.{IsUsable}
use Rattle.desk_job.specs.Setting.{Fits}
use Rattle.desk_job.specs.declared.JobFault.{JobFault}
use Rattle.desk_job.specs.declared.JobFault.TheVariants.{NoMatrix}
use Rattle.desk_job.proofs.Adding.{none_before}
use Rattle.desk_job.proofs.Fitting.{copy_fits, ordinary_low}
use Rattle.desk_job.proofs.ReadLaws.{Has, WordsHave}
use Rattle.desk_job.proofs.SetLaws.{CanBeSet}

-- ---- symbols

-- P, and no separator
abbrev pub Inside : {A : Type 0} → (A → Bool) → (A → Type 0) → A → Type 0
Inside p P x = P x × (p x ≡ false)

onto_each : {A : Type 0} (Q : A → Type 0) (x : A) (parts : List (List A)) → Q x → Each (Each Q) parts → Each (Each Q) (onto_first x parts)
onto_each Q x [] q each = ((q, tt), tt)
onto_each Q x (part ∷ parts) q each = ((q, each.0), each.1)

split_step : {A : Type 0} (p : A → Bool) (P : A → Type 0) (x : A) (xs : List A) (b : Bool) → p x ≡ b → P x →
    Each (Each (Inside p P)) (slice_split p xs) → Each (Each (Inside p P)) (slice_split p (x ∷ xs))
split_step p P x xs true is here each = rw (slice_split-cons_yes p x xs is) (tt, each)
split_step p P x xs false is here each = rw (slice_split-cons_no p x xs is) (onto_each (Inside p P) x (slice_split p xs) (here, is) each)

split_each : {A : Type 0} (p : A → Bool) (P : A → Type 0) (xs : List A) → Each P xs → Each (Each (Inside p P)) (slice_split p xs)
split_each p P [] each = (tt, tt)
split_each p P (x ∷ xs) each = split_step p P x xs (p x) refl each.0 (split_each p P xs each.1)

drop_last_each : {A : Type 0} (Q : List A → Type 0) (parts : List (List A)) → Each Q parts → Each Q (drop_empty_last parts)
drop_last_each Q [] each = tt
drop_last_each Q ([] ∷ []) each = tt
drop_last_each Q ((x ∷ xs) ∷ []) each = each
drop_last_each Q (part ∷ next ∷ parts) each = (each.0, drop_last_each Q (next ∷ parts) each.1)

none_if : (b : Bool) (fault : JobFault) → fault_if b fault ≡ [] → b ≡ false
none_if true fault none = absurd (let e : 1 ≡ 0 = ap length none in omega (arith, e))
none_if false fault none = refl

pub none_after : {A : Type 0} (xs ys : List A) → xs ++ ys ≡ [] → ys ≡ []
none_after [] ys none = none
none_after (x ∷ xs) ys none = absurd (let e : length (x ∷ (xs ++ ys)) ≡ 0 = ap length none in omega (arith, e))

abbrev pub Known : CaseValues → Symbol → Type 0
Known case y = is_lacking case y ≡ false

none_lacking : (case : CaseValues) (here : ℕ) (copy : List Symbol) → lacking case here copy ≡ [] → Each (Known case) copy
none_lacking case here [] none = tt
none_lacking case here (y ∷ copy) none = (
  none_if (is_lacking case y) (NoMatrix here) (none_before (fault_if (is_lacking case y) (NoMatrix here)) (lacking case (suc here) copy) none),
  none_lacking case (suc here) copy (none_after (fault_if (is_lacking case y) (NoMatrix here)) (lacking case (suc here) copy) none),
)

has_known : (a b c : Bool) → not ((a || b) || c) ≡ false → b ≡ false → a ≡ false → c ≡ true
has_known a b true known no_feed no_space = refl
has_known true b false known no_feed no_space = absurd (false≢true (sym no_space))
has_known false true false known no_feed no_space = absurd (false≢true (sym no_feed))
has_known false false false known no_feed no_space = absurd (false≢true (sym known))

-- the case has the words of a copy that lacks nothing
words_have : (case : CaseValues) (copy : List Symbol) → lacking case 0 copy ≡ [] → Each (λ p. WordsHave case (words p)) (paragraphs copy)
words_have case copy none =
    let known = none_lacking case 0 copy none in
    let parts = drop_last_each (Each (Inside is_line_feed (Known case))) (slice_split is_line_feed copy) (split_each is_line_feed (Known case) copy known) in
    Each-weaker (Each (Inside is_line_feed (Known case))) (λ p. WordsHave case (words p))
    (λ p each. (Each-weaker (Each (Inside is_space (Inside is_line_feed (Known case)))) (Each (Has case))
    (λ w inside. (Each-weaker (Inside is_space (Inside is_line_feed (Known case))) (Has case)
    (λ y h. (has_known (is_space y) (is_line_feed y) (is_some (cell_of case y)) h.0.0 h.0.1 h.1)) w inside))
    (words p) (split_each is_space (Inside is_line_feed (Known case)) p each)))
    (paragraphs copy) parts

-- ---- lines

-- The case has the words of the line.
abbrev pub HasWords : Terms → SetLine → Type 0
HasWords terms line = WordsHave terms.case line.words

has_marked : (terms : Terms) (sizes : List ℕ) (ws : List (List Symbol)) → WordsHave terms.case ws → Each (HasWords terms) (marked (cut sizes ws))
has_marked terms [] ws has = tt
has_marked terms (size ∷ []) ws has = (Each-take (Each (Has terms.case)) size ws has, tt)
has_marked terms (size ∷ next ∷ sizes) ws has = (
  Each-take (Each (Has terms.case)) size ws has,
  has_marked terms (next ∷ sizes) (drop size ws) (Each-drop (Each (Has terms.case)) size ws has),
)

has_paragraphs : (terms : Terms) (ps : List (List Symbol)) → Each (λ p. WordsHave terms.case (words p)) ps →
    Each (HasWords terms) (flat_map (λ p. lines_of_words terms (words p)) ps)
has_paragraphs terms [] each = tt
has_paragraphs terms (p ∷ ps) each =
    Each-append (HasWords terms) (lines_of_words terms (words p)) (flat_map (λ p. lines_of_words terms (words p)) ps)
    (has_marked terms (groups (tight_space terms) (pos (measure terms)) (widths terms (words p))) (words p) each.0) (has_paragraphs terms ps each.1)

-- ---- faults of lines

not_less : (a b : ℤ) → int_lt a b ≡ false → b ≤ℤ a
not_less a b e =
    by_lt_z a b (λ h. absurd (false≢true (sym e ∙ (let t : int_lt a b ≡ true = grind (arith, ints) in t)))) (λ h. h)

set_filled : (terms : Terms) (n : ℕ) (words : List (List Symbol)) (b : Bool) → b ≡ (spaces terms (record { words = words; filled = true }) == 0) → IsUsable terms →
    HasWords terms (record { words = words; filled = true }) → line_fault terms n (record { words = words; filled = true }) ≡ [] →
    CanBeSet terms (record { words = words; filled = true })
set_filled terms n words true is usable has none = absurd (let e = rw (← is) at none in let f : 1 ≡ 0 = ap length e in omega (arith, f))
set_filled terms n words false is usable has none =
    let line : SetLine = record { words = words; filled = true } in
    let e = rw (← is) at none in
    let both = or_parts (int_lt (wedge_sum terms line) (pos terms.tight)) (int_lt (pos greatest) (wedge_sum terms line)) (none_if _ _ e) in
    let low = not_less (wedge_sum terms line) (pos terms.tight) both.0 in
    let high = not_less (pos greatest) (wedge_sum terms line) both.1 in
    let tight = usable.tight.0 in
    record { has = has; some = grind (arith, nat_tests, is); low = omega (arith, ints, low, tight); high = high }

set_ordinary : (terms : Terms) (n : ℕ) (words : List (List Symbol)) (b : Bool) → b ≡ (spaces terms (record { words = words; filled = false }) == 0) → IsUsable terms →
    HasWords terms (record { words = words; filled = false }) → Fits terms (record { words = words; filled = false }) → line_fault terms n (record { words = words; filled = false }) ≡ [] →
    CanBeSet terms (record { words = words; filled = false })
set_ordinary terms n words true is usable has fit none = absurd (let e = rw (← is) at none in let f : 1 ≡ 0 = ap length e in omega (arith, f))
set_ordinary terms n words false is usable has fit none =
    let line : SetLine = record { words = words; filled = false } in
    let e = rw (← is) at none in
    let high = not_less (pos terms.loose) (wedge_sum terms line) (none_if _ _ e) in
    let fits = fit refl in
    let low = ordinary_low terms words fits.0 fits.1 in
    let tight = usable.tight.0 in
    let loose = usable.loose.1 in
    record { has = has; some = grind (arith, nat_tests, is); low = omega (arith, ints, low, tight); high = omega (arith, ints, high, loose) }

can_be_set : (terms : Terms) (n : ℕ) (words : List (List Symbol)) (filled : Bool) → IsUsable terms → HasWords terms (record { words = words; filled = filled }) →
    Fits terms (record { words = words; filled = filled }) → line_fault terms n (record { words = words; filled = filled }) ≡ [] →
    CanBeSet terms (record { words = words; filled = filled })
can_be_set terms n words true usable has fits none = set_filled terms n words _ refl usable has none
can_be_set terms n words false usable has fits none = set_ordinary terms n words _ refl usable has fits none

all_can_be_set : (terms : Terms) (n : ℕ) (ls : List SetLine) → IsUsable terms → Each (HasWords terms) ls → Each (Fits terms) ls → line_faults terms n ls ≡ [] →
    Each (CanBeSet terms) ls
all_can_be_set terms n [] usable has fits none = tt
all_can_be_set terms n (line ∷ ls) usable has fits none = (
  can_be_set terms n line.words line.filled usable has.0 fits.0 (none_before (line_fault terms n line) (line_faults terms (suc n) ls) none),
  all_can_be_set terms (suc n) ls usable has.1 fits.1 (none_after (line_fault terms n line) (line_faults terms (suc n) ls) none),
)

pub copy_can_be_set : (terms : Terms) (copy : List Symbol) → IsUsable terms → lacking terms.case 0 copy ≡ [] → line_faults terms 1 (lines terms copy) ≡ [] →
    Each (CanBeSet terms) (lines terms copy)
copy_can_be_set terms copy usable known none =
    all_can_be_set terms 1 (lines terms copy) usable (has_paragraphs terms (paragraphs copy) (words_have terms.case copy known)) (copy_fits terms copy) none
