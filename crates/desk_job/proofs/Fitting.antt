-- What each line of a copy is set by: one that is not to be filled fits, and so its wedge sum is not below tight.
use Rattle.std.proofs.Common.{◌≡◌, ◌⊎◌, inl, inr, ℕ, zero, suc, ◌+◌, ◌-◌, ◌*◌, ◌/◌, ◌<◌, ◌≤◌, Bool, true, false, List, [], ◌∷◌, length, take, drop, refl, sym, ap, ◌∙◌, arith, length-take}
use Rattle.std.specs.Prelude.{ℤ, pos, negsuc, ◌+ℤ◌, ◌-ℤ◌, ◌*ℤ◌, ◌≤ℤ◌, ◌<ℤ◌, ◌==◌, sum_by}
use Rattle.std.specs.List.{flat_map, AllByRecursion}
use Rattle.std.proofs.lemmas.Int.{ints, by_lt_z}
use Rattle.std.proofs.lemmas.Bool.{false≢true}
use Rattle.std.proofs.lemmas.Bool.Decides.{nat_tests}
use Rattle.std.proofs.lemmas.List.{length-map}
use Rattle.std.proofs.Math.Nat.{mul-le-mul_left}
use Rattle.desk_ops.specs.declared.op.Symbol.{Symbol}
use Rattle.desk_ops.proofs.Lists.{Each, Each-append}
use Rattle.desk_units.specs.Widths.{step, floor_div, steps_of}
use Rattle.desk_units.specs.WedgeSum.{neutral, widening}
use Rattle.desk_lines.specs.Words.{paragraphs, words}
use Rattle.desk_lines.specs.Groups.{AreGroups, FitsIn, groups, ranges}
use Rattle.desk_lines.specs.declared.groups.Group.{Group}
use Rattle.desk_lines.proofs.GroupLaws.{groups_are_groups}
use Rattle.desk_justify.specs.Positions.{sum_of}
use Rattle.desk_job.specs.Job.{Terms, measure, widths, word_width, tight_space, space_width, wedge_sum, cut, marked, lines_of_words, lines}
use Rattle.desk_job.specs.Setting.{Fits}
use Rattle.desk_job.proofs.LineSizes.{one_more, none_of, width_is}
use Rattle.desk_job.proofs.Parts.{take_map, drop_map}
use Rattle.desk_job.proofs.ShortLaws.{scaled}

-- The sizes are those of groups.
abbrev pub Fitting : Terms → List ℕ → List (List Symbol) → Type 0
Fitting terms [] ws = Unit {0}
Fitting terms (size ∷ sizes) ws =
    (1 ≤ size) × (size ≤ length ws) × ((FitsIn (tight_space terms) (pos (measure terms)) (widths terms (take size ws))) ⊎ (size ≡ 1))
    × Fitting terms sizes (drop size ws)

fitting : (terms : Terms) (here : ℕ) (ws : List (List Symbol)) (sizes : List ℕ) →
    AreGroups (tight_space terms) (pos (measure terms)) here (widths terms ws) (ranges here sizes) → Fitting terms sizes ws
fitting terms here ws [] is = tt
fitting terms here ws (size ∷ sizes) is =
    let same : here + size ≡ here + is.0 = ap (λ (g : Group). g.to) is.1 in
    let k : is.0 ≡ size = omega (arith, same) in
    let f = λ (w : List Symbol). pos (word_width terms w) in
    let long = length-map ws f in
    let some = is.2.some in
    let within = is.2.within in
    let prefix : take size (widths terms ws) ≡ widths terms (take size ws) = take_map f size ws in
    let back : drop size (widths terms ws) ≡ widths terms (drop size ws) = drop_map f size ws in (
      omega (arith, some, k),
      omega (arith, within, k, long),
      rw prefix at (rw k at is.2.fits),
      fitting terms (here + size) (drop size ws) sizes (rw back at (rw k at is.3)),
    )

fits_marked : (terms : Terms) (sizes : List ℕ) (ws : List (List Symbol)) → Fitting terms sizes ws → Each (Fits terms) (marked (cut sizes ws))
fits_marked terms [] ws fits = tt
fits_marked terms (size ∷ []) ws fits = ((λ e. absurd (false≢true (sym e))), tt)
fits_marked terms (size ∷ next ∷ sizes) ws fits =
    (two terms size ws fits.0 fits.1 fits.2, fits_marked terms (next ∷ sizes) (drop size ws) fits.3)
  where
    two : (terms : Terms) (size : ℕ) (ws : List (List Symbol)) → 1 ≤ size → size ≤ length ws →
        (FitsIn (tight_space terms) (pos (measure terms)) (widths terms (take size ws))) ⊎ (size ≡ 1) → (length (take size ws) == 1) ≡ false →
        (2 ≤ length (take size ws)) × FitsIn (tight_space terms) (pos (measure terms)) (widths terms (take size ws))
    two terms size ws some within (inl f) e =
        let long = length-take size ws in
        let more : length (take size ws) < 1 ⊎ 1 < length (take size ws) = grind (arith, nat_tests, e) in
        (elim more [ inl h ↦ absurd (omega (arith, h, long, some, within)) | inr h ↦ omega (arith, h) ], f)
    two terms size ws some within (inr one) e =
        let long = length-take size ws in
        let is : length (take size ws) ≡ 1 = omega (arith, long, one, within) in
        absurd (false≢true (sym e ∙ (let t : (length (take size ws) == 1) ≡ true = rw is refl in t)))

fits_words : (terms : Terms) (ws : List (List Symbol)) → Each (Fits terms) (lines_of_words terms ws)
fits_words terms ws =
    let sizes = groups (tight_space terms) (pos (measure terms)) (widths terms ws) in
    fits_marked terms sizes ws (fitting terms 0 ws sizes (groups_are_groups (tight_space terms) (pos (measure terms)) (widths terms ws)).0)

fits_paragraphs : (terms : Terms) (ps : List (List Symbol)) → Each (Fits terms) (flat_map (λ p. lines_of_words terms (words p)) ps)
fits_paragraphs terms [] = tt
fits_paragraphs terms (p ∷ ps) =
    Each-append (Fits terms) (lines_of_words terms (words p)) (flat_map (λ p. lines_of_words terms (words p)) ps)
    (fits_words terms (words p)) (fits_paragraphs terms ps)

pub copy_fits : (terms : Terms) (copy : List Symbol) → AllByRecursion (Fits terms) (lines terms copy)
copy_fits terms copy = fits_paragraphs terms (paragraphs copy)

-- ---- the wedge sum of an ordinary line

shared : (s : ℕ) (a b : ℤ) → pos s *ℤ (a +ℤ b) ≡ pos s *ℤ a +ℤ pos s *ℤ b
shared zero a b = let x = none_of (a +ℤ b) in let y = none_of a in let z = none_of b in omega (arith, ints, x, y, z)
shared (suc s) a b =
    let x = one_more (a +ℤ b) s in let y = one_more a s in let z = one_more b s in let more = shared s a b in omega (arith, ints, x, y, z, more)

-- k steps of n that don't pass the rest are no more than the quotient
floor_low : (n : ℕ) (rest k : ℤ) → 0 < n → (pos n *ℤ k) ≤ℤ rest → floor_div rest n <ℤ k → ⊥
floor_low n (pos a) (pos k) some fits over =
    let more = mul-le-mul_left {m = suc (a / n)} {n = k} n (omega (arith, ints, over)) in omega (arith, ints, fits, more)
floor_low n (pos a) (negsuc k) some fits over = omega (arith, ints, over)
floor_low n (negsuc a) (pos k) some fits over = omega (arith, ints, fits)
floor_low n (negsuc a) (negsuc k) some fits over =
    let more = mul-le-mul_left {m = suc k} {n = a / n} n (omega (arith, ints, over)) in omega (arith, ints, fits, more)

low_of : (sum space limit s tight : ℕ) → 1 ≤ s →
    (pos sum +ℤ pos s *ℤ (pos space +ℤ widening tight)) ≤ℤ pos limit →
    pos tight ≤ℤ sum_of (pos limit -ℤ pos (sum + s * space)) s
low_of sum space limit s tight some fits =
    let k = pos tight -ℤ pos neutral in
    let d = shared s (pos space) (widening tight) in
    let e = scaled s k in
    let f : pos s *ℤ pos space ≡ pos (s * space) = refl in
    let within : (pos (step * s) *ℤ k) ≤ℤ (pos limit -ℤ pos (sum + s * space)) = omega (arith, ints, fits, d, e, f) in
    by_lt_z (steps_of (pos limit -ℤ pos (sum + s * space)) s) k
    (λ below. absurd (floor_low (step * s) (pos limit -ℤ pos (sum + s * space)) k (omega arith) within below))
    (λ above. omega (arith, ints, above))

less_none : (z : ℤ) → z -ℤ pos 0 ≡ z
less_none z = omega (arith, ints)

pub ordinary_low : (terms : Terms) (words : List (List Symbol)) → 2 ≤ length words →
    FitsIn (tight_space terms) (pos (measure terms)) (widths terms words) →
    pos terms.tight ≤ℤ wedge_sum terms (record { words = words; filled = false })
ordinary_low terms [] some fits = absurd (omega arith)
ordinary_low terms (word ∷ []) some fits = absurd (omega arith)
ordinary_low terms (word ∷ next ∷ words) some fits =
    let n : (length (word ∷ next ∷ words) - 1) + 0 ≡ suc (length words) = omega arith in
    rw (n, less_none (pos (measure terms) -ℤ pos (sum_by (word_width terms) (word ∷ next ∷ words) + suc (length words) * space_width terms)))
    (low_of (sum_by (word_width terms) (word ∷ next ∷ words)) (space_width terms) (measure terms) (suc (length words)) terms.tight (omega arith)
    (rw (width_is terms word (next ∷ words)) at fits))

-- the same of the sum that the program finds
pub reaches : (terms : Terms) (words : List (List Symbol)) (filled : Bool) (sum : ℤ) → Fits terms (record { words = words; filled = filled }) →
    sum ≡ wedge_sum terms (record { words = words; filled = filled }) → filled ≡ false → pos terms.tight ≤ℤ sum
reaches terms words true sum fits is e = absurd (false≢true (sym e))
reaches terms words false sum fits is e = let both = fits refl in rw is (ordinary_low terms words both.0 both.1)
