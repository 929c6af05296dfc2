-- The bits of an image and the signals that it shows.
use Rattle.std.proofs.Common.{◌≡◌, ℕ, zero, suc, ◌+◌, ◌-◌, ◌*◌, ◌%◌, ◌^◌, ◌<◌, ◌≤◌, max, Bool, true, false, cond, ◌&&◌, ◌||◌, eqb, List, [], ◌∷◌, ◌++◌, append_assoc, length, get_or, take, refl, sym, ap, ap₂, subst, ◌∙◌, eqb-true, eq-eqb, le-ltb, mod-eq_of_lt, replicate, ltb, arith}
use Rattle.std.specs.Prelude.{bit_or, slice_index}
use Rattle.std.specs.Int.{bit_at}
use Rattle.std.specs.List.{filter, range_with_len}
use Rattle.std.proofs.lemmas.List.FromFn.{get_or-range_with_len}
use Rattle.std.proofs.lemmas.List.Sums.{AllPass-from_list_all}
use Rattle.std.proofs.lemmas.List.{take_all}
use Rattle.std.proofs.lemmas.List.Folds.{list_any_more}
use Rattle.std.proofs.lemmas.Nat.{or_lt, pow_pos, pow-add}
use Rattle.std.proofs.Math.Pow.{pow-lt}
use Rattle.std.proofs.Math.Nat.{lt_of_not-le, pow-le-pow_right}
use Rattle.std.proofs.lemmas.Nat.Bits.{bit_at-zero, bit_at_or, bit_at-pow_same, bit_at-pow_other, bit_at-lt, same_from_bits_below, bit_at_above, bit_at_cat_low, bit_at_cat_high}
use Rattle.std.proofs.lemmas.Bool.{or_parts, or_from}
use Rattle.std.proofs.Math.Bool.{and-true}
use Rattle.desk_signals.specs.declared.Signal.{Signal}
use Rattle.desk_signals.specs.declared.Signal.TheVariants as signal
use Rattle.desk_signals.specs.declared.RibbonRow.{RibbonRow}
use Rattle.desk_signals.specs.Rows.{place, same, has, repeats, the_signals, signals_of}
use Rattle.desk_signals.proofs.Same.{same-eq, and_false, has_filter}
use Rattle.desk_image.specs.Images.{bit, image, Shows, image_of, signals_in}

below_31 : (x : Signal) → place x < 31
below_31 signal.A = omega arith
below_31 signal.B = omega arith
below_31 signal.C = omega arith
below_31 signal.D = omega arith
below_31 signal.E = omega arith
below_31 signal.F = omega arith
below_31 signal.G = omega arith
below_31 signal.H = omega arith
below_31 signal.I = omega arith
below_31 signal.J = omega arith
below_31 signal.K = omega arith
below_31 signal.L = omega arith
below_31 signal.M = omega arith
below_31 signal.N = omega arith
below_31 signal.One = omega arith
below_31 signal.Two = omega arith
below_31 signal.Three = omega arith
below_31 signal.Four = omega arith
below_31 signal.Five = omega arith
below_31 signal.Six = omega arith
below_31 signal.Seven = omega arith
below_31 signal.Eight = omega arith
below_31 signal.Nine = omega arith
below_31 signal.Ten = omega arith
below_31 signal.Eleven = omega arith
below_31 signal.Twelve = omega arith
below_31 signal.Thirteen = omega arith
below_31 signal.Fourteen = omega arith
below_31 signal.Fine = omega arith
below_31 signal.Coarse = omega arith
below_31 signal.S = omega arith

has_each : (x : Signal) → has the_signals x ≡ true
has_each signal.A = refl
has_each signal.B = refl
has_each signal.C = refl
has_each signal.D = refl
has_each signal.E = refl
has_each signal.F = refl
has_each signal.G = refl
has_each signal.H = refl
has_each signal.I = refl
has_each signal.J = refl
has_each signal.K = refl
has_each signal.L = refl
has_each signal.M = refl
has_each signal.N = refl
has_each signal.One = refl
has_each signal.Two = refl
has_each signal.Three = refl
has_each signal.Four = refl
has_each signal.Five = refl
has_each signal.Six = refl
has_each signal.Seven = refl
has_each signal.Eight = refl
has_each signal.Nine = refl
has_each signal.Ten = refl
has_each signal.Eleven = refl
has_each signal.Twelve = refl
has_each signal.Thirteen = refl
has_each signal.Fourteen = refl
has_each signal.Fine = refl
has_each signal.Coarse = refl
has_each signal.S = refl

-- a set bit is that of a signal
signal_of : (i : ℕ) (d : Signal) → i < 31 → bit (get_or the_signals (30 - i) d) ≡ i
signal_of i d below =
    let is : get_or (range_with_len 0 31) i 0 ≡ i = get_or-range_with_len 0 31 i 0 below ∙ omega arith in
    eqb-true _ _
    (subst (λ (k : ℕ). eqb (bit (get_or the_signals (30 - k) d)) k ≡ true) is
    (AllPass-from_list_all (λ (k : ℕ). eqb (bit (get_or the_signals (30 - k) d)) k) (range_with_len 0 31) refl i 0 below))

same_bits : (n m : ℕ) → n < 2 ^ 31 → m < 2 ^ 31 → ((x : Signal) → bit_at n (bit x) ≡ bit_at m (bit x)) → n ≡ m
same_bits n m below_n below_m e =
    same_from_bits_below 31 n m below_n below_m
    (λ i below. subst (λ (k : ℕ). bit_at n k ≡ bit_at m k) (signal_of i signal.S below) (e (get_or the_signals (30 - i) signal.S)))

pub one_image : (n m : ℕ) (xs : List Signal) → Shows n xs → Shows m xs → n ≡ m
one_image n m xs (below_n, shows_n) (below_m, shows_m) = same_bits n m below_n below_m (λ x. shows_n x ∙ sym (shows_m x))

-- the bit of one signal
one_bit : (x y : Signal) (b : Bool) → same y x ≡ b → bit_at (2 ^ bit x) (bit y) ≡ cond b 1 0
one_bit x y true is = ap (λ (z : Signal). bit_at (2 ^ bit x) (bit z)) (same-eq y x is) ∙ bit_at-pow_same (bit x)
one_bit x y false is =
    bit_at-pow_other (bit x) (bit y)
    (λ e. let f : place y ≡ place x = omega (arith, e, below_31 x, below_31 y) in let g = eq-eqb (place y) (place x) f in absurd (cc))

max_or : (a b : Bool) → max (cond a 1 0) (cond b 1 0) ≡ cond (a || b) 1 0
max_or true true = refl
max_or true false = refl
max_or false true = refl
max_or false false = refl

pub shown_bit : (xs : List Signal) (y : Signal) → bit_at (image_of xs) (bit y) ≡ cond (has xs y) 1 0
shown_bit [] y = bit_at-zero (bit y)
shown_bit (x ∷ xs) y =
    bit_at_or (2 ^ bit x) (image_of xs) (bit y)
    ∙ (ap₂ max (one_bit x y (same y x) refl) (shown_bit xs y) ∙ max_or (same y x) (has xs y))

bit_below : (x : Signal) → 2 ^ bit x < 2 ^ 31
bit_below x = pow-lt {i = bit x} {j = 31} (omega arith)

image_below : (xs : List Signal) → image_of xs < 2 ^ 31
image_below [] = omega arith
image_below (x ∷ xs) = or_lt 31 (2 ^ bit x) (image_of xs) (bit_below x) (image_below xs)

pub image_shows : (xs : List Signal) → Shows (image_of xs) xs
image_shows xs = (image_below xs, shown_bit xs)

repeats_filter_step : (p : Signal → Bool) (x : Signal) (xs : List Signal) (b : Bool) → has xs x ≡ false → repeats (filter p xs) ≡ false →
    repeats (cond b (x ∷ filter p xs) (filter p xs)) ≡ false
repeats_filter_step p x xs true none ih = or_from (has (filter p xs) x) (repeats (filter p xs)) (has_filter p xs x ∙ (ap (λ b. p x && b) none ∙ sym (and_false (p x)))) ih
repeats_filter_step p x xs false none ih = ih

repeats_filter : (p : Signal → Bool) (xs : List Signal) → repeats xs ≡ false → repeats (filter p xs) ≡ false
repeats_filter p [] e = refl
repeats_filter p (x ∷ xs) e =
    let parts = or_parts (has xs x) (repeats xs) e in
    repeats_filter_step p x xs (p x) parts.0 (repeats_filter p xs parts.1)

pub in_once : (n : ℕ) → repeats (signals_in n) ≡ false
in_once n = repeats_filter (λ x. eqb (bit_at n (bit x)) 1) the_signals refl

pub in_has : (n : ℕ) (y : Signal) → has (signals_in n) y ≡ eqb (bit_at n (bit y)) 1
in_has n y =
    has_filter (λ x. eqb (bit_at n (bit x)) 1) the_signals y
    ∙ (ap (λ b. eqb (bit_at n (bit y)) 1 && b) (has_each y) ∙ and-true (eqb (bit_at n (bit y)) 1))

bit_is : (b : ℕ) → b < 2 → b ≡ cond (eqb b 1) 1 0
bit_is zero below = refl
bit_is (suc zero) below = refl
bit_is (suc (suc n)) below = absurd (omega (arith, below))

pub in_shows : (n : ℕ) → n < 2 ^ 31 → Shows n (signals_in n)
in_shows n below = (below, λ x. bit_is (bit_at n (bit x)) (bit_at-lt n (bit x)) ∙ ap (λ b. cond b 1 0) (sym (in_has n x)))

-- one signal more
pub shows_more : (n m : ℕ) (xs : List Signal) (i : ℕ) (d : Signal) → i < length xs → m ≡ 2 ^ bit (get_or xs i d) → Shows n (take i xs) →
    Shows (bit_or n m) (take (i + 1) xs)
shows_more n m xs i d below is (low, shows) =
    let x = get_or xs i d in (
      or_lt 31 n m low (subst (λ (k : ℕ). k < 2 ^ 31) (sym is) (bit_below x)),
      λ y. bit_at_or n m (bit y)
          ∙ (ap₂ max (shows y) (ap (λ (k : ℕ). bit_at k (bit y)) is ∙ one_bit x y (same y x) refl)
          ∙ (max_or (has (take i xs) y) (same y x) ∙ ap (λ b. cond b 1 0) (sym (list_any_more (same y) xs i d below)))),
    )

pub shown_row : (n i : ℕ) (xs : List Signal) (row : RibbonRow) → xs ≡ signals_of row → length xs ≤ i → Shows n (take i xs) → n ≡ image row
shown_row n i xs row is whole shows =
    one_image n (image row) (signals_of row) (subst (λ ys. Shows n ys) (take_all i xs whole ∙ is) shows) (image_shows (signals_of row))

pub shifted_one : (k j : ℕ) → k ≡ j → k < 31 → 1 * 2 ^ k % 4294967296 ≡ 2 ^ j
shifted_one k j is below =
    let small : 2 ^ k < 4294967296 = pow-lt {i = k} {j = 32} (omega (arith, below)) in
    let one : 1 * 2 ^ k ≡ 2 ^ k = omega arith in
    ap (λ (m : ℕ). m % 4294967296) one ∙ (mod-eq_of_lt small ∙ ap (λ (m : ℕ). 2 ^ m) is)

pub dots : (k : ℕ) → k < 31 → slice_index (replicate 31 46) k ≡ 46
dots k below =
    let is : get_or (range_with_len 0 31) k 0 ≡ k = get_or-range_with_len 0 31 k 0 below ∙ omega arith in
    eqb-true _ _
    (subst (λ (k : ℕ). eqb (slice_index (replicate 31 46) k) 46 ≡ true) is
    (AllPass-from_list_all (λ (k : ℕ). eqb (slice_index (replicate 31 46) k) 46) (range_with_len 0 31) refl k 0 below))

pub no_hole_yet : (k b : ℕ) → k < 31 → slice_index (replicate 31 46) k ≡ cond (ltb k 0 && eqb b 1) 79 46
no_hole_yet k b below = dots k below ∙ ap (λ (t : Bool). cond (t && eqb b 1) 79 46) (sym (le-ltb k 0 (omega arith)))

-- two tests that agree on each element keep the same
filter_alike : (p q : Signal → Bool) (xs : List Signal) (d : Signal) → ((i : ℕ) → i < length xs → p (get_or xs i d) ≡ q (get_or xs i d)) →
    filter p xs ≡ filter q xs
filter_alike p q [] d e = refl
filter_alike p q (x ∷ xs) d e =
    ap₂ (λ (b : Bool) (ys : List Signal). cond b (x ∷ ys) ys) (e 0 (omega arith))
    (filter_alike p q xs d (λ i below. e (suc i) (omega (arith, below))))

-- the first that p keeps stands at place k, and q keeps exactly what p keeps behind it
filter_first : (p q : Signal → Bool) (xs : List Signal) (k : ℕ) (d : Signal) → k < length xs → ((i : ℕ) → i < k → p (get_or xs i d) ≡ false) →
    p (get_or xs k d) ≡ true → ((i : ℕ) → i ≤ k → q (get_or xs i d) ≡ false) →
    ((i : ℕ) → k < i → i < length xs → p (get_or xs i d) ≡ q (get_or xs i d)) → filter p xs ≡ get_or xs k d ∷ filter q xs
filter_first p q [] k d below before here none behind = absurd (omega (arith, below))
filter_first p q (x ∷ xs) zero d below before here none behind =
    ap₂ (λ (b : Bool) (ys : List Signal). cond b (x ∷ ys) ys) here
    (filter_alike p q xs d (λ i within. behind (suc i) (omega arith) (omega (arith, within))))
    ∙ ap (λ (b : Bool). x ∷ cond b (x ∷ filter q xs) (filter q xs)) (sym (none 0 (omega arith)))
filter_first p q (x ∷ xs) (suc k) d below before here none behind =
    ap (λ (b : Bool). cond b (x ∷ filter p xs) (filter p xs)) (before 0 (omega arith))
    ∙ (filter_first p q xs k d (omega (arith, below)) (λ i low. before (suc i) (omega (arith, low))) here
    (λ i low. none (suc i) (omega (arith, low))) (λ i high within. behind (suc i) (omega (arith, high)) (omega (arith, within)))
    ∙ ap (λ (b : Bool). get_or xs k d ∷ cond b (x ∷ filter q xs) (filter q xs)) (sym (none 0 (omega arith))))

-- the test of a signal by its place
test_at : (n i b : ℕ) (d : Signal) → i < 31 → bit_at n (30 - i) ≡ b → eqb (bit_at n (bit (get_or the_signals i d))) 1 ≡ eqb b 1
test_at n i b d below e =
    let back : 30 - (30 - i) ≡ i = omega (arith, below) in
    let at = subst (λ (k : ℕ). bit (get_or the_signals k d) ≡ 30 - i) back (signal_of (30 - i) d (omega arith)) in
    ap (λ (k : ℕ). eqb (bit_at n k) 1) at ∙ ap (λ (k : ℕ). eqb k 1) e

-- a number by its highest bit
top_bit : (j m : ℕ) → m < 2 ^ j → bit_at (1 * 2 ^ j + m) j ≡ 1
top_bit j m small =
    let none : j - j ≡ 0 = omega arith in
    bit_at_cat_high 1 j m j small (omega arith) ∙ ap (λ (k : ℕ). bit_at 1 k) none

-- the first signal and those behind it, of a number given as its highest bit and the bits below
first_of : (j m : ℕ) (d : Signal) → j < 31 → m < 2 ^ j → 1 * 2 ^ j + m < 2 ^ (j + 1) →
    signals_in (1 * 2 ^ j + m) ≡ get_or the_signals (30 - j) d ∷ signals_in m
first_of j m d below small whole =
    let n = 1 * 2 ^ j + m in
    let back : 30 - (30 - j) ≡ j = omega (arith, below) in
    filter_first (λ x. eqb (bit_at n (bit x)) 1) (λ x. eqb (bit_at m (bit x)) 1) the_signals (30 - j) d (omega arith)
    (λ i low. test_at n i 0 d (omega (arith, low)) (bit_at_above n (j + 1) (30 - i) whole (omega (arith, low, below))))
    (test_at n (30 - j) 1 d (omega arith) (ap (λ (k : ℕ). bit_at n k) back ∙ top_bit j m small))
    (λ i low. test_at m i 0 d (omega (arith, low)) (bit_at_above m j (30 - i) small (omega (arith, low, below))))
    (λ i high within. test_at n i (bit_at m (30 - i)) d within (bit_at_cat_low 1 j m (30 - i) (omega (arith, high, within, below)))
    ∙ sym (test_at m i (bit_at m (30 - i)) d within refl))

-- the highest bit shows the first signal, and the other bits those behind it
highest_first : (n j : ℕ) (d : Signal) → j < 31 → 2 ^ j ≤ n → n < 2 * 2 ^ j →
    signals_in n ≡ get_or the_signals (30 - j) d ∷ signals_in (n - 2 ^ j)
highest_first n j d below low high =
    let split : 1 * 2 ^ j + (n - 2 ^ j) ≡ n = omega (arith, low) in
    let small : n - 2 ^ j < 2 ^ j = omega (arith, low, high, pow_pos j) in
    let whole : 1 * 2 ^ j + (n - 2 ^ j) < 2 ^ (j + 1) = omega (arith, split, high, pow-add 2 j 1) in
    subst (λ (k : ℕ). signals_in k ≡ get_or the_signals (30 - j) d ∷ signals_in (n - 2 ^ j)) split
    (first_of j (n - 2 ^ j) d below small whole)

-- a number with a bit at j stands below 2 ^ k only where j is below k
pub bit_within : (n j k : ℕ) → 2 ^ j ≤ n → n < 2 ^ k → j < k
bit_within n j k low high =
    lt_of_not-le (λ (above : k ≤ j). let more = pow-le-pow_right {n = 2} (omega arith) {i = k} {j = j} above in omega (arith, low, high, more))

-- what is left fits the room that is left
pub rest_below : (n j k : ℕ) → 2 ^ j ≤ n → n < 2 * 2 ^ j → j < k → n - 2 ^ j < 2 ^ (k - 1)
rest_below n j k low high within =
    let more = pow-le-pow_right {n = 2} (omega arith) {i = j} {j = k - 1} (omega (arith, within)) in
    omega (arith, low, high, more, pow_pos j)

-- one step of the loop over the set bits
pub found_more : (n left j m : ℕ) (d : Signal) (found more : List Signal) → j < 31 → 2 ^ j ≤ left → left < 2 * 2 ^ j → m ≡ 2 ^ j →
    signals_in n ≡ found ++ signals_in left → more ≡ found ++ get_or the_signals (30 - j) d ∷ [] →
    signals_in n ≡ more ++ signals_in (left - m)
found_more n left j m d found more below low high is so_far one_more =
    let x = get_or the_signals (30 - j) d in
    so_far
    ∙ (ap (λ (ys : List Signal). found ++ ys) (highest_first left j d below low high)
    ∙ (sym (append_assoc found (x ∷ []) (signals_in (left - 2 ^ j)))
    ∙ ap₂ (λ (ys : List Signal) (k : ℕ). ys ++ signals_in (left - k)) (sym one_more) (sym is)))
