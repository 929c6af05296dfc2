-- Lines that are shared out among pages.
use Rattle.std.proofs.Common.{◌≡◌, ℕ, zero, suc, ◌+◌, ◌-◌, ◌*◌, ◌<◌, ◌≤◌, List, ◌++◌, length, take, drop, min, refl, sym, ap, ap₂, ◌∙◌, subst, take_all, length-drop, arith}
use Rattle.std.specs.Int.{div_ceil}
use Rattle.std.proofs.Math.Seq.{take-add}
use Rattle.std.proofs.Math.Nat.{mul-le-mul_right}
use Rattle.std.proofs.lemmas.Grind.{div_ceil_times}
use Rattle.std.proofs.lemmas.List.{drop-drop, length-take}
use Rattle.view_pages.specs.Layouts.{lines_on}
use Rattle.view_pages.specs.Laws.{lines_from}

-- a page that is one of all begins at a line, and one that is not the last is full
pub begins : (lines count number : ℕ) → 0 < count → number < div_ceil lines count → number * count ≤ lines
begins lines count number some below =
    let bounds = div_ceil_times lines count some in
    let product : (number + 1) * count ≤ div_ceil lines count * count = mul-le-mul_right count (omega (arith, below)) in
    omega (arith, bounds.1, product)

pub is_full : (lines count number : ℕ) → 0 < count → number + 1 < div_ceil lines count → count ≤ lines - number * count
is_full lines count number some below =
    let bounds = div_ceil_times lines count some in
    let product : (number + 2) * count ≤ div_ceil lines count * count = mul-le-mul_right count (omega (arith, below)) in
    omega (arith, bounds.1, product)

-- so many pages have so many lines, one after the other
pub shared : {X : Type 0} (count number pages : ℕ) (lines : List X) → lines_from count number pages lines ≡ take (pages * count) (drop (number * count) lines)
shared count number zero lines =
    let none : 0 * count ≡ 0 = omega arith in
    ap (λ n. take n (drop (number * count) lines)) (sym none)
shared count number (suc pages) lines =
    let here = drop (number * count) lines in
    let step : (number + 1) * count ≡ number * count + count = omega arith in
    let next : drop ((number + 1) * count) lines ≡ drop count here = ap (λ n. drop n lines) step ∙ sym (drop-drop count (number * count) lines) in
    let sum : suc pages * count ≡ count + pages * count = omega arith in
    ap (λ l. take count here ++ l) (shared count (number + 1) pages lines ∙ ap (take (pages * count)) next)
    ∙ sym (take-add count (pages * count) here) ∙ ap (λ n. take n here) (sym sum)

-- all pages have all lines
pub all_shared : {X : Type 0} (count : ℕ) (lines : List X) → 0 < count → lines_from count 0 (div_ceil (length lines) count) lines ≡ lines
all_shared count lines some =
    let bounds = div_ceil_times (length lines) count some in
    let none : 0 * count ≡ 0 = omega arith in
    shared count 0 (div_ceil (length lines) count) lines ∙ ap (λ n. take (div_ceil (length lines) count * count) (drop n lines)) none ∙ take_all (div_ceil (length lines) count * count) lines bounds.0

-- how many lines a page has
pub full : {X : Type 0} (count number : ℕ) (lines : List X) → 0 < count → number + 1 < div_ceil (length lines) count → length (lines_on count number lines) ≡ count
full count number lines some below =
    let rest : length (drop (number * count) lines) ≡ length lines - number * count = length-drop (number * count) lines in
    let enough = is_full (length lines) count number some below in
    let least : min count (length (drop (number * count) lines)) ≡ count = omega (arith, rest, enough) in
    length-take count (drop (number * count) lines) ∙ least

pub no_more : {X : Type 0} (count number : ℕ) (lines : List X) → length (lines_on count number lines) ≤ count
no_more count number lines =
    let is = length-take count (drop (number * count) lines) in
    omega (arith, is)
