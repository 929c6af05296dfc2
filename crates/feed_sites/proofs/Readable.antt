-- The readings of two sets, where both together are few or many.
use Rattle.std.proofs.Common.{◌≡◌, ◌∙◌, ◌<◌, ◌≤◌, ◌||◌, ℕ, Bool, true, false, if◌then◌else◌, List, [], refl, ap, sym, arith}
use Rattle.std.specs.Prelude.{◌==◌, ◌≢◌, nat_lt}
use Rattle.std.proofs.lemmas.Bool.{true≢false}
use Rattle.std.proofs.lemmas.Bool.Decides.{nat_tests}
use Rattle.desk_ops.specs.OpSet.{OpSet, max_ops, size, union}
use Rattle.desk_ops.proofs.Unions.{union-same}
use Rattle.feed_readings.specs.Lines.{reported_of}
use Rattle.feed_sites.specs.Reported.{joins_nothing, readings_lines}

below : (n m : ℕ) (b : Bool) → b ≡ nat_lt n m → n < m → b ≡ true
below n m b is lt = grind (arith, nat_tests)

are_same : (n m : ℕ) (b : Bool) → b ≡ (n == m) → n ≡ m → b ≡ true
are_same n m b is e = grind (arith, nat_tests)

first_or : (a b : Bool) → a ≡ true → (a || b) ≡ true
first_or true b e = refl
first_or false b e = absurd (true≢false (sym e))

second_or : (a b : Bool) → b ≡ true → (a || b) ≡ true
second_or true b e = refl
second_or false b e = e

by_test : (first second : OpSet) (b : Bool) → joins_nothing first second ≡ b → readings_lines first second ≡ (if b then [] else reported_of first second)
by_test first second b e = ap (λ (x : Bool). if x then [] else reported_of first second) e

pub known_lines : (first second : OpSet) → size (union first second) ≡ size first → readings_lines first second ≡ []
known_lines first second e =
    let both = size (union first second) in
    by_test first second true (first_or (both == size first) (nat_lt max_ops both) (are_same both (size first) (both == size first) refl e))

pub many_lines : (first second : OpSet) → max_ops < size (union first second) → readings_lines first second ≡ []
many_lines first second lt =
    let both = size (union first second) in
    by_test first second true (second_or (both == size first) (nat_lt max_ops both) (below max_ops both (nat_lt max_ops both) refl lt))

pub own_lines : (set : OpSet) → readings_lines set set ≡ []
own_lines set = known_lines set set (ap size (union-same set))

unlike : (n m : ℕ) (b : Bool) → b ≡ (n == m) → n ≢ m → b ≡ false
unlike n m b is e = grind (arith, nat_tests)

not_below : (n m : ℕ) (b : Bool) → b ≡ nat_lt n m → m ≤ n → b ≡ false
not_below n m b is le = grind (arith, nat_tests)

neither : (a b : Bool) → a ≡ false → b ≡ false → (a || b) ≡ false
neither true b e f = e
neither false b e f = f

pub new_lines : (first second : OpSet) → size (union first second) ≢ size first → size (union first second) ≤ max_ops → readings_lines first second ≡ reported_of first second
new_lines first second other few =
    let both = size (union first second) in
    by_test first second false (neither (both == size first) (nat_lt max_ops both) (unlike both (size first) (both == size first) refl other) (not_below max_ops both (nat_lt max_ops both) refl few))
