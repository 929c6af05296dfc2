-- Numbers are ordered as their bytes are, and so are operations of one stamp.
use Rattle.std.proofs.Common.{◌≡◌, ℕ, ◌+◌, ◌*◌, ◌/◌, ◌%◌, ◌^◌, ◌<◌, ◌⊎◌, List, [], ◌∷◌, ◌++◌, refl, sym, ap, ◌∙◌, arith, inl, inr}
use Rattle.std.specs.Int.{w16, w32, w64, to_be_bytes}
use Rattle.std.specs.Ordering.{nat_cmp, ordering_then}
use Rattle.std.specs.Cmp.Lexicographic.{slice_cmp}
use Rattle.std.specs.declared.cmp.Ordering.{Ordering}
use Rattle.std.specs.declared.cmp.Ordering.TheVariants.{Less, Equal, Greater}
use Rattle.std.proofs.lemmas.Bool.Decides.{nat_tests}
use Rattle.std.proofs.lemmas.Cmp.{tied_itself}
use Rattle.std.proofs.Math.Nat.{div-div-eq-div-mul}
use Rattle.desk_ops.specs.declared.op.Stamp.{Stamp}
use Rattle.desk_ops.specs.declared.op.Op.{Op}
use Rattle.desk_ops.specs.declared.op.Op.TheVariants.{Insert, Delete, Set}
use Rattle.desk_ops.specs.Op.{stamp_of}
use Rattle.desk_ops.specs.Stamp.{stamp_cmp}
use Rattle.desk_ops.specs.Order.{op_cmp, rest_of, style_code, key_code}
use Rattle.desk_ops.proofs.Stamps.{stamp_total, stamp_tied}
use Rattle.desk_ops.proofs.Means.{then-then, by_stamp}
use Rattle.desk_codec.specs.Spelling.{spelling, stamp_spelling, IsStampValue, IsValue}
use Rattle.desk_codec.specs.Order.{OrderOfBytes}

-- ---- one answer after another

then-again : (a b : Ordering) → ordering_then a (ordering_then a b) ≡ ordering_then a b
then-again Less b = refl
then-again Equal b = refl
then-again Greater b = refl

-- two answers that are one, before a third
joined : (whole high low : Ordering) → whole ≡ ordering_then high low → (rest : Ordering) → ordering_then high (ordering_then low rest) ≡ ordering_then whole rest
joined whole high low e rest = sym (then-then high low rest) ∙ ap (λ (o : Ordering). ordering_then o rest) (sym e)

-- ---- a number by its parts

by_parts : (m n a b c d : ℕ) → b < 256 → d < 256 → m ≡ a * 256 + b → n ≡ c * 256 + d → nat_cmp m n ≡ ordering_then (nat_cmp a c) (nat_cmp b d)
by_parts m n a b c d p q e f = grind (arith, nat_tests)

low : (m n : ℕ) → nat_cmp m n ≡ ordering_then (nat_cmp (m / 256) (n / 256)) (nat_cmp (m % 256) (n % 256))
low m n = by_parts m n (m / 256) (m % 256) (n / 256) (n % 256) (omega arith) (omega arith) (omega arith) (omega arith)

byte_and_rest : (n p : ℕ) → n / p ≡ n / p % 256 + n / (p * 256) * 256
byte_and_rest n p = omega (arith, div-div-eq-div-mul n p 256)

next : (m n p : ℕ) → nat_cmp (m / p) (n / p) ≡ ordering_then (nat_cmp (m / (p * 256)) (n / (p * 256))) (nat_cmp (m / p % 256) (n / p % 256))
next m n p =
    let e = byte_and_rest m p in
    let f = byte_and_rest n p in
    by_parts (m / p) (n / p) (m / (p * 256)) (m / p % 256) (n / (p * 256)) (n / p % 256) (omega arith) (omega arith) (omega arith) (omega arith)

-- ---- numbers and their bytes

pub number_order_2 : (m n : ℕ) (x y : List ℕ) → m < 2 ^ 16 → n < 2 ^ 16 → slice_cmp nat_cmp (to_be_bytes w16 m ++ x) (to_be_bytes w16 n ++ y) ≡ ordering_then (nat_cmp m n) (slice_cmp nat_cmp x y)
number_order_2 m n x y p q =
    let r = slice_cmp nat_cmp x y in
    let a : m / 256 % 256 ≡ m / 256 = omega arith in
    let b : n / 256 % 256 ≡ n / 256 = omega arith in
    rw (a, b) (joined (nat_cmp m n) (nat_cmp (m / 256) (n / 256)) (nat_cmp (m % 256) (n % 256)) (low m n) r)

pub number_order_4 : (m n : ℕ) (x y : List ℕ) → m < 2 ^ 32 → n < 2 ^ 32 → slice_cmp nat_cmp (to_be_bytes w32 m ++ x) (to_be_bytes w32 n ++ y) ≡ ordering_then (nat_cmp m n) (slice_cmp nat_cmp x y)
number_order_4 m n x y p q =
    let r = slice_cmp nat_cmp x y in
    let a : m / 16777216 % 256 ≡ m / 16777216 = omega arith in
    let b : n / 16777216 % 256 ≡ n / 16777216 = omega arith in
    let third = joined _ _ _ (next m n 65536) (ordering_then (nat_cmp (m / 256 % 256) (n / 256 % 256)) (ordering_then (nat_cmp (m % 256) (n % 256)) r)) in
    let second = joined _ _ _ (next m n 256) (ordering_then (nat_cmp (m % 256) (n % 256)) r) in
    let first = joined _ _ _ (low m n) r in
    rw (a, b) (third ∙ second ∙ first)

pub number_order_8 : (m n : ℕ) (x y : List ℕ) → m < 2 ^ 64 → n < 2 ^ 64 → slice_cmp nat_cmp (to_be_bytes w64 m ++ x) (to_be_bytes w64 n ++ y) ≡ ordering_then (nat_cmp m n) (slice_cmp nat_cmp x y)
number_order_8 m n x y p q =
    let d : ℕ → Ordering = λ k. nat_cmp (m / k % 256) (n / k % 256) in
    let r0 = slice_cmp nat_cmp x y in
    let r1 = ordering_then (nat_cmp (m % 256) (n % 256)) r0 in
    let r2 = ordering_then (d 256) r1 in
    let r3 = ordering_then (d 65536) r2 in
    let r4 = ordering_then (d 16777216) r3 in
    let r5 = ordering_then (d 4294967296) r4 in
    let r6 = ordering_then (d 1099511627776) r5 in
    let a : m / 72057594037927936 % 256 ≡ m / 72057594037927936 = omega arith in
    let b : n / 72057594037927936 % 256 ≡ n / 72057594037927936 = omega arith in
    rw (a, b) (joined _ _ _ (next m n 281474976710656) r6
    ∙ joined _ _ _ (next m n 1099511627776) r5
    ∙ joined _ _ _ (next m n 4294967296) r4
    ∙ joined _ _ _ (next m n 16777216) r3
    ∙ joined _ _ _ (next m n 65536) r2
    ∙ joined _ _ _ (next m n 256) r1
    ∙ joined _ _ _ (low m n) r0)

pub stamp_order : (s t : Stamp) (x y : List ℕ) → IsStampValue s → IsStampValue t → slice_cmp nat_cmp (stamp_spelling s ++ x) (stamp_spelling t ++ y) ≡ ordering_then (stamp_cmp s t) (slice_cmp nat_cmp x y)
unfolding stamp_cmp
stamp_order s t x y p q =
    number_order_8 s.counter t.counter (to_be_bytes w16 s.site ++ x) (to_be_bytes w16 t.site ++ y) p.0 q.0
    ∙ ap (λ (o : Ordering). ordering_then (nat_cmp s.counter t.counter) o) (number_order_2 s.site t.site x y p.1 q.1)
    ∙ sym (then-then (nat_cmp s.counter t.counter) (nat_cmp s.site t.site) (slice_cmp nat_cmp x y))

-- ---- operations

-- where the whole's answer is the stamps' and then more's
same_kind : (stamps more rest whole : Ordering) → whole ≡ ordering_then stamps more → more ≡ rest → ordering_then stamps rest ≡ ordering_then stamps whole
same_kind stamps more rest whole e f =
    sym (ap (λ (o : Ordering). ordering_then stamps o) e ∙ then-again stamps more ∙ ap (λ (o : Ordering). ordering_then stamps o) f)

target_order : (s t : Stamp) (x y : List ℕ) (rest : Ordering) → IsStampValue s → IsStampValue t → slice_cmp nat_cmp x y ≡ rest
    → slice_cmp nat_cmp (stamp_spelling s ++ x) (stamp_spelling t ++ y) ≡ ordering_then (nat_cmp s.counter t.counter) (ordering_then (nat_cmp s.site t.site) rest)
unfolding stamp_cmp
target_order s t x y rest p q e =
    stamp_order s t x y p q ∙ then-then (nat_cmp s.counter t.counter) (nat_cmp s.site t.site) (slice_cmp nat_cmp x y)
    ∙ ap (λ (o : Ordering). ordering_then (nat_cmp s.counter t.counter) (ordering_then (nat_cmp s.site t.site) o)) e

rest_order : (o p : Op) → IsValue o → IsValue p → ordering_then (stamp_cmp (stamp_of o) (stamp_of p)) (slice_cmp nat_cmp (rest_of o) (rest_of p)) ≡ ordering_then (stamp_cmp (stamp_of o) (stamp_of p)) (slice_cmp nat_cmp (spelling o) (spelling p))
rest_order (Insert s p y) (Insert t q z) f g =
    let x = style_code y.style ∷ to_be_bytes w32 y.ch in
    let w = style_code z.style ∷ to_be_bytes w32 z.ch in
    let symbols : slice_cmp nat_cmp x w ≡ ordering_then (nat_cmp (style_code y.style) (style_code z.style)) (ordering_then (nat_cmp y.ch z.ch) Equal) =
    ap (λ (o : Ordering). ordering_then (nat_cmp (style_code y.style) (style_code z.style)) o) (number_order_4 y.ch z.ch [] [] (omega (arith, f.2)) (omega (arith, g.2))) in
    same_kind (stamp_cmp s t) _ _ _ (stamp_order s t (stamp_spelling p ++ x) (stamp_spelling q ++ w) f.0 g.0) (target_order p q x w _ f.1 g.1 symbols)
rest_order (Insert s p y) (Delete t q) f g = refl
rest_order (Insert s p y) (Set t k v) f g = refl
rest_order (Delete s p) (Insert t q z) f g = refl
rest_order (Delete s p) (Delete t q) f g =
    same_kind (stamp_cmp s t) _ _ _ (stamp_order s t (stamp_spelling p) (stamp_spelling q) f.0 g.0) (target_order p q [] [] Equal f.1 g.1 refl)
rest_order (Delete s p) (Set t k v) f g = refl
rest_order (Set s k v) (Insert t q z) f g = refl
rest_order (Set s k v) (Delete t q) f g = refl
rest_order (Set s k v) (Set t j w) f g =
    same_kind (stamp_cmp s t) _ _ _ (stamp_order s t (key_code k ∷ to_be_bytes w32 v) (key_code j ∷ to_be_bytes w32 w) f.0 g.0)
    (ap (λ (o : Ordering). ordering_then (nat_cmp (key_code k) (key_code j)) o) (number_order_4 v w [] [] f.1 g.1))

compared : (o p : Op) → IsValue o → IsValue p → op_cmp o p ≡ ordering_then (stamp_cmp (stamp_of o) (stamp_of p)) (slice_cmp nat_cmp (spelling o) (spelling p))
compared o p f g = by_stamp o p ∙ rest_order o p f g

-- ---- the smaller

less_from : (a b : Ordering) → ordering_then a b ≡ Less → (a ≡ Less) ⊎ ((a ≡ Equal) × (b ≡ Less))
less_from Less b e = inl refl
less_from Equal b e = inr (refl, e)
less_from Greater b e = inl e

less_to : (a b : Ordering) → (a ≡ Less) ⊎ ((a ≡ Equal) × (b ≡ Less)) → ordering_then a b ≡ Less
less_to a b (inl e) = ap (λ (o : Ordering). ordering_then o b) e
less_to a b (inr e) = ap (λ (o : Ordering). ordering_then o b) e.0 ∙ e.1

of_one_stamp : (s t : Stamp) (b : Ordering) → (stamp_cmp s t ≡ Less) ⊎ ((stamp_cmp s t ≡ Equal) × (b ≡ Less)) → (stamp_cmp s t ≡ Less) ⊎ ((s ≡ t) × (b ≡ Less))
of_one_stamp s t b (inl e) = inl e
of_one_stamp s t b (inr e) = inr (stamp_tied s t e.0, e.1)

tied_stamps : (s t : Stamp) (b : Ordering) → (stamp_cmp s t ≡ Less) ⊎ ((s ≡ t) × (b ≡ Less)) → (stamp_cmp s t ≡ Less) ⊎ ((stamp_cmp s t ≡ Equal) × (b ≡ Less))
tied_stamps s t b (inl e) = inl e
tied_stamps s t b (inr e) = inr (ap (λ (u : Stamp). stamp_cmp u t) e.0 ∙ tied_itself stamp_total t, e.1)

pub order_of_bytes : OrderOfBytes
order_of_bytes = record {
  compared = compared;
  less = λ o p f g.
      let stamps = stamp_cmp (stamp_of o) (stamp_of p) in
      let bytes = slice_cmp nat_cmp (spelling o) (spelling p) in (
        λ e. of_one_stamp (stamp_of o) (stamp_of p) bytes (less_from stamps bytes (sym (compared o p f g) ∙ e)),
        λ e. compared o p f g ∙ less_to stamps bytes (tied_stamps (stamp_of o) (stamp_of p) bytes e),
      );
}
