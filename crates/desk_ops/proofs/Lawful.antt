-- An operation is lawful exactly where no test of it fails.
use Rattle.std.proofs.Common.{◌≡◌, ℕ, ◌<◌, ◌≤◌, ◌⊎◌, inl, inr, Bool, true, cond, not, ◌&&◌, ◌||◌, ◌==◌, List, [], ◌∷◌, Ok, Err, refl, sym, ap, ◌∙◌, arith}
use Rattle.std.specs.Prelude.{nat_lt, nat_le, ◌↔◌, is_ok}
use Rattle.std.proofs.lemmas.Bool.{true≢false, and_parts, and_from, or_cases, or_left, or_right, leb-true, le-leb, ltb-true, lt-ltb, eqb-true, eq-eqb}
use Rattle.std.proofs.lemmas.Bool.Decides.{nat_tests}
use Rattle.desk_ops.specs.declared.op.Stamp.{Stamp}
use Rattle.desk_ops.specs.declared.op.Style.{Style}
use Rattle.desk_ops.specs.declared.op.Style.TheVariants.{Roman, Italic, SmallCap}
use Rattle.desk_ops.specs.declared.op.Symbol.{Symbol}
use Rattle.desk_ops.specs.declared.op.Key.{Key}
use Rattle.desk_ops.specs.declared.op.Key.TheVariants.{Measure, Tight, Loose, Case, Wedge}
use Rattle.desk_ops.specs.declared.op.Op.{Op}
use Rattle.desk_ops.specs.declared.op.Op.TheVariants.{Insert, Delete, Set}
use Rattle.desk_ops.specs.declared.op.Unlawful.{Unlawful}
use Rattle.desk_ops.specs.declared.op.Unlawful.TheVariants as unlawful
use Rattle.desk_ops.specs.Stamp.{head, is_head, max_counter, is_counter, is_stamp, IsStamp}
use Rattle.desk_ops.specs.Op.{stamp_of, symbol_verdict, IsLawful, IsSymbol, IsValue, is_roman, is_symbol, is_value, first_of, causes, verdict}
use Rattle.desk_ops.proofs.Stamps.{by_cases}
use Rattle.desk_ops.proofs.Lists.{Each}

site_from : (n : ℕ) → not (n == 0) ≡ true → 1 ≤ n
site_from n e = grind (arith, nat_tests)

site_true : (n : ℕ) → 1 ≤ n → not (n == 0) ≡ true
site_true n e = grind (arith, nat_tests)

-- ---- stamps

pub stamp_from : (s : Stamp) → is_stamp s ≡ true → IsStamp s
stamp_from s e =
    let p = and_parts (is_counter s.counter) (not (s.site == 0)) e in
    let q = and_parts (nat_le 1 s.counter) (nat_le s.counter max_counter) p.0 in
    (leb-true 1 s.counter q.0, leb-true s.counter max_counter q.1, site_from s.site p.1)

pub stamp_true : (s : Stamp) → IsStamp s → is_stamp s ≡ true
stamp_true s h = and_from (is_counter s.counter) (not (s.site == 0)) (and_from (nat_le 1 s.counter) (nat_le s.counter max_counter) (le-leb 1 s.counter h.0) (le-leb s.counter max_counter h.1)) (site_true s.site h.2)

pub head_from : (s : Stamp) → is_head s ≡ true → s ≡ head
head_from s e = let p = and_parts (s.counter == 0) (s.site == 0) e in λ i. record { counter = eqb-true s.counter 0 p.0 i; site = eqb-true s.site 0 p.1 i }

pub head_true : (s : Stamp) → s ≡ head → is_head s ≡ true
head_true s e = and_from (s.counter == 0) (s.site == 0) (eq-eqb s.counter 0 (ap (λ (t : Stamp). t.counter) e)) (eq-eqb s.site 0 (ap (λ (t : Stamp). t.site) e))

-- ---- symbols and values

roman_from : (s : Style) → is_roman s ≡ true → s ≡ Roman
roman_from Roman e = refl
roman_from Italic e = absurd (true≢false (sym e))
roman_from SmallCap e = absurd (true≢false (sym e))

pub symbol_from : (y : Symbol) → is_symbol y ≡ true → IsSymbol y
symbol_from y e = go (or_cases blank other e)
  where
    blank : Bool
    blank = (y.ch == 10 || y.ch == 32) && is_roman y.style

    other : Bool
    other = nat_lt 32 y.ch && (nat_lt y.ch 127 || nat_lt 159 y.ch)

    char : (y.ch == 10) ≡ true ⊎ ((y.ch == 32) ≡ true) → (y.ch ≡ 10) ⊎ (y.ch ≡ 32)
    char (inl k) = inl (eqb-true y.ch 10 k)
    char (inr k) = inr (eqb-true y.ch 32 k)

    wide : (nat_lt y.ch 127 ≡ true) ⊎ (nat_lt 159 y.ch ≡ true) → (y.ch < 127) ⊎ (159 < y.ch)
    wide (inl k) = inl (ltb-true y.ch 127 k)
    wide (inr k) = inr (ltb-true 159 y.ch k)

    go : (((y.ch == 10 || y.ch == 32) && is_roman y.style) ≡ true) ⊎ ((nat_lt 32 y.ch && (nat_lt y.ch 127 || nat_lt 159 y.ch)) ≡ true) → IsSymbol y
    go (inl k) = let p = and_parts (y.ch == 10 || y.ch == 32) (is_roman y.style) k in inl (roman_from y.style p.1, char (or_cases (y.ch == 10) (y.ch == 32) p.0))
    go (inr k) = let p = and_parts (nat_lt 32 y.ch) (nat_lt y.ch 127 || nat_lt 159 y.ch) k in inr (ltb-true 32 y.ch p.0, wide (or_cases (nat_lt y.ch 127) (nat_lt 159 y.ch) p.1))

pub symbol_true : (y : Symbol) → IsSymbol y → is_symbol y ≡ true
symbol_true y (inl h) = or_left ((y.ch == 10 || y.ch == 32) && is_roman y.style) (nat_lt 32 y.ch && (nat_lt y.ch 127 || nat_lt 159 y.ch)) (and_from (y.ch == 10 || y.ch == 32) (is_roman y.style) (char h.1) (ap is_roman h.0))
  where
    char : (y.ch ≡ 10) ⊎ (y.ch ≡ 32) → (y.ch == 10 || y.ch == 32) ≡ true
    char (inl k) = or_left (y.ch == 10) (y.ch == 32) (eq-eqb y.ch 10 k)
    char (inr k) = or_right (y.ch == 10) (y.ch == 32) (eq-eqb y.ch 32 k)
symbol_true y (inr h) = or_right ((y.ch == 10 || y.ch == 32) && is_roman y.style) (nat_lt 32 y.ch && (nat_lt y.ch 127 || nat_lt 159 y.ch)) (and_from (nat_lt 32 y.ch) (nat_lt y.ch 127 || nat_lt 159 y.ch) (lt-ltb 32 y.ch h.0) (wide h.1))
  where
    wide : (y.ch < 127) ⊎ (159 < y.ch) → (nat_lt y.ch 127 || nat_lt 159 y.ch) ≡ true
    wide (inl k) = or_left (nat_lt y.ch 127) (nat_lt 159 y.ch) (lt-ltb y.ch 127 k)
    wide (inr k) = or_right (nat_lt y.ch 127) (nat_lt 159 y.ch) (lt-ltb 159 y.ch k)

within : (a b n : ℕ) → (nat_le a n && nat_le n b) ≡ true → (a ≤ n) × (n ≤ b)
within a b n e = let p = and_parts (nat_le a n) (nat_le n b) e in (leb-true a n p.0, leb-true n b p.1)

within_true : (a b n : ℕ) → (a ≤ n) × (n ≤ b) → (nat_le a n && nat_le n b) ≡ true
within_true a b n h = and_from (nat_le a n) (nat_le n b) (le-leb a n h.0) (le-leb n b h.1)

pub value_from : (k : Key) (n : ℕ) → is_value k n ≡ true → IsValue k n
value_from Measure n e = within 12 720 n e
value_from Tight n e = within 16 240 n e
value_from Loose n e = within 16 240 n e
value_from Case n e = within 1 65535 n e
value_from Wedge n e = within 1 65535 n e

pub value_true : (k : Key) (n : ℕ) → IsValue k n → is_value k n ≡ true
value_true Measure n h = within_true 12 720 n h
value_true Tight n h = within_true 16 240 n h
value_true Loose n h = within_true 16 240 n h
value_true Case n h = within_true 1 65535 n h
value_true Wedge n h = within_true 1 65535 n h

-- ---- operations

all_true : (ts : List (Bool × Unlawful)) → first_of ts ≡ Ok tt → Each (λ t. t.0 ≡ true) ts
all_true [] e = tt
all_true (t ∷ ts) e =
    by_cases t.0
    (λ k. (k, all_true ts (sym (ap (λ b. cond b (first_of ts) (Err t.1)) k) ∙ e)))
    (λ k. absurd (true≢false (sym (ap is_ok e) ∙ ap (λ b. is_ok (cond b (first_of ts) (Err t.1))) k)))

true_all : (ts : List (Bool × Unlawful)) → Each (λ t. t.0 ≡ true) ts → first_of ts ≡ Ok tt
true_all [] h = refl
true_all (t ∷ ts) h = ap (λ b. cond b (first_of ts) (Err t.1)) h.0 ∙ true_all ts h.1

own_from : (s : Stamp) → is_counter s.counter ≡ true → not (s.site == 0) ≡ true → IsStamp s
own_from s c e = stamp_from s (and_from (is_counter s.counter) (not (s.site == 0)) c e)

parent_from : (p : Stamp) → (is_head p || is_stamp p) ≡ true → (p ≡ head) ⊎ IsStamp p
parent_from p e = go (or_cases (is_head p) (is_stamp p) e)
  where
    go : (is_head p ≡ true) ⊎ (is_stamp p ≡ true) → (p ≡ head) ⊎ IsStamp p
    go (inl k) = inl (head_from p k)
    go (inr k) = inr (stamp_from p k)

parent_true : (p : Stamp) → (p ≡ head) ⊎ IsStamp p → (is_head p || is_stamp p) ≡ true
parent_true p (inl k) = or_left (is_head p) (is_stamp p) (head_true p k)
parent_true p (inr k) = or_right (is_head p) (is_stamp p) (stamp_true p k)

pub lawful_from : (op : Op) → verdict op ≡ Ok tt → IsLawful op
lawful_from (Insert s p y) e =
    let h = all_true (causes (Insert s p y)) e in
    let t = and_parts (is_head p || is_stamp p) (nat_lt p.counter s.counter) h.1.1.0 in
    (own_from s h.0 h.1.0, parent_from p t.0, ltb-true p.counter s.counter t.1, symbol_from y h.1.1.1.0)
lawful_from (Delete s p) e =
    let h = all_true (causes (Delete s p)) e in
    let t = and_parts (is_stamp p) (nat_lt p.counter s.counter) h.1.1.0 in
    (own_from s h.0 h.1.0, stamp_from p t.0, ltb-true p.counter s.counter t.1)
lawful_from (Set s k v) e = let h = all_true (causes (Set s k v)) e in (own_from s h.0 h.1.0, value_from k v h.1.1.1.1.0)

pub lawful_true : (op : Op) → IsLawful op → verdict op ≡ Ok tt
lawful_true (Insert s p y) h =
    let o = and_parts (is_counter s.counter) (not (s.site == 0)) (stamp_true s h.0) in
    true_all (causes (Insert s p y)) (o.0, (o.1, (and_from (is_head p || is_stamp p) (nat_lt p.counter s.counter) (parent_true p h.1) (lt-ltb p.counter s.counter h.2), (symbol_true y h.3, (refl, tt)))))
lawful_true (Delete s p) h =
    let o = and_parts (is_counter s.counter) (not (s.site == 0)) (stamp_true s h.0) in
    true_all (causes (Delete s p)) (o.0, (o.1, (and_from (is_stamp p) (nat_lt p.counter s.counter) (stamp_true p h.1) (lt-ltb p.counter s.counter h.2), (refl, (refl, tt)))))
lawful_true (Set s k v) h =
    let o = and_parts (is_counter s.counter) (not (s.site == 0)) (stamp_true s h.0) in
    true_all (causes (Set s k v)) (o.0, (o.1, (refl, (refl, (value_true k v h.1, tt)))))

pub lawful-stamp : (op : Op) → IsLawful op → IsStamp (stamp_of op)
lawful-stamp (Insert s p y) h = h.0
lawful-stamp (Delete s p) h = h.0
lawful-stamp (Set s k v) h = h.0

pub lawful_by_tests : (op : Op) → (verdict op ≡ Ok tt) ↔ IsLawful op
lawful_by_tests op = (lawful_from op, lawful_true op)

pub symbol_by_tests : (y : Symbol) → (symbol_verdict y ≡ Ok tt) ↔ IsSymbol y
symbol_by_tests y = (λ e. symbol_from y (all_true ((is_symbol y, unlawful.Symbol) ∷ []) e).0, λ h. true_all ((is_symbol y, unlawful.Symbol) ∷ []) (symbol_true y h, tt))
