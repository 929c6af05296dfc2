-- Places that are taken, which do not overlap, and a copy with a text at each.
use Rattle.std.proofs.Common.{◌≡◌, inl, inr, ℕ, zero, suc, ◌+◌, ◌*◌, ◌-◌, ◌≤◌, ◌<◌, Bool, true, false, cond, List, [], ◌∷◌, ◌++◌, length, take, drop, refl, sym, ap, ◌∙◌, arith, length-append}
use Rattle.std.specs.Prelude.{◌==◌, nat_lt}
use Rattle.std.specs.List.{list_any}
use Rattle.std.proofs.Common.{◌||◌, ◌⊎◌, eqb-true, ltb-false, ltb-true}
use Rattle.std.proofs.lemmas.List.{take-take, take-append-le, drop-append-le, drop-take, length-take-le, length-drop, append_assoc}
use Rattle.desk_ops.specs.Lists.{Among, RiseFrom}
use Rattle.desk_ops.specs.declared.op.Symbol.{Symbol}
use Rattle.text_copy.specs.Places.{places_of}
use Rattle.text_copy.proofs.Finding.{all_places}
use Rattle.feed_edit.specs.declared.texts.Where.{Where}
use Rattle.feed_edit.specs.declared.texts.Where.TheVariants as wheres
use Rattle.feed_edit.specs.Reporting.{AreApart, TakenCoverAll, apart, only, taken_of, this}
use Rattle.feed_edit.specs.Replacing.{replaced, replaced_at}

-- a place of a text ends within the copy
pub ends_within : (old copy : List Symbol) (place : ℕ) → Among place (places_of old copy) → place + length old ≤ length copy
ends_within old copy place among = (((all_places old copy).1 place).0 among).0

-- ---- a copy with a text at each of some places

pub begins_within : (count from end : ℕ) (places : List ℕ) → AreApart count from end places → from ≤ end
begins_within count from end [] a = a
begins_within count from end (place ∷ places) a = omega (arith, a.0, begins_within count (place + count) end places a.1)

-- it is as long at least as what may not change
module _ (count : ℕ) (new copy : List Symbol) where
  long : (n : ℕ) (text : List Symbol) → n ≤ length copy → take n text ≡ take n copy → n ≤ length text
  long n text le same = at_least n text (ap length same ∙ length-take-le n copy le)
    where
      at_least : (n : ℕ) (text : List Symbol) → length (take n text) ≡ n → n ≤ length text
      at_least zero text e = omega arith
      at_least (suc n) [] e = omega (arith, e)
      at_least (suc n) (s ∷ text) e = omega (arith, at_least n text (omega (arith, e)))

  -- the part before a place
  front : (from place : ℕ) (text rest : List Symbol) → from ≤ place → place ≤ length text → take from (take place text ++ rest) ≡ take from text
  front from place text rest le within =
      take-append-le from (take place text) rest (omega (arith, le, length-take-le place text within)) ∙ take-take from place text le

  shape : (place : ℕ) (text : List Symbol) → replaced place count new text ≡ take place text ++ (new ++ drop (place + count) text)
  shape place text = append_assoc (take place text) new (drop (place + count) text)

  pub stays : (from : ℕ) (places : List ℕ) → AreApart count from (length copy) places → take from (replaced_at places count new copy) ≡ take from copy
  stays from [] a = refl
  stays from (place ∷ places) a =
      let text = replaced_at places count new copy in
      let same = stays (place + count) places a.1 in
      let within = long (place + count) text (begins_within count (place + count) (length copy) places a.1) same in
      ap (take from) (shape place text) ∙ front from place text (new ++ drop (place + count) text) a.0 (omega (arith, within))
      ∙ sym (take-take from (place + count) text (omega (arith, a.0)))
      ∙ ap (take from) same ∙ take-take from (place + count) copy (omega (arith, a.0))

  -- what is behind a place on is what comes up to the next place, the text there, and what is behind that
  pub goes_on : (from place : ℕ) (places : List ℕ) → AreApart count from (length copy) (place ∷ places)
      → drop from (replaced_at (place ∷ places) count new copy) ≡ take (place - from) (drop from copy) ++ (new ++ drop (place + count) (replaced_at places count new copy))
  goes_on from place places a =
      let text = replaced_at places count new copy in
      let same = stays (place + count) places a.1 in
      let within = long (place + count) text (begins_within count (place + count) (length copy) places a.1) same in
      let short : take place text ≡ take place copy = sym (take-take place (place + count) text (omega arith)) ∙ ap (take place) same ∙ take-take place (place + count) copy (omega arith) in
      let gap : from + (place - from) ≡ place = omega (arith, a.0) in
      let front : drop from (take place text) ≡ take (place - from) (drop from copy) =
      ap (drop from) short ∙ ap (λ n. drop from (take n copy)) (sym gap) ∙ drop-take from (place - from) copy in
      ap (drop from) (shape place text) ∙ drop-append-le from (take place text) (new ++ drop (place + count) text) (omega (arith, a.0, within, length-take-le place text (omega (arith, within))))
      ∙ ap (λ l. l ++ (new ++ drop (place + count) text)) front

  -- ---- its length

  pub length_is : (from : ℕ) (places : List ℕ) → AreApart count from (length copy) places
      → (length (replaced_at places count new copy) + length places * count ≡ length copy + length places * length new) × (from + length places * count ≤ length copy)
  length_is from [] a = (omega arith, omega (arith, a))
  length_is from (place ∷ places) a =
      let text = replaced_at places count new copy in
      let rest = length_is (place + count) places a.1 in
      let same = stays (place + count) places a.1 in
      let within = long (place + count) text (begins_within count (place + count) (length copy) places a.1) same in
      let whole = length-append (take place text) (new ++ drop (place + count) text) in
      let tail = length-append new (drop (place + count) text) in
      let cut = length-take-le place text (omega (arith, within)) in
      let left = length-drop (place + count) text in
      let shaped = ap length (shape place text) in
      (omega (arith, rest.0, shaped, whole, tail, cut, left, within), omega (arith, rest.1, a.0))

-- ---- the places that are taken

-- all of them end within something
module _ (count end : ℕ) where
  abbrev pub Within : List ℕ → Type 0
  Within places = (place : ℕ) → Among place places → place + count ≤ end

  only_apart : (places : List ℕ) → Within places → AreApart count 0 end (only places)
  only_apart places each = one (length places == 1) refl
    where
      single : (places : List ℕ) → Within places → length places ≡ 1 → AreApart count 0 end places
      single [] each e = omega arith
      single (place ∷ []) each e = (omega arith, each place (inl refl))
      single (place ∷ next ∷ places) each e = absurd (omega (arith, e))

      one : (b : Bool) → (length places == 1) ≡ b → AreApart count 0 end (cond b places [])
      one true e = single places each (eqb-true _ _ e)
      one false e = omega arith

  among : (place : ℕ) (places : List ℕ) → list_any (λ p. p == place) places ≡ true → Among place places
  among place [] e = absurd cc
  among place (p ∷ places) e = found (p == place) refl e (among place places)
    where
      found : (b : Bool) → (p == place) ≡ b → (b || list_any (λ p. p == place) places) ≡ true
          → (list_any (λ p. p == place) places ≡ true → Among place places) → Among place (p ∷ places)
      found true is e more = inl (eqb-true _ _ is)
      found false is e more = inr (more e)

  this_apart : (place : ℕ) (places : List ℕ) → Within places → AreApart count 0 end (this place places)
  this_apart place places each = one (list_any (λ p. p == place) places) refl
    where
      one : (b : Bool) → list_any (λ p. p == place) places ≡ b → AreApart count 0 end (cond b (place ∷ []) [])
      one true e = (omega arith, each place (among place places e))
      one false e = omega arith

  all_apart : (from : ℕ) (places : List ℕ) → from ≤ end → Within places → AreApart count from end (apart count from places)
  all_apart from [] le each = le
  all_apart from (place ∷ places) le each =
      one (nat_lt place from) refl (all_apart from places le (λ p m. each p (inr m))) (all_apart (place + count) places (each place (inl refl)) (λ p m. each p (inr m)))
    where
      one : (b : Bool) → nat_lt place from ≡ b → AreApart count from end (apart count from places) → AreApart count (place + count) end (apart count (place + count) places)
          → AreApart count from end (cond b (apart count from places) (place ∷ apart count (place + count) places))
      one true e passed taken = passed
      one false e passed taken = (ltb-false _ _ e, taken)

  pub taken_apart : (at : Where) (places : List ℕ) → Within places → AreApart count 0 end (taken_of at count places)
  taken_apart wheres.Once places each = only_apart places each
  taken_apart (wheres.At place) places each = this_apart place places each
  taken_apart wheres.All places each = one (count == 0)
    where
      one : (b : Bool) → AreApart count 0 end (cond b (only places) (apart count 0 places))
      one true = only_apart places each
      one false = all_apart 0 places (omega arith) each

-- ---- what is passed over

rise_among : (low : ℕ) (places : List ℕ) (place : ℕ) → RiseFrom low places → Among place places → low ≤ place
rise_among low [] place rise among = absurd among
rise_among low (p ∷ places) place rise (inl is) = omega (arith, rise.0, is)
rise_among low (p ∷ places) place rise (inr among) = omega (arith, rise.0, rise_among (p + 1) places place rise.1 among)

module _ (count : ℕ) (some : 1 ≤ count) where
  abbrev pub Covered : List ℕ → ℕ → Type 0
  Covered taken place = (at : ℕ) × Among at taken × (at ≤ place) × (place < at + count)

  -- a place is before where one may begin, or begins within one that is taken
  covered : (from low : ℕ) (places : List ℕ) (place : ℕ) → RiseFrom low places → Among place places → (place < from) ⊎ Covered (apart count from places) place
  covered from low [] place rise among = absurd among
  covered from low (p ∷ places) place rise among =
      one (nat_lt p from) refl among (λ m. covered from (p + 1) places place rise.1 m) (λ m. covered (p + count) (p + 1) places place rise.1 m) (λ m. rise_among (p + 1) places place rise.1 m)
    where
      one : (b : Bool) → nat_lt p from ≡ b → Among place (p ∷ places) → (Among place places → (place < from) ⊎ Covered (apart count from places) place)
          → (Among place places → (place < p + count) ⊎ Covered (apart count (p + count) places) place) → (Among place places → p + 1 ≤ place)
          → (place < from) ⊎ Covered (cond b (apart count from places) (p ∷ apart count (p + count) places)) place
      one true e (inl is) passed taken later = inl (omega (arith, ltb-true _ _ e, is))
      one true e (inr m) passed taken later = passed m
      one false e (inl is) passed taken later = inr (p, inl refl, omega (arith, is), omega (arith, is, some))
      one false e (inr m) passed taken later = behind (taken m)
        where
          behind : (place < p + count) ⊎ Covered (apart count (p + count) places) place → (place < from) ⊎ Covered (p ∷ apart count (p + count) places) place
          behind (inl within) = inr (p, inl refl, omega (arith, later m), within)
          behind (inr (at, found, le, lt)) = inr (at, inr found, le, lt)

  are_places : (from : ℕ) (places : List ℕ) (place : ℕ) → Among place (apart count from places) → Among place places
  are_places from [] place among = absurd among
  are_places from (p ∷ places) place among = one (nat_lt p from) among (are_places from places place) (are_places (p + count) places place)
    where
      one : (b : Bool) → Among place (cond b (apart count from places) (p ∷ apart count (p + count) places)) → (Among place (apart count from places) → Among place places)
          → (Among place (apart count (p + count) places) → Among place places) → Among place (p ∷ places)
      one true m passed taken = inr (passed m)
      one false (inl is) passed taken = inl is
      one false (inr m) passed taken = inr (taken m)

  not_before : (place : ℕ) (taken : List ℕ) → (place < 0) ⊎ Covered taken place → Covered taken place
  not_before place taken (inl lt) = absurd (omega (arith, lt))
  not_before place taken (inr found) = found

pub cover_all : TakenCoverAll
cover_all count places some rise place =
    (are_places count some 0 places place, λ among. not_before count some place (apart count 0 places) (covered count some 0 0 places place rise among))
