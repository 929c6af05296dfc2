-- What an arrival does.
use Rattle.std.proofs.Common.{◌≡◌, ℕ, zero, suc, ◌+◌, ◌-◌, ◌<◌, ◌≤◌, Bool, true, false, List, ◌∷◌, length, get_or, refl, sym, ap, ◌∙◌, subst, ◌⊎◌, inl, inr, Some, arith}
use Rattle.std.specs.List.{insert}
use Rattle.desk_ops.specs.declared.op.Stamp.{Stamp}
use Rattle.desk_ops.specs.declared.op.Symbol.{Symbol}
use Rattle.desk_ops.specs.declared.op.Op.{Op}
use Rattle.desk_ops.specs.declared.op.Op.TheVariants.{Insert, Delete}
use Rattle.desk_ops.specs.Stamp.{head}
use Rattle.desk_ops.specs.Op.{target_of}
use Rattle.desk_ops.specs.OpSet.{OpSet, has_op, with_op, AllLawful}
use Rattle.desk_ops.specs.Lists.{Among}
use Rattle.desk_ops.proofs.Stamps.{by_cases}
use Rattle.desk_ops.proofs.Joined.{lawful-with_op, has_op-with_op_own, within-with_op, with-cases}
use Rattle.desk_walk.specs.Waiting.{HasTarget}
use Rattle.desk_seq.specs.declared.Entry.{Entry}
use Rattle.desk_seq.specs.Entries.{stamps_of, AreDistinct, IsAbsent, IsFirstBelow, with_mark}
use Rattle.desk_seq.proofs.Entries.{map-insert, stamps-mark}
use Rattle.desk_walk.specs.Following.{places, place_at, IsSettled, IsFollowing, IsFree, IsDraining, IsArrival, IsWithout, new_entry}
use Rattle.desk_walk.proofs.Lists.{among-at, length-insert, insert-low, insert-high}
use Rattle.desk_walk.proofs.Arrivals.{IsAdded, added-put, added-none, not-held, following, old-free, delete-target}
use Rattle.desk_walk.proofs.Drains.{settled-entries, settled-waits, absent, put, mark}

-- a place is the head's, or an entry's
pub place-is : (es : List Entry) (j : ℕ) → j < length (places es) → (place_at es j ≡ head) ⊎ Among (place_at es j) (stamps_of es)
place-is es zero lt = inl refl
place-is es (suc j) lt = inr (among-at (stamps_of es) j (omega arith))

module _ (h : OpSet) (o : Op) (es : List Entry) (w : OpSet) (a : IsArrival h o es w) where
  pub put-absent : has_op w o ≡ false
  put-absent = by_cases (has_op w o) (λ e. absurd (not-held h a.lawful o a.new ((a.settled.waits o).0 e).clear.0)) (λ e. e)

  lawful : AllLawful (with_op h o)
  lawful = lawful-with_op h o a.lawful a.own

  follows : (waits : Op → Bool) → IsAdded (has_op w) waits o → IsFollowing (with_op h o) waits es
  follows waits i = following h a.lawful o a.new es (has_op w) waits a.settled.entries (λ q. a.settled.waits q) i

  free : (q : Op) (j : ℕ) → has_op w q ≡ true → j < length (places es) → target_of q ≡ Some (place_at es j) → ⊥
  free q j e lt t = old-free h a.lawful es a.settled.entries w a.settled q (place_at es j) e t (place-is es j lt)

  settles : (v : OpSet) → IsAdded (has_op w) (has_op v) o → ((j : ℕ) → j < length (places es) → IsFree (has_op v) es j) → IsSettled (with_op h o) es v
  settles v i nothing = record {
    entries = settled-entries (with_op h o) lawful (has_op v) es (follows (has_op v) i) nothing;
    waits = settled-waits (with_op h o) lawful (has_op v) es (follows (has_op v) i) nothing;
  }

  -- what waits, as if the arrival had waited and was released
  without : IsWithout (has_op (with_op w o)) (has_op w) o
  without = record { rest = λ q e. with-cases w o q e; within = λ q e. within-with_op w o q e; gone = put-absent }

  waited : HasTarget o → IsFollowing (with_op h o) (has_op (with_op w o)) es
  waited target = follows (has_op (with_op w o)) (added-put w o target)

  -- a set
  pub untargeted : (HasTarget o → ⊥) → IsSettled (with_op h o) es w
  untargeted none = settles w (added-none h w es o a.settled none) (λ j lt q e t. free q j e lt t)

  -- one whose target is not there
  pub unplaced : (t : Stamp) → target_of o ≡ Some t → HasTarget o → ((j : ℕ) → j < length (places es) → place_at es j ≡ t → ⊥) → IsSettled (with_op h o) es (with_op w o)
  unplaced t e target none = settles (with_op w o) (added-put w o target) (λ j lt q k i. go j lt q (with-cases w o q k) i)
    where
      go : (j : ℕ) → j < length (places es) → (q : Op) → (o ≡ q) ⊎ (has_op w q ≡ true) → target_of q ≡ Some (place_at es j) → ⊥
      go j lt q (inl k) i = none j lt (let f : Some (place_at es j) ≡ Some t = sym i ∙ ap target_of (sym k) ∙ e in cc)
      go j lt q (inr k) i = free q j k lt i

-- ---- an arrival that acts

-- an insert is not there yet
pub arrival-absent : (h : OpSet) (s p : Stamp) (y : Symbol) (es : List Entry) (w : OpSet) → IsArrival h (Insert s p y) es w → IsAbsent s es
arrival-absent h s p y es w a =
    let o : Op = Insert s p y in
    absent (with_op h o) (lawful h o es w a) (has_op (with_op w o)) es (waited h o es w a refl) (record { stamp = s; parent = p; symbol = y }) (has_op-with_op_own w o)

-- it stands where the scan leads, and only what waits for it may now act
pub stands : (h : OpSet) (s p : Stamp) (y : Symbol) (es : List Entry) (w : OpSet) → IsArrival h (Insert s p y) es w → AreDistinct es → (at : ℕ) → at ≤ length es → p ≡ place_at es at → (place : ℕ) → IsFirstBelow (stamps_of es) at s place → IsDraining (with_op h (Insert s p y)) (has_op w) (insert es place (new_entry s y)) (place + 1) (place + 1)
stands h s p y es w a distinct at le on place b = record {
  follows = put (with_op h o) (lawful h o es w a) (has_op (with_op w o)) es (waited h o es w a refl) at le distinct (has_op w) (record { stamp = s; parent = p; symbol = y }) (has_op-with_op_own w o) on (without h o es w a) place b;
  rest = rest;
}
  where
    o : Op
    o = Insert s p y

    stamps-new : stamps_of (insert es place (new_entry s y)) ≡ insert (stamps_of es) place s
    stamps-new = map-insert (λ (g : Entry). g.stamp) es place (new_entry s y)

    longer : length (stamps_of (insert es place (new_entry s y))) ≡ suc (length (stamps_of es))
    longer = ap length stamps-new ∙ length-insert (stamps_of es) place s

    rest : (j : ℕ) → j < length (places (insert es place (new_entry s y))) → (j < place + 1) ⊎ (place + 1 < j) → IsFree (has_op w) (insert es place (new_entry s y)) j
    rest zero lt l = λ q k i. free h o es w a q 0 k (omega arith) i
    rest (suc j) lt (inl l) = λ q k i.
        let n = b.within in
        free h o es w a q (suc j) k (omega arith)
        (i ∙ ap Some (ap (λ (ts : List Stamp). get_or ts j head) stamps-new ∙ insert-low (stamps_of es) place s j (omega arith) n))
    rest (suc zero) lt (inr l) = absurd (omega arith)
    rest (suc (suc j)) lt (inr l) = λ q k i.
        let n = longer in
        free h o es w a q (suc j) k (omega arith)
        (i ∙ ap Some (ap (λ (ts : List Stamp). get_or ts (suc j) head) stamps-new ∙ insert-high (stamps_of es) place s j (omega arith) b.within))

-- a delete does not hang on the head
pub not-on_head : (h : OpSet) (s t : Stamp) (es : List Entry) (w : OpSet) → IsArrival h (Delete s t) es w → (at : ℕ) → t ≡ place_at es at → 1 ≤ at
not-on_head h s t es w a zero e = absurd (delete-target (with_op h (Delete s t)) (lawful h (Delete s t) es w a) s t (has_op-with_op_own h (Delete s t)) e)
not-on_head h s t es w a (suc n) e = omega arith

-- it marks its element, and nothing waits for what was there
pub marks : (h : OpSet) (s t : Stamp) (es : List Entry) (w : OpSet) → IsArrival h (Delete s t) es w → AreDistinct es → (at : ℕ) → at ≤ length es → t ≡ place_at es at → IsSettled (with_op h (Delete s t)) (with_mark es (at - 1)) w
marks h s t es w a distinct at le on = record {
  entries = settled-entries (with_op h o) (lawful h o es w a) (has_op w) (with_mark es (at - 1)) follows_on nothing;
  waits = settled-waits (with_op h o) (lawful h o es w a) (has_op w) (with_mark es (at - 1)) follows_on nothing;
}
  where
    o : Op
    o = Delete s t

    follows_on : IsFollowing (with_op h o) (has_op w) (with_mark es (at - 1))
    follows_on =
        let pos = not-on_head h s t es w a at on in
        mark (with_op h o) (lawful h o es w a) (has_op (with_op w o)) es (waited h o es w a refl) at le distinct (has_op w) s t (has_op-with_op_own w o) (at - 1) (omega arith) on (without h o es w a)

    nothing : (j : ℕ) → j < length (places (with_mark es (at - 1))) → IsFree (has_op w) (with_mark es (at - 1)) j
    nothing j lt = λ q k i.
        free h o es w a q j k
        (subst (λ (ts : List Stamp). j < length (head ∷ ts)) (stamps-mark es (at - 1)) lt)
        (i ∙ ap (λ (ts : List Stamp). Some (get_or (head ∷ ts) j head)) (stamps-mark es (at - 1)))
