-- Sets of operations that grow: lawful, and how many.
use Rattle.std.proofs.Common.{◌≡◌, ◌+◌, ◌-◌, ◌<◌, ◌≤◌, ◌⊎◌, inl, inr, take, get_or, ℕ, zero, suc, cond, List, [], ◌∷◌, length, drop, false, refl, sym, ap, ◌∙◌, subst, arith}
use Rattle.std.specs.List.{AllByRecursion}
use Rattle.desk_ops.specs.declared.op.Op.{Op}
use Rattle.desk_ops.specs.Op.{IsLawful, stamp_of}
use Rattle.desk_ops.specs.Held.{is_borne_in}
use Rattle.desk_ops.specs.OpSet.{OpSet, has_op, no_ops, with_op, with_all, size, max_ops}
use Rattle.std.specs.FinMap as fin
use Rattle.desk_replica.specs.State.{IsCounted, ForksNone, HasRoom}
use Rattle.std.proofs.lemmas.List.{take-append-drop, take_all, drop_all}
use Rattle.std.proofs.Math.Seq.{drop-cons}
use Rattle.std.proofs.Common.{length-drop}
use Rattle.desk_held.specs.declared.AddRefusal.{AddRefusal}
use Rattle.desk_held.specs.declared.AddRefusal.TheVariants.{Full, NoMemory}
use Rattle.std.specs.Prelude.{◌↔◌, Bool, true, Result, Ok, Err, IsErrOf, All}
use Rattle.std.proofs.lemmas.Bool.{true≢false}
use Rattle.desk_replica.specs.declared.Took.{Took}
use Rattle.desk_held.specs.declared.join.Stopped.{Stopped}
use Rattle.desk_held.specs.Joining.{IsStopped}
use Rattle.desk_ops.proofs.Unions.{with_all-append, size-with_op, size-few}
use Rattle.desk_ops.proofs.Stamps.{by_cases}

pub each-of-all : (ops : List Op) → All IsLawful ops → AllByRecursion IsLawful ops
each-of-all [] a = tt
each-of-all (o ∷ ops) a = (a 0 o (omega arith), each-of-all ops (λ k d l. a (suc k) d (omega (arith, l))))

grows : (h : OpSet) (o : Op) → size h ≤ size (with_op h o)
grows h o = by_cases (has_op h o) (λ k. let e : size (with_op h o) ≡ size h = size-with_op h o ∙ ap (λ b. cond b (size h) (size h + 1)) k in omega arith) (λ k. let e : size (with_op h o) ≡ size h + 1 = size-with_op h o ∙ ap (λ b. cond b (size h) (size h + 1)) k in omega arith)

pub grows_all : (h : OpSet) (ops : List Op) → size h ≤ size (with_all h ops)
grows_all h [] = omega arith
grows_all h (o ∷ ops) = let a = grows h o in let b = grows_all (with_op h o) ops in omega (arith, a, b)

-- a stop with as many as may be: the whole list has more
pub too_many : (old after : OpSet) (ops : List Op) (stop : Stopped) → IsStopped old after ops stop → stop.why ≡ Full → max_ops < size (with_all old ops)
too_many old after ops stop s why = go (drop stop.taken ops) refl
  where
    rest : with_all old ops ≡ with_all after (drop stop.taken ops)
    rest = ap (with_all old) (sym (take-append-drop stop.taken ops)) ∙ with_all-append old (take stop.taken ops) (drop stop.taken ops) ∙ ap (λ h. with_all h (drop stop.taken ops)) (sym s.gained)

    go : (l : List Op) → drop stop.taken ops ≡ l → max_ops < size (with_all old ops)
    go [] e = let n : length (drop stop.taken ops) ≡ 0 = ap length e in let w = s.within in absurd (omega (arith, n, w, length-drop stop.taken ops))
    go (o ∷ l) e =
        let at : get_or ops stop.taken o ≡ o = ap (λ (x : List Op). get_or x 0 o) (sym (drop-cons ops stop.taken o s.within) ∙ e) in
        let new : has_op after o ≡ false = subst (λ p. has_op after p ≡ false) at (s.next o) in
        let one : size (with_op after o) ≡ size after + 1 = size-with_op after o ∙ ap (λ b. cond b (size after) (size after + 1)) new in
        let all : size (with_op after o) ≤ size (with_all (with_op after o) l) = grows_all (with_op after o) l in
        let is : size (with_all old ops) ≡ size (with_all (with_op after o) l) = ap size (rest ∙ ap (with_all after) e) in
        let full : size after ≡ max_ops = s.full.0 why in
        omega (arith, one, all, is, full)

-- the counts of a list that was taken in, by how many were held before and after
module _ (old after : OpSet) (ops : List Op) (before now : ℕ) (gained : after ≡ with_all old ops) (was : before ≡ size old) (is : now ≡ size after) where
  pub count-new : before ≤ now
  count-new = let e : size after ≡ size (with_all old ops) = ap size gained in let l : size old ≤ size (with_all old ops) = grows_all old ops in omega (arith, e, l, was, is)

  pub count-known : now - before ≤ length ops
  count-known = let e : size after ≡ size (with_all old ops) = ap size gained in let l : size (with_all old ops) ≤ size old + length ops = size-few old ops in omega (arith, e, l, was, is)

  pub counted : IsCounted old after ops (record { new = now - before; known = length ops - (now - before) })
  counted = record { news = let k : before ≤ now = count-new in omega (arith, k, was, is); all = let k : now - before ≤ length ops = count-known in omega (arith, k) }

-- ---- an operation that was refused

is_full : AddRefusal → Bool
is_full Full = true
is_full NoMemory = false

err_full : Result Took AddRefusal → Bool
err_full (Ok took) = false
err_full (Err why) = is_full why

abbrev tried : AddRefusal → Result Took AddRefusal
tried why = Err why

-- it was not held, whatever the cause
pub halt-next : (why : AddRefusal) (held : Bool) (P Q : Type 0) → ((IsErrOf (tried why) Full) ↔ ((held ≡ false) × P)) → (IsErrOf (tried why) NoMemory → (held ≡ false) × Q) → held ≡ false
halt-next Full held P Q full memory = (full.0 refl).0
halt-next NoMemory held P Q full memory = (memory refl).0

pub halt-full : (why : AddRefusal) (h after : OpSet) (o : Op) → has_op h o ≡ false → after ≡ h → ((IsErrOf (tried why) Full) ↔ ((has_op h o ≡ false) × (size h ≡ max_ops))) → (why ≡ Full) ↔ (size after ≡ max_ops)
unfolding is_full err_full
halt-full Full h after o new same full = ((λ e. ap size same ∙ (full.0 refl).1), (λ e. refl))
halt-full NoMemory h after o new same full = ((λ e. absurd (true≢false (sym (ap is_full e)))), (λ e. absurd (true≢false (sym (ap err_full (full.1 (new, sym (ap size same) ∙ e)))))))

pub split-at : (ops : List Op) (i : ℕ) (o : Op) → i < length ops → o ≡ get_or ops i o → drop i ops ≡ o ∷ drop (i + 1) ops
split-at [] i o lt at = absurd (omega arith)
split-at (p ∷ ops) zero o lt at = ap (λ (q : Op). q ∷ ops) (sym at)
split-at (p ∷ ops) (suc i) o lt at = let e : suc (i + 1) ≡ suc i + 1 = omega arith in split-at ops i o (omega arith) at ∙ ap (λ (n : ℕ). o ∷ drop n (p ∷ ops)) e

pub take-none : (ops : List Op) → take 0 ops ≡ []
take-none [] = refl
take-none (o ∷ ops) = refl

pub drop-none : (ops : List Op) → drop 0 ops ≡ ops
drop-none [] = refl
drop-none (o ∷ ops) = refl

pub grows_by_one : (h : OpSet) (o : Op) → size (with_op h o) ≤ size h + 1
grows_by_one h o = by_cases (has_op h o)
    (λ e. let n : size (with_op h o) ≡ size h = size-with_op h o ∙ ap (λ b. cond b (size h) (size h + 1)) e in omega (arith, n))
    (λ e. let n : size (with_op h o) ≡ size h + 1 = size-with_op h o ∙ ap (λ b. cond b (size h) (size h + 1)) e in omega (arith, n))

-- ---- room for a list that forks no stamp

-- for an empty list there is always room
pub none_has_room : (h : OpSet) (spare : ℕ) (ops : List Op) → h ≡ no_ops → ops ≡ [] → HasRoom h spare ops
none_has_room h spare ops begun none = subst (HasRoom h spare) (sym none) (record {
  below = let e : size h ≡ 0 = ap size begun ∙ fin.len-empty _ _ in omega (arith, e);
  spare = omega arith;
  unforked = tt;
})

pub room-more : (h after : OpSet) (spare left : ℕ) (o : Op) (os : List Op) → HasRoom h spare (o ∷ os) → after ≡ with_op h o → (is_borne_in h (stamp_of o) ≡ false → spare ≤ left + 1) → (has_op h o ≡ true → left ≡ spare) → HasRoom after left os
room-more h after spare left o os r e new known = record {
  below = let a = r.below in let b = grows_by_one h o in let c : size after ≡ size (with_op h o) = ap size e in omega (arith, a, b, c);
  spare = go r.unforked.0;
  unforked = subst (λ (g : OpSet). ForksNone g os) (sym e) r.unforked.1;
}
  where
    go : (has_op h o ≡ true) ⊎ (is_borne_in h (stamp_of o) ≡ false) → length os ≤ left
    go (inl held) = let a = r.spare in let b = known held in omega (arith, a, b)
    go (inr other) = let a = r.spare in let b = new other in omega (arith, a, b)

pub room-refused : (h : OpSet) (spare : ℕ) (o : Op) (os : List Op) (why : AddRefusal) → HasRoom h spare (o ∷ os) → ((IsErrOf (tried why) Full) ↔ ((has_op h o ≡ false) × (size h ≡ max_ops))) → (IsErrOf (tried why) NoMemory → (has_op h o ≡ false) × ((spare ≡ 0) ⊎ (is_borne_in h (stamp_of o) ≡ true))) → ⊥
room-refused h spare o os Full r full memory = let a = (full.0 refl).1 in let b = r.below in absurd (omega (arith, a, b))
room-refused h spare o os NoMemory r full memory = go r.unforked.0 (memory refl).0 (memory refl).1
  where
    go : (has_op h o ≡ true) ⊎ (is_borne_in h (stamp_of o) ≡ false) → has_op h o ≡ false → (spare ≡ 0) ⊎ (is_borne_in h (stamp_of o) ≡ true) → ⊥
    go (inl held) none q = true≢false (sym held ∙ none)
    go (inr other) none (inl zero_spare) = let a = r.spare in absurd (omega (arith, a, zero_spare))
    go (inr other) none (inr borne) = true≢false (sym borne ∙ other)

-- of a list from a place on
pub room-rest : (h after : OpSet) (spare left : ℕ) (ops : List Op) (i : ℕ) (o : Op) → i < length ops → o ≡ get_or ops i o → HasRoom h spare (drop i ops) → after ≡ with_op h o → (is_borne_in h (stamp_of o) ≡ false → spare ≤ left + 1) → (has_op h o ≡ true → left ≡ spare) → HasRoom after left (drop (i + 1) ops)
room-rest h after spare left ops i o lt at r e new known =
    room-more h after spare left o (drop (i + 1) ops) (subst (HasRoom h spare) (split-at ops i o lt at) r) e new known

pub rest-refused : (h : OpSet) (spare : ℕ) (ops : List Op) (i : ℕ) (o : Op) (why : AddRefusal) → i < length ops → o ≡ get_or ops i o → HasRoom h spare (drop i ops) → ((IsErrOf (tried why) Full) ↔ ((has_op h o ≡ false) × (size h ≡ max_ops))) → (IsErrOf (tried why) NoMemory → (has_op h o ≡ false) × ((spare ≡ 0) ⊎ (is_borne_in h (stamp_of o) ≡ true))) → ⊥
rest-refused h spare ops i o why lt at r full memory =
    room-refused h spare o (drop (i + 1) ops) why (subst (HasRoom h spare) (split-at ops i o lt at) r) full memory

-- where all were joined, or none
pub room-joined : (h after : OpSet) (spare left : ℕ) (ops : List Op) (n : ℕ) → HasRoom h spare ops → after ≡ with_all h (take n ops) → (n ≡ length ops) ⊎ ((n ≡ 0) × (spare ≤ left)) → HasRoom after left (drop n ops)
room-joined h after spare left ops n r e (inl all) =
    subst (HasRoom after left) (sym (ap (λ (k : ℕ). drop k ops) all ∙ drop_all (length ops) ops (omega arith)))
    (record {
      below = let a = r.below in let c : size after ≡ size (with_all h ops) = ap size e ∙ ap (λ (os : List Op). size (with_all h os)) (ap (λ (k : ℕ). take k ops) all ∙ take_all (length ops) ops (omega arith)) in let b = size-few h ops in omega (arith, a, b, c);
      spare = omega arith;
      unforked = tt;
    })
room-joined h after spare left ops n r e (inr none) =
    subst (λ (g : OpSet). HasRoom g left (drop n ops)) (sym (e ∙ ap (λ (k : ℕ). with_all h (take k ops)) none.0 ∙ ap (with_all h) (take-none ops)))
    (subst (HasRoom h left) (sym (ap (λ (k : ℕ). drop k ops) none.0 ∙ drop-none ops)) (record { below = r.below; spare = let a = r.spare in let b = none.1 in omega (arith, a, b); unforked = r.unforked }))
