-- One run over two kinds of sequence: what a call answers and leaves is one, memory aside.
use Rattle.std.proofs.Common.{◌≡◌, ℕ, zero, suc, ◌+◌, ◌<◌, ◌≤◌, false, cond, List, [], ◌∷◌, length, take, get_or, ◌⊎◌, inl, inr, refl, sym, ap, ◌∙◌, subst, arith}
use Rattle.std.specs.Prelude.{Option, Some, None, Result, Ok, Err, IfOk, IfErr, IsOk, is_ok, is_some, ⊤}
use Rattle.std.specs.List.{AllByRecursion}
use Rattle.std.proofs.lemmas.Bool.{true≢false, cases_order}
use Rattle.desk_memory.specs.declared.NoMemory.{NoMemory}
use Rattle.desk_ops.specs.declared.op.Op.{Op}
use Rattle.desk_ops.specs.OpSet.{OpSet, has_op, with_op, with_all, in_order, size, max_ops}
use Rattle.desk_ops.proofs.Unions.{size-with_op}
use Rattle.desk_held.specs.declared.AddRefusal.{AddRefusal}
use Rattle.desk_held.specs.declared.AddRefusal.TheVariants as adds
use Rattle.desk_held.specs.declared.join.Stopped.{Stopped}
use Rattle.desk_held.specs.Joining.{IsStopped}
use Rattle.desk_replica.specs.declared.Count.{Count}
use Rattle.desk_replica.specs.declared.Refusal.{Refusal}
use Rattle.desk_replica.specs.declared.Refusal.TheVariants as refusals
use Rattle.desk_replica.specs.declared.Took.{Took}
use Rattle.desk_replica.specs.State.{State}
use Rattle.desk_replica.specs.Edits.{insert_refusal, delete_refusal, set_refusal, IsInserted, IsDeleted, IsSetTo}
use Rattle.desk_replica.specs.Calls.{Call, Insert, Delete, Set, Take, TakeAll, Merge, Reserve, Site, Length, HasAll, Text, Letters, Settings, Faults, Order, Range, Feed, Answer, Edited, Taken, Joined, Reserved, Symbols, CopyFaults, Operations, Bytes, IsEdited, IsTaken, IsJoined, IsAnswer, IsRead, Allows, Runs, HasMemory}
use Rattle.desk_replica.specs.Laws.{OneRun}
use Rattle.desk_replica.proofs.Sets.{grows_all, too_many}

-- ---- where two lists stop

-- where the next is not held, a longer part of the list has more
more : (h : OpSet) (ops : List Op) (i j : ℕ) → i < j → i < length ops → ((d : Op) → has_op (with_all h (take i ops)) (get_or ops i d) ≡ false) → size (with_all h (take i ops)) < size (with_all h (take j ops))
more h [] i j lt within next = absurd (omega arith)
more h (o ∷ ops) i zero lt within next = absurd (omega arith)
more h (o ∷ ops) zero (suc j) lt within next =
    let one : size (with_op h o) ≡ size h + 1 = size-with_op h o ∙ ap (λ b. cond b (size h) (size h + 1)) (next o) in
    let rest : size (with_op h o) ≤ size (with_all (with_op h o) (take j ops)) = grows_all (with_op h o) (take j ops) in
    omega (arith, one, rest)
more h (o ∷ ops) (suc i) (suc j) lt within next = more (with_op h o) ops i j (omega (arith, lt)) (omega (arith, within)) next

not_before : (h u v : OpSet) (ops : List Op) (s t : Stopped) → IsStopped h u ops s → IsStopped h v ops t → s.why ≡ adds.Full → t.why ≡ adds.Full → s.taken < t.taken → ⊥
not_before h u v ops s t a b full other lt =
    let k : size (with_all h (take s.taken ops)) < size (with_all h (take t.taken ops)) = more h ops s.taken t.taken lt a.within (λ d. ap (λ (g : OpSet). has_op g (get_or ops s.taken d)) (sym a.gained) ∙ a.next d) in
    let m : size u ≡ size (with_all h (take s.taken ops)) = ap size a.gained in
    let n : size v ≡ size (with_all h (take t.taken ops)) = ap size b.gained in
    let p : size u ≡ max_ops = a.full.0 full in
    let q : size v ≡ max_ops = b.full.0 other in
    absurd (omega (arith, k, m, n, p, q))

one_place : (h u v : OpSet) (ops : List Op) (s t : Stopped) → IsStopped h u ops s → IsStopped h v ops t → s.why ≡ adds.Full → t.why ≡ adds.Full → s.taken ≡ t.taken
one_place h u v ops s t a b full other = go (cases_order s.taken t.taken)
  where
    go : (s.taken ≡ t.taken) ⊎ ((s.taken < t.taken) ⊎ (t.taken < s.taken)) → s.taken ≡ t.taken
    go (inl e) = e
    go (inr (inl lt)) = absurd (not_before h u v ops s t a b full other lt)
    go (inr (inr lt)) = absurd (not_before h v u ops t s b a other full lt)

full_only : (why : AddRefusal) → (why ≡ adds.NoMemory → ⊥) → why ≡ adds.Full
full_only adds.Full never = refl
full_only adds.NoMemory never = absurd (never refl)

one_stop : (s t : Stopped) → s.taken ≡ t.taken → s.why ≡ t.why → s ≡ t
one_stop s t e f = ap (λ (n : ℕ). record { taken = n; why = s.why }) e ∙ ap (λ (w : AddRefusal). record { taken = t.taken; why = w }) f

one_count : (c d : Count) → c.new ≡ d.new → c.known ≡ d.known → c ≡ d
one_count c d e f = ap (λ (n : ℕ). record { new = n; known = c.known }) e ∙ ap (λ (n : ℕ). record { new = d.new; known = n }) f

-- ---- one call

abbrev Same : {X : Type 0} → X → X → State → State → Type 0
Same {X} x y u v = (x ≡ y) × ((u.site ≡ v.site) × (u.ops ≡ v.ops))

no_cause : (c : Option Refusal) (e : Refusal) → c ≡ None → c ≡ Some e → ⊥
no_cause c e none some = true≢false (ap is_some (sym some ∙ none))

cause_or : Refusal → Option Refusal → Refusal
cause_or d None = d
cause_or d (Some e) = e

one_cause : (c : Option Refusal) (e f : Refusal) → c ≡ Some e → c ≡ Some f → e ≡ f
unfolding cause_or
one_cause c e f a b = ap (cause_or e) (sym a ∙ b)

one_edit : (s t u v : State) (c : Option Refusal) (M N : Op → Type 0) → s.site ≡ t.site → s.ops ≡ t.ops → ((o p : Op) → M o → N p → (o ≡ p) × (u.ops ≡ v.ops))
    → (r q : Result Op Refusal) → IsEdited s u c M r → IsEdited t v c N q → IfErr r (λ e. e ≡ refusals.NoMemory → ⊥) → IfErr q (λ e. e ≡ refusals.NoMemory → ⊥) → Same r q u v
one_edit s t u v c M N site ops made (Ok o) (Ok p) a b x y = let k = made o p a.made b.made in (ap Ok k.0, (a.site ∙ site ∙ sym b.site, k.1))
one_edit s t u v c M N site ops made (Ok o) (Err f) a b x y = absurd (go b.refused)
  where
    go : (f ≡ refusals.NoMemory) ⊎ (c ≡ Some f) → ⊥
    go (inl e) = y e
    go (inr e) = no_cause c f a.allowed e
one_edit s t u v c M N site ops made (Err e) (Ok p) a b x y = absurd (go a.refused)
  where
    go : (e ≡ refusals.NoMemory) ⊎ (c ≡ Some e) → ⊥
    go (inl k) = x k
    go (inr k) = no_cause c e b.allowed k
one_edit s t u v c M N site ops made (Err e) (Err f) a b x y = (ap Err (go a.refused b.refused), (a.site ∙ site ∙ sym b.site, a.same ∙ ops ∙ sym b.same))
  where
    go : (e ≡ refusals.NoMemory) ⊎ (c ≡ Some e) → (f ≡ refusals.NoMemory) ⊎ (c ≡ Some f) → e ≡ f
    go (inl k) l = absurd (x k)
    go (inr k) (inl l) = absurd (y l)
    go (inr k) (inr l) = one_cause c e f k l

full_taken : (e : Refusal) → (e ≡ refusals.Full) ⊎ (e ≡ refusals.NoMemory) → (e ≡ refusals.NoMemory → ⊥) → e ≡ refusals.Full
full_taken e (inl k) never = k
full_taken e (inr k) never = absurd (never k)

-- two replicas of one site and set, whatever their room
module _ (site : ℕ) (ops : OpSet) (spare left : ℕ) (u v : State) where
  abbrev s : State
  s = record { site = site; ops = ops; spare = spare }

  abbrev t : State
  t = record { site = site; ops = ops; spare = left }

  one_take : (op : Op) (r q : Result Took Refusal) → IsTaken s u op r → IsTaken t v op q → IfErr r (λ e. e ≡ refusals.NoMemory → ⊥) → IfErr q (λ e. e ≡ refusals.NoMemory → ⊥) → Same r q u v
  one_take op (Ok o) (Ok p) a b x y = (ap Ok (a.took ∙ sym b.took), (a.site ∙ sym b.site, a.ok ∙ sym b.ok))
  one_take op (Ok o) (Err f) a b x y = absurd (true≢false (ap is_ok (a.full.1 (b.full.0 (ap Err (full_taken f b.causes y))))))
  one_take op (Err e) (Ok p) a b x y = absurd (true≢false (ap is_ok (b.full.1 (a.full.0 (ap Err (full_taken e a.causes x))))))
  one_take op (Err e) (Err f) a b x y = (ap Err (full_taken e a.causes x ∙ sym (full_taken f b.causes y)), (a.site ∙ sym b.site, a.err ∙ sym b.err))

  one_join : (list : List Op) (r q : Result Count Stopped) → IsJoined s u list r → IsJoined t v list q → IfErr r (λ z. z.why ≡ adds.NoMemory → ⊥) → IfErr q (λ z. z.why ≡ adds.NoMemory → ⊥) → Same r q u v
  one_join list (Ok c) (Ok d) a b x y =
      let same : u.ops ≡ v.ops = a.ok ∙ sym b.ok in
      let n : size u.ops ≡ size v.ops = ap size same in
      let k : c.new ≡ d.new = let e = a.counts.news in let f = b.counts.news in omega (arith, e, f, n) in
      let l : c.known ≡ d.known = let e = a.counts.all in let f = b.counts.all in omega (arith, e, f, k) in
      (ap Ok (one_count c d k l), (a.site ∙ sym b.site, same))
  one_join list (Ok c) (Err z) a b x y =
      let k = too_many ops v.ops list z b.stopped (full_only z.why y) in let w = a.within in let n : size u.ops ≡ size (with_all ops list) = ap size a.ok in absurd (omega (arith, k, w, n))
  one_join list (Err z) (Ok d) a b x y =
      let k = too_many ops u.ops list z a.stopped (full_only z.why x) in let w = b.within in let n : size v.ops ≡ size (with_all ops list) = ap size b.ok in absurd (omega (arith, k, w, n))
  one_join list (Err z) (Err w) a b x y =
      let e = full_only z.why x in
      let f = full_only w.why y in
      let n : z.taken ≡ w.taken = one_place ops u.ops v.ops list z w a.stopped b.stopped e f in
      (ap Err (one_stop z w n (e ∙ sym f)), (a.site ∙ sym b.site, a.stopped.gained ∙ ap (λ (k : ℕ). with_all ops (take k list)) n ∙ sym b.stopped.gained))

  -- the state is left as it is
  stays : u ≡ s → v ≡ t → (u.site ≡ v.site) × (u.ops ≡ v.ops)
  stays e f = (ap (λ (w : State). w.site) e ∙ sym (ap (λ (w : State). w.site) f), ap (λ (w : State). w.ops) e ∙ sym (ap (λ (w : State). w.ops) f))

  -- of a call that answers with a result
  by_result : {X : Type 0} (answered : X → Answer) (P Q : X → Type 0) (a b : Answer) → ((r q : X) → P r → Q q → HasMemory (answered r) → HasMemory (answered q) → Same r q u v)
      → IsAnswer answered P a → IsAnswer answered Q b → HasMemory a → HasMemory b → Same a b u v
  by_result {X} answered P Q a b one x y m n =
      let k = one x.0 y.0 x.2 y.2 (subst HasMemory x.1 m) (subst HasMemory y.1 n) in
      (x.1 ∙ ap answered k.0 ∙ sym y.1, k.1)

  one_value : {X : Type 0} (value : X) (r q : Result X NoMemory) → IfOk r (λ x. x ≡ value) → IfOk q (λ x. x ≡ value) → IsOk r → IsOk q → r ≡ q
  one_value {X} value (Ok x) (Ok y) a b m n = ap Ok (a ∙ sym b)
  one_value {X} value (Ok x) (Err f) a b m n = absurd (true≢false (sym n))
  one_value {X} value (Err e) q a b m n = absurd (true≢false (sym m))

  by_value : {X : Type 0} (answered : Result X NoMemory → Answer) (value : X) (a b : Answer) → ((r : Result X NoMemory) → HasMemory (answered r) → IsOk r)
      → IsRead s u answered value a → IsRead t v answered value b → HasMemory a → HasMemory b → Same a b u v
  by_value {X} answered value a b ok x y m n =
      by_result answered (λ r. IfOk r (λ z. z ≡ value)) (λ r. IfOk r (λ z. z ≡ value)) a b
      (λ r q i j k l. (one_value value r q i j (ok r k) (ok q l), stays x.0 y.0)) x.1 y.1 m n

  one_ok : (r q : Result ⊤ NoMemory) → IsOk r → IsOk q → r ≡ q
  one_ok (Ok x) (Ok y) m n = refl
  one_ok (Ok x) (Err f) m n = absurd (true≢false (sym n))
  one_ok (Err e) q m n = absurd (true≢false (sym m))

  one_call : (call : Call) (a b : Answer) → Allows s call a u → Allows t call b v → HasMemory a → HasMemory b → Same a b u v
  one_call (Insert place symbol) a b x y m n =
      by_result Edited (IsEdited s u (insert_refusal ops place symbol) (IsInserted s u place symbol)) (IsEdited t v (insert_refusal ops place symbol) (IsInserted t v place symbol)) a b
      (one_edit s t u v (insert_refusal ops place symbol) (IsInserted s u place symbol) (IsInserted t v place symbol) refl refl
      (λ o p i j. (i.is ∙ sym j.is, i.gained ∙ ap (with_op ops) (i.is ∙ sym j.is) ∙ sym j.gained))) x y m n
  one_call (Delete place) a b x y m n =
      by_result Edited (IsEdited s u (delete_refusal ops place) (IsDeleted s u place)) (IsEdited t v (delete_refusal ops place) (IsDeleted t v place)) a b
      (one_edit s t u v (delete_refusal ops place) (IsDeleted s u place) (IsDeleted t v place) refl refl
      (λ o p i j. (i.is ∙ sym j.is, i.gained ∙ ap (with_op ops) (i.is ∙ sym j.is) ∙ sym j.gained))) x y m n
  one_call (Set key value) a b x y m n =
      by_result Edited (IsEdited s u (set_refusal ops key value) (IsSetTo s u key value)) (IsEdited t v (set_refusal ops key value) (IsSetTo t v key value)) a b
      (one_edit s t u v (set_refusal ops key value) (IsSetTo s u key value) (IsSetTo t v key value) refl refl
      (λ o p i j. (i.is ∙ sym j.is, i.gained ∙ ap (with_op ops) (i.is ∙ sym j.is) ∙ sym j.gained))) x y m n
  one_call (Take op) a b x y m n = by_result Taken (IsTaken s u op) (IsTaken t v op) a b (one_take op) x y m n
  one_call (TakeAll list) a b x y m n = by_result Joined (IsJoined s u list) (IsJoined t v list) a b (one_join list) x y m n
  one_call (Merge other) a b x y m n = by_result Joined (IsJoined s u (in_order other)) (IsJoined t v (in_order other)) a b (one_join (in_order other)) x y m n
  one_call (Reserve k) a b x y m n =
      by_result Reserved (λ r. (u.site ≡ site) × (u.ops ≡ ops)) (λ r. (v.site ≡ site) × (v.ops ≡ ops)) a b
      (λ r q i j o p. (one_ok r q o p, (i.0 ∙ sym j.0, i.1 ∙ sym j.1))) x y m n
  one_call Site a b x y m n = (x.1 ∙ sym y.1, stays x.0 y.0)
  one_call Length a b x y m n = (x.1 ∙ sym y.1, stays x.0 y.0)
  one_call (HasAll list) a b x y m n = (x.1 ∙ sym y.1, stays x.0 y.0)
  one_call Text a b x y m n = by_value Symbols _ a b (λ r k. k) x y m n
  one_call Letters a b x y m n = (x.1 ∙ sym y.1, stays x.0 y.0)
  one_call Settings a b x y m n = (x.1 ∙ sym y.1, stays x.0 y.0)
  one_call Faults a b x y m n = by_value CopyFaults _ a b (λ r k. k) x y m n
  one_call Order a b x y m n = by_value Operations _ a b (λ r k. k) x y m n
  one_call (Range from until) a b x y m n = by_value Operations _ a b (λ r k. k) x y m n
  one_call Feed a b x y m n = by_value Bytes _ a b (λ r k. k) x y m n

-- ---- lists of calls

abbrev with_site_and_ops : ℕ → OpSet → ℕ → State
with_site_and_ops site ops spare = record { site = site; ops = ops; spare = spare }

alike : (p q u v : State) (calls : List Call) (answers others : List Answer) → p.site ≡ q.site → p.ops ≡ q.ops → Runs p calls answers u → Runs q calls others v → AllByRecursion HasMemory answers → AllByRecursion HasMemory others
    → Same answers others u v
alike p q u v [] [] [] site ops x y m n = (refl, (ap (λ (w : State). w.site) x ∙ site ∙ sym (ap (λ (w : State). w.site) y), ap (λ (w : State). w.ops) x ∙ ops ∙ sym (ap (λ (w : State). w.ops) y)))
alike p q u v [] (a ∷ answers) others site ops x y m n = absurd x
alike p q u v [] [] (b ∷ others) site ops x y m n = absurd y
alike p q u v (call ∷ calls) [] others site ops x y m n = absurd x
alike p q u v (call ∷ calls) (a ∷ answers) [] site ops x y m n = absurd y
alike p q u v (call ∷ calls) (a ∷ answers) (b ∷ others) site ops x y m n =
    let there : Allows (with_site_and_ops p.site p.ops q.spare) call b y.0 =
    subst (λ (k : ℕ). Allows (with_site_and_ops k p.ops q.spare) call b y.0) (sym site) (subst (λ (h : OpSet). Allows (with_site_and_ops q.site h q.spare) call b y.0) (sym ops) y.1) in
    let one = one_call p.site p.ops p.spare q.spare x.0 y.0 call a b x.1 there m.0 n.0 in
    let rest = alike x.0 y.0 u v calls answers others one.1.0 one.1.1 x.2 y.2 m.1 n.1 in
    (ap (λ (c : Answer). c ∷ answers) one.0 ∙ ap (λ (l : List Answer). b ∷ l) rest.0, rest.1)

pub one_run : OneRun
one_run = record { alike = alike }
