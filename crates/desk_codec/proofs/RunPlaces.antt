-- Where the bearers of a stamp stand among operations that rise.
use Rattle.std.proofs.Common.{◌≡◌, ℕ, zero, suc, ◌+◌, ◌-◌, ◌<◌, ◌≤◌, ◌⊎◌, inl, inr, Bool, true, false, cond, All, List, [], ◌∷◌, length, take, drop, get_or, refl, sym, ap, subst, ◌∙◌, arith}
use Rattle.std.specs.Prelude.{T, Some, None}
use Rattle.std.specs.declared.cmp.Ordering.TheVariants.{Less}
use Rattle.std.proofs.Math.Nat.{eq-or-lt_of_le}
use Rattle.std.proofs.lemmas.Bool.{true≢false, cases_lt}
use Rattle.std.proofs.lemmas.List.{take-append-drop, get_or_default, drop_all, drop_more}
use Rattle.std.proofs.lemmas.List.Elements.{recursion_from_All}
use Rattle.desk_ops.specs.declared.op.Stamp.{Stamp}
use Rattle.desk_ops.specs.declared.op.Op.{Op}
use Rattle.desk_ops.specs.declared.op.Op.TheVariants.{Insert, Delete, Set}
use Rattle.desk_ops.specs.Op.{stamp_of, IsLawful}
use Rattle.desk_ops.specs.Order.{op_cmp}
use Rattle.desk_ops.specs.OpSet.{is_rising}
use Rattle.desk_ops.specs.Held.{bears, bearing, is_more, sole}
use Rattle.desk_ops.specs.Stamp.{same, before, max_counter}
use Rattle.desk_ops.specs.Lists.{Among}
use Rattle.desk_ops.proofs.Stamps.{by_cases, same-true, same-refl, same-symm, before-other, before-squeeze}
use Rattle.desk_ops.proofs.OpSets.{rising_less, rising-drop, less-apart}
use Rattle.desk_ops.proofs.Lists.{Each, among-filter_from, each-at, among-at}
use Rattle.desk_ops.proofs.Tree.{filter-hit}
use Rattle.desk_ops.proofs.Joined.{more_from}
use Rattle.desk_ops.proofs.Bearers.{stamp_not_before, ordered_rising, bearing-older, bearing-first}
use Rattle.desk_codec.specs.RunSteps.{IsAt}

-- ---- places

pub at-among : (ops : List Op) (i : ℕ) (op : Op) → IsAt ops i op → Among op ops
at-among ops i op h = subst (λ (o : Op). Among o ops) (h.is op) (among-at ops i op h.within)

pub is_at : (ops : List Op) (i : ℕ) (d : Op) → i < length ops → IsAt ops i (get_or ops i d)
is_at ops i d lt = record { within = lt; is = λ e. get_or_default ops i e d lt }

-- whether an operation bears the stamp of the one at a place, by any stand-in for what lies outside
pub neighbour : (ops : List Op) (i j : ℕ) (op e f : Op) (a b : Stamp) (r : Bool) → IsAt ops i op → j < length ops → a ≡ stamp_of (get_or ops j e) → b ≡ stamp_of (get_or ops i f) → r ≡ same a b → (d : Op) → same (stamp_of (get_or ops j d)) (stamp_of op) ≡ r
neighbour ops i j op e f a b r h lt left right is d =
    ap (λ (o : Op). same (stamp_of o) (stamp_of op)) (get_or_default ops j d e lt)
    ∙ ap (λ (s : Stamp). same s (stamp_of op)) (sym left)
    ∙ ap (λ (o : Op). same a (stamp_of o)) (sym (h.is f))
    ∙ ap (λ (s : Stamp). same a s) (sym right)
    ∙ sym is

each-take : (P : Op → Type 0) (ops : List Op) (i : ℕ) → ((k : ℕ) (d : Op) → k < i → k < length ops → P (get_or ops k d)) → Each P (take i ops)
each-take P [] zero all = tt
each-take P [] (suc i) all = tt
each-take P (y ∷ ops) zero all = tt
each-take P (y ∷ ops) (suc i) all = (all 0 y (omega arith) (omega arith), each-take P ops i (λ k d low high. all (suc k) d (omega arith) (omega arith)))

-- the earlier of two with different stamps has the smaller one
stamp-before : (a b : Op) → op_cmp a b ≡ Less → same (stamp_of a) (stamp_of b) ≡ false → before (stamp_of a) (stamp_of b) ≡ true
stamp-before a b l n = before-other (stamp_of b) (stamp_of a) (stamp_not_before a b l) (same-symm (stamp_of b) (stamp_of a) ∙ n)

-- ---- bearers

sole-more : (os : List Op) → is_more os ≡ true → sole os ≡ None
sole-more [] e = absurd (true≢false (sym e))
sole-more (o ∷ []) e = absurd (true≢false (sym e))
sole-more (o ∷ p ∷ os) e = refl

-- of two that bear a stamp neither is its sole bearer
pub two-sole : (ops : List Op) (s : Stamp) (a b : Op) → Among a ops → Among b ops → same (stamp_of a) s ≡ true → same (stamp_of b) s ≡ true → op_cmp a b ≡ Less → sole (bearing ops s) ≡ None
two-sole ops s a b m n e f l = sole-more (bearing ops s) (more_from (bearing ops s) a b (among-filter_from (bears s) ops a m e) (among-filter_from (bears s) ops b n f) (less-apart a b l))

module _ (ops : List Op) (rising : T (is_rising ops)) where
  pub less-at : (i j : ℕ) (d : Op) → i < j → j < length ops → op_cmp (get_or ops i d) (get_or ops j d) ≡ Less
  less-at i j d l h = rising_less ops i j d rising l h

  -- all before a place are older than s where the last of them is
  older : (i : ℕ) (s : Stamp) → i ≤ length ops → ((d : Op) → 0 < i → before (stamp_of (get_or ops (i - 1) d)) s ≡ true) → bearing ops s ≡ bearing (drop i ops) s
  older i s le last = ap (λ (os : List Op). bearing os s) (sym (take-append-drop i ops)) ∙ bearing-older s (take i ops) (drop i ops) (each-take (λ o. before (stamp_of o) s ≡ true) ops i each)
    where
      each : (k : ℕ) (d : Op) → k < i → k < length ops → before (stamp_of (get_or ops k d)) s ≡ true
      each k d low high = go (eq-or-lt_of_le near)
        where
          near : k ≤ i - 1
          near = omega arith

          go : (k ≡ i - 1) ⊎ (k < i - 1) → before (stamp_of (get_or ops k d)) s ≡ true
          go (inl e) = ap (λ n. before (stamp_of (get_or ops n d)) s) e ∙ last d (omega arith)
          go (inr l) = by_cases (before (stamp_of (get_or ops k d)) s)
              (λ h. h)
              (λ h. absurd (true≢false (sym (before-squeeze (stamp_of (get_or ops (i - 1) d)) (stamp_of (get_or ops k d)) s (last d (omega arith)) h) ∙ stamp_not_before (get_or ops k d) (get_or ops (i - 1) d) (less-at k (i - 1) d l (omega arith)))))

  -- none from a place on bears s where the first of them is younger
  younger : (i : ℕ) (s : Stamp) → ((d : Op) → i < length ops → before (stamp_of (get_or ops i d)) s ≡ false) → ((d : Op) → i < length ops → same (stamp_of (get_or ops i d)) s ≡ false) → bearing (drop i ops) s ≡ []
  younger i s late other = go (cases_lt i (length ops))
    where
      go : (i < length ops) ⊎ (length ops ≤ i) → bearing (drop i ops) s ≡ []
      go (inr le) = ap (λ (os : List Op). bearing os s) (drop_all i ops le)
      go (inl lt) = at (first ops lt)
        where
          first : (os : List Op) → i < length os → Op
          first [] l = absurd (omega arith)
          first (o ∷ os) l = o

          at : Op → bearing (drop i ops) s ≡ []
          at d =
              let split : drop i ops ≡ get_or ops i d ∷ drop (i + 1) ops = drop_more ops i d lt in
              ap (λ (os : List Op). bearing os s) split
              ∙ bearing-first s (get_or ops i d) (drop (i + 1) ops) (ordered_rising (get_or ops i d ∷ drop (i + 1) ops) (subst (λ (os : List Op). T (is_rising os)) split (rising-drop ops i rising))) (late d lt) (other d lt)

  -- the place where a bearer of s would stand has none
  pub none-sole : (i : ℕ) (s : Stamp) → i ≤ length ops → ((d : Op) → 0 < i → before (stamp_of (get_or ops (i - 1) d)) s ≡ true) → ((d : Op) → i < length ops → before (stamp_of (get_or ops i d)) s ≡ false) → ((d : Op) → i < length ops → same (stamp_of (get_or ops i d)) s ≡ false) → sole (bearing ops s) ≡ None
  none-sole i s le last late other = ap sole (older i s le last ∙ younger i s late other)

  -- an operation whose neighbours bear other stamps
  pub alone-sole : (i : ℕ) (op : Op) → IsAt ops i op → ((d : Op) → 0 < i → same (stamp_of (get_or ops (i - 1) d)) (stamp_of op) ≡ false) → ((d : Op) → i + 1 < length ops → same (stamp_of (get_or ops (i + 1) d)) (stamp_of op) ≡ false) → sole (bearing ops (stamp_of op)) ≡ Some op
  alone-sole i op h left right =
      let s = stamp_of op in
      let lt : i < length ops = h.within in
      let split : drop i ops ≡ op ∷ drop (i + 1) ops = drop_more ops i op lt ∙ ap (λ (o : Op). o ∷ drop (i + 1) ops) (h.is op) in
      ap sole (older i s (omega arith) (λ d some. stamp-before (get_or ops (i - 1) d) op (subst (λ (o : Op). op_cmp (get_or ops (i - 1) d) o ≡ Less) (h.is d) (less-at (i - 1) i d (omega arith) lt)) (left d some))
      ∙ ap (λ (os : List Op). bearing os s) split
      ∙ filter-hit (bears s) op (drop (i + 1) ops) (same-refl s)
      ∙ ap (λ (os : List Op). op ∷ os) (younger (i + 1) s (λ d l. stamp_not_before op (get_or ops (i + 1) d) (subst (λ (o : Op). op_cmp o (get_or ops (i + 1) d) ≡ Less) (h.is d) (less-at i (i + 1) d (omega arith) l))) right))

  -- an operation beside another of its stamp
  pub left-sole : (i : ℕ) (op : Op) → IsAt ops i op → 0 < i → ((d : Op) → same (stamp_of (get_or ops (i - 1) d)) (stamp_of op) ≡ true) → sole (bearing ops (stamp_of op)) ≡ None
  left-sole i op h some e =
      let lt : i < length ops = h.within in
      two-sole ops (stamp_of op) (get_or ops (i - 1) op) op (among-at ops (i - 1) op (omega arith)) (at-among ops i op h) (e op) (same-refl (stamp_of op)) (subst (λ (o : Op). op_cmp (get_or ops (i - 1) op) o ≡ Less) (h.is op) (less-at (i - 1) i op (omega arith) lt))

  pub right-sole : (i : ℕ) (op : Op) → IsAt ops i op → i + 1 < length ops → ((d : Op) → same (stamp_of (get_or ops (i + 1) d)) (stamp_of op) ≡ true) → sole (bearing ops (stamp_of op)) ≡ None
  right-sole i op h more e =
      two-sole ops (stamp_of op) op (get_or ops (i + 1) op) (at-among ops i op h) (among-at ops (i + 1) op more) (same-refl (stamp_of op)) (e op) (subst (λ (o : Op). op_cmp o (get_or ops (i + 1) op) ≡ Less) (h.is op) (less-at i (i + 1) op (omega arith) more))

-- ---- what a place says

lawful-counter : (op : Op) → IsLawful op → (stamp_of op).counter ≤ max_counter
lawful-counter (Insert s p y) h = h.0.1
lawful-counter (Delete s t) h = h.0.1
lawful-counter (Set s k v) h = h.0.1

-- a counter that is borne has a next
pub small-counter : (ops : List Op) (i : ℕ) (s : Stamp) → All IsLawful ops → i < length ops → ((d : Op) → stamp_of (get_or ops i d) ≡ s) → s.counter < 9223372036854775808
small-counter ops i s lawful lt borne =
    let d : Op = Delete s s in
    let c : (stamp_of (get_or ops i d)).counter ≤ max_counter = lawful-counter (get_or ops i d) (each-at IsLawful ops i d (recursion_from_All IsLawful ops lawful) lt) in
    let e : (stamp_of (get_or ops i d)).counter ≡ s.counter = ap (λ (t : Stamp). t.counter) (borne d) in
    omega arith

bears-at : (ops : List Op) (i : ℕ) (e : Op) (s a : Stamp) (r : Bool) → i < length ops → a ≡ stamp_of (get_or ops i e) → r ≡ same a s → (d : Op) → same (stamp_of (get_or ops i d)) s ≡ r
bears-at ops i e s a r lt there is d = ap (λ (o : Op). same (stamp_of o) s) (get_or_default ops i d e lt) ∙ ap (λ (t : Stamp). same t s) (sym there) ∙ sym is

module _ (ops : List Op) (i : ℕ) (e : Op) (s a : Stamp) (r : Bool) (lt : i < length ops) (there : a ≡ stamp_of (get_or ops i e)) (is : r ≡ same a s) where
  pub another-at : r ≡ false → (d : Op) → same (stamp_of (get_or ops i d)) s ≡ false
  another-at f d = bears-at ops i e s a r lt there is d ∙ f

  sole-at : (b : Bool) → r ≡ true → ((op : Op) → IsAt ops i op → sole (bearing ops (stamp_of op)) ≡ cond b (Some op) None) → sole (bearing ops s) ≡ cond b (Some (get_or ops i e)) None
  sole-at b t reported = subst (λ (u : Stamp). sole (bearing ops u) ≡ cond b (Some (get_or ops i e)) None) (same-true (stamp_of (get_or ops i e)) s (bears-at ops i e s a r lt there is e ∙ t)) (reported (get_or ops i e) (is_at ops i e lt))

  -- the operation at the place, which bears s, is its sole bearer
  pub clear-at : (b : Bool) → r ≡ true → ((op : Op) → IsAt ops i op → sole (bearing ops (stamp_of op)) ≡ cond b (Some op) None) → b ≡ true → Some (get_or ops i e) ≡ sole (bearing ops s)
  clear-at b t reported is_true = sym (sole-at b t reported ∙ ap (λ (v : Bool). cond v (Some (get_or ops i e)) None) is_true)

  -- or is not
  pub forked-at : (b : Bool) → r ≡ true → ((op : Op) → IsAt ops i op → sole (bearing ops (stamp_of op)) ≡ cond b (Some op) None) → b ≡ false → None ≡ sole (bearing ops s)
  forked-at b t reported is_false = sym (sole-at b t reported ∙ ap (λ (v : Bool). cond v (Some (get_or ops i e)) None) is_false)
