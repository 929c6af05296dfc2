-- The chain of inserts that a run is, and the marks of what is written.
use Rattle.std.proofs.Common.{◌≡◌, ℕ, zero, suc, ◌+◌, ◌-◌, ◌<◌, ◌≤◌, ◌⊎◌, inl, inr, Bool, true, false, ◌||◌, cond, List, [], ◌∷◌, ◌++◌, length, get_or, refl, sym, ap, subst, ◌∙◌, arith, append_assoc, length-append, get_or-set_other, get_or-set_same}
use Rattle.std.specs.Prelude.{T, Option, Some, None}
use Rattle.std.specs.Ordering.{eq_by_cmp}
use Rattle.std.proofs.Math.ListN.{set, length-set}
use Rattle.std.proofs.lemmas.Bool.{cases_lt, cases_eq}
use Rattle.std.proofs.Math.Bool.{or-true, or-false}
use Rattle.desk_ops.specs.declared.op.Stamp.{Stamp}
use Rattle.desk_ops.specs.declared.op.Symbol.{Symbol}
use Rattle.desk_ops.specs.declared.op.Op.{Op}
use Rattle.desk_ops.specs.declared.op.Op.TheVariants.{Insert, Delete, Set}
use Rattle.desk_ops.specs.Op.{stamp_of, Insertion, insertion}
use Rattle.desk_ops.specs.Order.{op_cmp}
use Rattle.desk_ops.specs.OpSet.{is_rising}
use Rattle.desk_ops.specs.Held.{bears, bearing, sole}
use Rattle.desk_ops.specs.Stamp.{same, before}
use Rattle.desk_ops.specs.Lists.{Among}
use Rattle.desk_ops.proofs.Stamps.{by_cases, same-true, same-refl, before_true}
use Rattle.desk_ops.proofs.Means.{among-any, any-among}
use Rattle.desk_ops.proofs.Lists.{among-filter}
use Rattle.desk_ops.proofs.OpSets.{less-apart}
use Rattle.desk_ops.proofs.Unions.{or-group}
use Rattle.desk_codec.specs.Items.{One, next_stamp, run_ops, item_ops}
use Rattle.desk_codec.specs.Runs.{insert_in, clear_insert, child_of, next_insert, chain, item_of, item_at, is_among}
use Rattle.desk_codec.specs.RunSteps.{IsAt, IsNextAt, MarksAlso}
use Rattle.desk_codec.proofs.RunPlaces.{less-at}

-- ---- the next insert

pub before-next : (s t : Stamp) → t ≡ s → before t (next_stamp s) ≡ true
before-next s t e = ap (λ (u : Stamp). before u (next_stamp s)) e ∙ before_true s (next_stamp s) (inl (omega arith))

sole-among : (os : List Op) (o : Op) → Some o ≡ sole os → Among o os
sole-among [] o e = absurd cc
sole-among (p ∷ []) o e = inl (cc)
sole-among (p ∷ q ∷ os) o e = absurd cc

-- the sole bearer of a stamp bears it, and is one of the operations
pub sole-bears : (ops : List Op) (s : Stamp) (o : Op) → Some o ≡ sole (bearing ops s) → Among o ops × (stamp_of o ≡ s)
sole-bears ops s o e = let q = among-filter (bears s) ops o (sole-among (bearing ops s) o e) in (q.0, same-true (stamp_of o) s q.1)

pub next-found : (ops : List Op) (s : Stamp) (place : ℕ) (o : Op) (f p : Stamp) (y : Symbol) → o ≡ Insert f p y → Some o ≡ sole (bearing ops (next_stamp s)) → same p s ≡ true → IsAt ops place o → IsNextAt ops s place y
next-found ops s place o f p y insert e same_parent at =
    let stamps : f ≡ next_stamp s = ap stamp_of (sym insert) ∙ (sole-bears ops (next_stamp s) o e).1 in
    let parents : p ≡ s = same-true p s same_parent in
    let is : o ≡ Insert (next_stamp s) s y = insert ∙ ap (λ (t : Stamp). Insert t p y) stamps ∙ ap (λ (t : Stamp). Insert (next_stamp s) t y) parents in
    record {
      there = subst (IsAt ops place) is at;
      next = ap (λ o. child_of s (insert_in o)) (sym e ∙ ap Some is) ∙ ap (λ b. cond b (Some (record { stamp = next_stamp s; parent = s; symbol = y })) None) (same-refl s);
    }

-- ---- chains

pub chain-none : (n : ℕ) (ops : List Op) → chain n ops None ≡ []
unfolding chain
chain-none zero ops = refl
chain-none (suc n) ops = refl

pub chain-some : (n : ℕ) (ops : List Op) (x : Insertion) → chain (suc n) ops (Some x) ≡ x.symbol ∷ chain n ops (next_insert ops x.stamp)
unfolding chain
chain-some n ops x = refl

-- one more of the inserts that follow
pub chain-more : (ops : List Op) (ys : List Symbol) (s : Stamp) (place : ℕ) (y : Symbol) → length ys < 64 → IsNextAt ops s place y → (ys ++ y ∷ []) ++ chain (64 - length (ys ++ y ∷ [])) ops (next_insert ops (next_stamp s)) ≡ ys ++ chain (64 - length ys) ops (next_insert ops s)
chain-more ops ys s place y lt h =
    let more : length (ys ++ y ∷ []) ≡ length ys + 1 = length-append ys (y ∷ []) in
    let left : 64 - length ys ≡ suc (64 - length (ys ++ y ∷ [])) = omega arith in
    append_assoc ys (y ∷ []) (chain (64 - length (ys ++ y ∷ [])) ops (next_insert ops (next_stamp s)))
    ∙ ap (λ (l : List Symbol). ys ++ l) (sym (ap (λ n. chain n ops (next_insert ops s)) left ∙ ap (chain (suc (64 - length (ys ++ y ∷ []))) ops) h.next ∙ chain-some (64 - length (ys ++ y ∷ [])) ops (record { stamp = next_stamp s; parent = s; symbol = y })))

-- nothing follows any more
pub chain-last : (ops : List Op) (ys : List Symbol) (s : Stamp) → next_insert ops s ≡ None → ys ++ chain (64 - length ys) ops (next_insert ops s) ≡ ys
chain-last ops ys s none = ap (λ x. ys ++ chain (64 - length ys) ops x) none ∙ ap (λ (l : List Symbol). ys ++ l) (chain-none (64 - length ys) ops) ∙ nil ys
  where
    nil : (zs : List Symbol) → zs ++ [] ≡ zs
    nil [] = refl
    nil (z ∷ zs) = ap (λ (l : List Symbol). z ∷ l) (nil zs)

pub chain-full : (ops : List Op) (ys : List Symbol) (s : Stamp) → 64 ≤ length ys → ys ++ chain (64 - length ys) ops (next_insert ops s) ≡ ys
unfolding chain
chain-full ops ys s full = let none : 64 - length ys ≡ 0 = omega arith in ap (λ n. ys ++ chain n ops (next_insert ops s)) none ∙ nil ys
  where
    nil : (zs : List Symbol) → zs ++ [] ≡ zs
    nil [] = refl
    nil (z ∷ zs) = ap (λ (l : List Symbol). z ∷ l) (nil zs)

-- ---- runs

-- one more insert at the end of a run
pub run_ops-push : (s p b : Stamp) (ys : List Symbol) (y : Symbol) → 0 < length ys → b.counter + 1 ≡ s.counter + length ys → b.site ≡ s.site → run_ops s p (ys ++ y ∷ []) ≡ run_ops s p ys ++ Insert (next_stamp b) b y ∷ []
run_ops-push s p b [] y some e f = absurd (omega arith)
run_ops-push s p b (z ∷ []) y some e f =
    let c : b.counter ≡ s.counter = omega arith in
    let is : s ≡ b = ap (λ (n : ℕ). let t : Stamp = record { counter = n; site = s.site } in t) (sym c) ∙ ap (λ (n : ℕ). let t : Stamp = record { counter = b.counter; site = n } in t) (sym f) in
    ap (λ (t : Stamp). Insert s p z ∷ Insert (next_stamp t) t y ∷ []) is
run_ops-push s p b (z ∷ w ∷ ys) y some e f = ap (λ (l : List Op). Insert s p z ∷ l) (run_ops-push (next_stamp s) s b (w ∷ ys) y (omega arith) (omega arith) f)

-- the operations of the item that an insert with its followers is
pub item-ops : (s p : Stamp) (y : Symbol) (ys : List Symbol) → item_ops (item_of (Insert s p y) (y ∷ ys)) ≡ run_ops s p (y ∷ ys)
item-ops s p y [] = refl
item-ops s p y (z ∷ ys) = refl

-- ---- marks

pub among-end : (os : List Op) (o : Op) → Among o (os ++ o ∷ [])
among-end [] o = inl refl
among-end (p ∷ os) o = inr (among-end os o)

pub is_among-append : (q : Op) (os ps : List Op) → is_among q (os ++ ps) ≡ (is_among q os || is_among q ps)
is_among-append q [] ps = refl
is_among-append q (o ∷ os) ps = ap (λ b. eq_by_cmp op_cmp q o || b) (is_among-append q os ps) ∙ sym (or-group (eq_by_cmp op_cmp q o) (is_among q os) (is_among q ps))

pub not-among : (q o : Op) → (q ≡ o → ⊥) → is_among q (o ∷ []) ≡ false
not-among q o n = by_cases (is_among q (o ∷ [])) (λ e. absurd (go (any-among q (o ∷ []) e))) (λ e. e)
  where
    go : Among q (o ∷ []) → ⊥
    go (inl e) = n (sym e)
    go (inr m) = absurd m

-- two places have two operations
pub apart : (ops : List Op) → T (is_rising ops) → (i k : ℕ) (o d : Op) → IsAt ops i o → k < length ops → (k ≡ i → ⊥) → get_or ops k d ≡ o → ⊥
apart ops rising i k o d at lt ne e = go (cases_lt i k)
  where
    go : (i < k) ⊎ (k ≤ i) → ⊥
    go (inl l) = less-apart (get_or ops i d) (get_or ops k d) (less-at ops rising i k d l lt) (at.is d ∙ sym e)
    go (inr l) = let w = at.within in less-apart (get_or ops k d) (get_or ops i d) (less-at ops rising k i d (omega arith) w) (e ∙ sym (at.is d))

-- nothing more is marked
pub marks-none : (ops : List Op) (marks : List Bool) → MarksAlso ops marks marks []
marks-none ops marks = record { size = refl; each = λ k d lt. sym (or-false (get_or marks k false)) }

-- one more place is marked
pub marks-more : (ops : List Op) → T (is_rising ops) → (old marks : List Bool) (more : List Op) (i : ℕ) (o : Op) → length old ≡ length ops → IsAt ops i o → MarksAlso ops old marks more → MarksAlso ops old (set marks i true) (more ++ o ∷ [])
marks-more ops rising old marks more i o size at h = record {
  size = length-set marks i true ∙ h.size;
  each = λ k d lt. go k d lt (cases_eq k i);
}
  where
    go : (k : ℕ) (d : Op) → k < length ops → (k ≡ i) ⊎ (k ≡ i → ⊥) → get_or (set marks i true) k false ≡ (get_or old k false || is_among (get_or ops k d) (more ++ o ∷ []))
    go k d lt (inl e) =
        let w : i < length marks = let s = h.size in let v = at.within in omega arith in
        let is : get_or ops k d ≡ o = ap (λ n. get_or ops n d) e ∙ at.is d in
        let reported : is_among (get_or ops k d) (more ++ o ∷ []) ≡ true = ap (λ (q : Op). is_among q (more ++ o ∷ [])) is ∙ among-any o (more ++ o ∷ []) (among-end more o) in
        ap (λ n. get_or (set marks i true) n false) e ∙ get_or-set_same marks i true false w ∙ sym (ap (λ b. get_or old k false || b) reported ∙ or-true (get_or old k false))
    go k d lt (inr n) =
        get_or-set_other marks i k true false n ∙ h.each k d lt
        ∙ ap (λ b. get_or old k false || b) (sym (is_among-append (get_or ops k d) more (o ∷ []) ∙ ap (λ b. is_among (get_or ops k d) more || b) (not-among (get_or ops k d) o (apart ops rising i k o d at lt n)) ∙ or-false (is_among (get_or ops k d) more)))

-- ---- the item at a place

pub item-at : (ops : List Op) (op : Op) (first : Option Insertion) → clear_insert ops (stamp_of op) ≡ first → item_at ops op ≡ item_of op (chain 64 ops first)
unfolding item_at
item-at ops op first e = ap (λ x. item_of op (chain 64 ops x)) e

-- what is no clear insert stands alone
pub item-alone : (ops : List Op) (op : Op) → clear_insert ops (stamp_of op) ≡ None → item_at ops op ≡ One op
item-alone ops op e = item-at ops op None e ∙ ap (item_of op) (chain-none 64 ops)

-- a clear insert and its followers
pub item-run : (ops : List Op) (s p : Stamp) (y : Symbol) → sole (bearing ops s) ≡ Some (Insert s p y) → item_at ops (Insert s p y) ≡ item_of (Insert s p y) (y ∷ chain 63 ops (next_insert ops s))
item-run ops s p y e =
    item-at ops (Insert s p y) (Some (record { stamp = s; parent = p; symbol = y })) (ap insert_in e)
    ∙ ap (item_of (Insert s p y)) (chain-some 63 ops (record { stamp = s; parent = p; symbol = y }))

-- the list of symbols that is taken at a clear insert
module _ (ops : List Op) (op : Op) (s p : Stamp) (y : Symbol) (rest zs : List Symbol) (is : op ≡ Insert s p y) (list : zs ≡ y ∷ rest) where
  pub run-taken : (b : Bool) → sole (bearing ops (stamp_of op)) ≡ cond b (Some op) None → b ≡ true → rest ≡ chain 63 ops (next_insert ops s) → item_at ops op ≡ item_of op zs
  run-taken b reported clear follows =
      let one : sole (bearing ops s) ≡ Some (Insert s p y) = ap (λ (o : Op). sole (bearing ops (stamp_of o))) (sym is) ∙ reported ∙ ap (λ (v : Bool). cond v (Some op) None) clear ∙ ap Some is in
      ap (item_at ops) is ∙ item-run ops s p y one ∙ ap (λ (l : List Symbol). item_of (Insert s p y) (y ∷ l)) (sym follows) ∙ ap (item_of (Insert s p y)) (sym list) ∙ ap (λ (o : Op). item_of o zs) (sym is)

  pub ops-taken : run_ops s p zs ≡ item_ops (item_of op zs)
  ops-taken = ap (run_ops s p) list ∙ sym (item-ops s p y rest) ∙ ap (λ (l : List Symbol). item_ops (item_of (Insert s p y) l)) (sym list) ∙ ap (λ (o : Op). item_ops (item_of o zs)) (sym is)

no-insertion : (op : Op) → ((s p : Stamp) (y : Symbol) → op ≡ Insert s p y → ⊥) → insertion op ≡ None
no-insertion (Insert s p y) n = absurd (n s p y refl)
no-insertion (Delete s t) n = refl
no-insertion (Set s k v) n = refl

-- no list is taken elsewhere
pub other-taken : (ops : List Op) (op : Op) (b : Bool) (zs : List Symbol) → zs ≡ [] → sole (bearing ops (stamp_of op)) ≡ cond b (Some op) None → ((s p : Stamp) (y : Symbol) → op ≡ Insert s p y → ⊥) → item_at ops op ≡ item_of op zs
other-taken ops op b zs none reported other = item-alone ops op (ap insert_in reported ∙ nothing b) ∙ ap (item_of op) (sym none)
  where
    nothing : (v : Bool) → insert_in (cond v (Some op) None) ≡ None
    nothing true = no-insertion op other
    nothing false = refl

pub forked-taken : (ops : List Op) (op : Op) (b : Bool) (zs : List Symbol) → zs ≡ [] → sole (bearing ops (stamp_of op)) ≡ cond b (Some op) None → b ≡ false → item_at ops op ≡ item_of op zs
forked-taken ops op b zs none reported forked = item-alone ops op (ap insert_in (reported ∙ ap (λ (v : Bool). cond v (Some op) None) forked)) ∙ ap (item_of op) (sym none)
