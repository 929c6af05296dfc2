-- A feed of runs has the operations that it is written for, each once.
use Rattle.std.proofs.Common.{◌≡◌, ℕ, zero, suc, ◌+◌, ◌<◌, ◌≤◌, ◌⊎◌, inl, inr, Bool, true, false, cond, ◌||◌, map, List, [], ◌∷◌, ◌++◌, length, refl, sym, ap, subst, ◌∙◌, arith}
use Rattle.std.specs.Prelude.{T, Option, Some, None}
use Rattle.std.specs.List.{flat_map, list_any, AllByRecursion}
use Rattle.std.specs.FinMap as fin
use Rattle.std.specs.Ordering.{eq_by_cmp}
use Rattle.std.specs.List.Sorted.{IsPermutation}
use Rattle.std.specs.declared.cmp.Ordering.TheVariants.{Less}
use Rattle.std.proofs.lemmas.Bool.{true≢false}
use Rattle.std.proofs.lemmas.List.Concat.{flat_map-cons}
use Rattle.std.proofs.lemmas.List.Sorted.{IsPermutation-refl, IsPermutation-sym, IsPermutation-cons, IsPermutation-trans, IsPermutation-middle, list_any-IsPermutation}
use Rattle.std.proofs.Math.Bool.{or-false}
use Rattle.desk_ops.specs.declared.op.Stamp.{Stamp}
use Rattle.desk_ops.specs.declared.op.Symbol.{Symbol}
use Rattle.desk_ops.specs.declared.op.Op.{Op}
use Rattle.desk_ops.specs.declared.op.Op.TheVariants.{Insert, Delete, Set}
use Rattle.desk_ops.specs.Op.{stamp_of, Insertion}
use Rattle.desk_ops.specs.Order.{op_cmp}
use Rattle.desk_ops.specs.OpSet.{OpSet, no_ops, with_all, has_op, in_order, entries_of, is_rising}
use Rattle.desk_ops.proofs.OpSets.{none-held, less-apart}
use Rattle.desk_ops.proofs.Unions.{same-set, has_op-with_all}
use Rattle.desk_ops.specs.Held.{bears, bearing, sole}
use Rattle.desk_ops.specs.Stamp.{same}
use Rattle.desk_ops.specs.Lists.{Among}
use Rattle.desk_ops.proofs.Stamps.{by_cases, same-true, same-from}
use Rattle.desk_ops.proofs.Means.{IsOrdered, among-any, any-among}
use Rattle.desk_ops.proofs.Lists.{each-among, each-from_among, among-filter_from}
use Rattle.desk_ops.proofs.Bearers.{ordered_rising, counter_not_above}
use Rattle.desk_codec.specs.Items.{Item, next_stamp, run_ops, item_ops, item_spelling}
use Rattle.desk_codec.specs.declared.form.FeedForm.TheVariants.{Runs}
use Rattle.desk_codec.specs.Spelling.{IsHeld}
use Rattle.desk_codec.specs.Feed.{ops_in, Stands, IsFeed}
use Rattle.desk_codec.proofs.Grammar.{spells}
use Rattle.desk_codec.specs.Runs.{insert_in, clear_insert, child_of, next_insert, chain, item_of, item_at, is_among, items_from, items, runs_feed, runs_ops}
use Rattle.desk_codec.specs.RunLaws.{RunsAreRead}
use Rattle.desk_codec.proofs.RunChains.{sole-bears, item-at, chain-none, chain-some, item-ops}
use Rattle.desk_codec.proofs.RunSteps.{items-skip, items-take, items-end}

-- ---- lists without repetition

abbrev pub AreApart : List Op → Type 0
AreApart [] = Unit {0}
AreApart (o ∷ os) = (Among o os → ⊥) × AreApart os

among-append : (os ps : List Op) (q : Op) → Among q (os ++ ps) → Among q os ⊎ Among q ps
among-append [] ps q m = inr m
among-append (o ∷ os) ps q (inl e) = inl (inl e)
among-append (o ∷ os) ps q (inr m) = go (among-append os ps q m)
  where
    go : Among q os ⊎ Among q ps → Among q (o ∷ os) ⊎ Among q ps
    go (inl l) = inl (inr l)
    go (inr r) = inr r

among-left : (os ps : List Op) (q : Op) → Among q os → Among q (os ++ ps)
among-left [] ps q m = absurd m
among-left (o ∷ os) ps q (inl e) = inl e
among-left (o ∷ os) ps q (inr m) = inr (among-left os ps q m)

among-right : (os ps : List Op) (q : Op) → Among q ps → Among q (os ++ ps)
among-right [] ps q m = m
among-right (o ∷ os) ps q m = inr (among-right os ps q m)

apart-append : (os ps : List Op) → AreApart os → AreApart ps → ((q : Op) → Among q os → Among q ps → ⊥) → AreApart (os ++ ps)
apart-append [] ps f g n = g
apart-append (o ∷ os) ps f g n = (λ m. go (among-append os ps o m), apart-append os ps f.1 g (λ q m k. n q (inr m) k))
  where
    go : Among o os ⊎ Among o ps → ⊥
    go (inl m) = f.0 m
    go (inr m) = n o (inl refl) m

-- a member, and what stands before and behind it
record IsSplit (q : Op) (os : List Op) : Type 0 where
  prefix : List Op
  rest : List Op
  is : os ≡ prefix ++ q ∷ rest

split-among : (q : Op) (os : List Op) → Among q os → IsSplit q os
split-among q [] m = absurd m
split-among q (o ∷ os) (inl e) = record { prefix = []; rest = os; is = ap (λ (p : Op). p ∷ os) e }
split-among q (o ∷ os) (inr m) = let s = split-among q os m in record { prefix = o ∷ s.prefix; rest = s.rest; is = ap (λ (l : List Op). o ∷ l) s.is }

apart-without : (prefix rest : List Op) (q : Op) → AreApart (prefix ++ q ∷ rest) → AreApart (prefix ++ rest) × (Among q (prefix ++ rest) → ⊥)
apart-without [] rest q f = (f.1, f.0)
apart-without (o ∷ prefix) rest q f =
    let h = apart-without prefix rest q f.1 in
    ((λ m. f.0 (go (among-append prefix rest o m)), h.0), not_first h.1)
  where
    go : Among o prefix ⊎ Among o rest → Among o (prefix ++ q ∷ rest)
    go (inl m) = among-left prefix (q ∷ rest) o m
    go (inr m) = among-right prefix (q ∷ rest) o (inr m)

    not_first : (Among q (prefix ++ rest) → ⊥) → Among q (o ∷ prefix ++ rest) → ⊥
    not_first n (inl e) = f.0 (subst (λ (p : Op). Among p (prefix ++ q ∷ rest)) (sym e) (among-right prefix (q ∷ rest) q (inl refl)))
    not_first n (inr m) = n m

-- two lists without repetition that have the same members are one another in another order
pub same-members : (os ps : List Op) → AreApart os → AreApart ps → ((q : Op) → Among q os → Among q ps) → ((q : Op) → Among q ps → Among q os) → IsPermutation os ps
same-members [] [] f g there back = IsPermutation-refl []
same-members [] (p ∷ ps) f g there back = absurd (back p (inl refl))
same-members (o ∷ os) ps f g there back = go (λ qs. same-members os qs f.1) (split-among o ps (there o (inl refl)))
  where
    go : ((qs : List Op) → AreApart qs → ((q : Op) → Among q os → Among q qs) → ((q : Op) → Among q qs → Among q os) → IsPermutation os qs) → IsSplit o ps → IsPermutation (o ∷ os) ps
    go rest s =
        let h = apart-without s.prefix s.rest o (subst AreApart s.is g) in
        subst (IsPermutation (o ∷ os)) (sym s.is)
        (IsPermutation-trans (o ∷ os) (o ∷ (s.prefix ++ s.rest)) (s.prefix ++ o ∷ s.rest)
        (IsPermutation-cons o os (s.prefix ++ s.rest) (rest (s.prefix ++ s.rest) h.0 (λ q m. onward q m (among-append s.prefix (o ∷ s.rest) q (subst (Among q) s.is (there q (inr m))))) (λ q m. backward q m h.1)))
        (IsPermutation-sym (s.prefix ++ o ∷ s.rest) (o ∷ (s.prefix ++ s.rest)) (IsPermutation-middle s.prefix o s.rest)))
      where
        onward : (q : Op) → Among q os → Among q s.prefix ⊎ Among q (o ∷ s.rest) → Among q (s.prefix ++ s.rest)
        onward q m (inl l) = among-left s.prefix s.rest q l
        onward q m (inr (inl e)) = absurd (f.0 (subst (λ (p : Op). Among p os) (sym e) m))
        onward q m (inr (inr r)) = among-right s.prefix s.rest q r

        members : (q : Op) → Among q s.prefix ⊎ Among q s.rest → Among q ps
        members q (inl l) = subst (Among q) (sym s.is) (among-left s.prefix (o ∷ s.rest) q l)
        members q (inr r) = subst (Among q) (sym s.is) (among-right s.prefix (o ∷ s.rest) q (inr r))

        other : (q : Op) → (q ≡ o → ⊥) → Among q (o ∷ os) → Among q os
        other q n (inl e) = absurd (n (sym e))
        other q n (inr m) = m

        backward : (q : Op) → Among q (s.prefix ++ s.rest) → (Among o (s.prefix ++ s.rest) → ⊥) → Among q os
        backward q m n = other q (λ e. n (subst (λ (p : Op). Among p (s.prefix ++ s.rest)) e m)) (back q (members q (among-append s.prefix s.rest q m)))

ordered-apart : (os : List Op) → IsOrdered os → AreApart os
ordered-apart [] up = tt
ordered-apart (o ∷ os) up = (λ m. less-apart o o (each-among (λ p. op_cmp o p ≡ Less) os o up.0 m) refl, ordered-apart os up.1)

-- ---- the operations of an item

-- a clear operation, by its stamp
abbrev IsSole : List Op → Op → Type 0
IsSole ops o = Some o ≡ sole (bearing ops (stamp_of o))

-- Each is the clear insert next to the one before, whose stamp is s.
abbrev Follows : List Op → Stamp → List Op → Type 0
Follows ops s [] = Unit {0}
Follows ops s (o ∷ os) = (stamp_of o ≡ next_stamp s) × IsSole ops o × Follows ops (stamp_of o) os

some-op : (o : Option Op) (x : Insertion) → insert_in o ≡ Some x → o ≡ Some (Insert x.stamp x.parent x.symbol)
some-op None x e = absurd cc
some-op (Some (Insert s p y)) x e = let i : s ≡ x.stamp = cc in let j : p ≡ x.parent = cc in let k : y ≡ x.symbol = cc in cc
some-op (Some (Delete s t)) x e = absurd cc
some-op (Some (Set s k v)) x e = absurd cc

-- what is a child of s is the insert, and its parent is s
child-is : (s : Stamp) (o : Option Insertion) (x : Insertion) → child_of s o ≡ Some x → (o ≡ Some x) × (x.parent ≡ s)
child-is s None x e = absurd cc
child-is s (Some y) x e = by_cases (same y.parent s)
    (λ t. let i : Some y ≡ Some x = sym (ap (λ (b : Bool). cond b (Some y) None) t) ∙ e in (i, same-true x.parent s (subst (λ (z : Insertion). same z.parent s ≡ true) (some-inner i) t)))
    (λ f. let i : None ≡ Some x = sym (ap (λ (b : Bool). cond b (Some y) None) f) ∙ e in absurd cc)
  where
    some-inner : {z w : Insertion} → Some z ≡ Some w → z ≡ w
    some-inner i = cc

next-is : (ops : List Op) (s : Stamp) (x : Insertion) → next_insert ops s ≡ Some x → (x.stamp ≡ next_stamp s) × (x.parent ≡ s) × IsSole ops (Insert x.stamp x.parent x.symbol)
next-is ops s x e =
    let c = child-is s (clear_insert ops (next_stamp s)) x e in
    let one : sole (bearing ops (next_stamp s)) ≡ Some (Insert x.stamp x.parent x.symbol) = some-op (sole (bearing ops (next_stamp s))) x c.0 in
    let stamps : x.stamp ≡ next_stamp s = (sole-bears ops (next_stamp s) (Insert x.stamp x.parent x.symbol) (sym one)).1 in
    (stamps, c.1, subst (λ (t : Stamp). Some (Insert x.stamp x.parent x.symbol) ≡ sole (bearing ops t)) (sym stamps) (sym one))

chain-follows : (n : ℕ) (ops : List Op) (s : Stamp) → Follows ops s (run_ops (next_stamp s) s (chain n ops (next_insert ops s)))
unfolding chain
chain-follows zero ops s = tt
chain-follows (suc n) ops s = go (chain-follows n ops (next_stamp s)) (next_insert ops s) refl
  where
    go : Follows ops (next_stamp s) (run_ops (next_stamp (next_stamp s)) (next_stamp s) (chain n ops (next_insert ops (next_stamp s)))) → (x : Option Insertion) → next_insert ops s ≡ x → Follows ops s (run_ops (next_stamp s) s (chain (suc n) ops x))
    go later None e = tt
    go later (Some x) e =
        let h = next-is ops s x e in
        let is : Insert x.stamp x.parent x.symbol ≡ Insert (next_stamp s) s x.symbol = ap (λ (t : Stamp). Insert t x.parent x.symbol) h.0 ∙ ap (λ (t : Stamp). Insert (next_stamp s) t x.symbol) h.1 in
        (refl, subst (IsSole ops) is h.2, subst (λ (t : Stamp). Follows ops (next_stamp s) (run_ops (next_stamp (next_stamp s)) (next_stamp s) (chain n ops (next_insert ops t)))) (sym h.0) later)

sole-one : (os : List Op) (o q : Op) → Some o ≡ sole os → Among q os → q ≡ o
sole-one [] o q e m = absurd m
sole-one (p ∷ []) o q e (inl i) = sym i ∙ cc
sole-one (p ∷ []) o q e (inr m) = absurd m
sole-one (p ∷ r ∷ os) o q e m = absurd cc

-- the sole bearer of an operation's stamp is that operation
sole-own : (ops : List Op) (o q : Op) (s : Stamp) → Some o ≡ sole (bearing ops s) → Among q ops → stamp_of q ≡ s → q ≡ o
sole-own ops o q s e m i = sole-one (bearing ops s) o q e (among-filter_from (bears s) ops q m (same-from (stamp_of q) s i))

-- What an item holds: the operation that it begins with, and those that follow it, if it is clear.
pub record IsGroup (ops : List Op) (op : Op) (os : List Op) : Type 0 where
  pub rest : List Op
  pub is : os ≡ op ∷ rest
  pub follows : Follows ops (stamp_of op) rest
  pub alone : (rest ≡ []) ⊎ IsSole ops op

pub item-group : (ops : List Op) (op : Op) → Among op ops → IsGroup ops op (item_ops (item_at ops op))
item-group ops op m = go (clear_insert ops (stamp_of op)) refl
  where
    go : (x : Option Insertion) → clear_insert ops (stamp_of op) ≡ x → IsGroup ops op (item_ops (item_at ops op))
    go None e = record { rest = []; is = ap item_ops (item-at ops op None e ∙ ap (item_of op) (chain-none 64 ops)); follows = tt; alone = inl refl }
    go (Some x) e =
        let one : sole (bearing ops (stamp_of op)) ≡ Some (Insert x.stamp x.parent x.symbol) = some-op (sole (bearing ops (stamp_of op))) x e in
        let is : op ≡ Insert x.stamp x.parent x.symbol = sole-own ops (Insert x.stamp x.parent x.symbol) op (stamp_of op) (sym one) m refl in
        let stamps : stamp_of op ≡ x.stamp = ap stamp_of is in
        let ys : List Symbol = chain 63 ops (next_insert ops x.stamp) in
        record {
          rest = run_ops (next_stamp x.stamp) x.stamp ys;
          is =
              ap item_ops (item-at ops op (Some x) e ∙ ap (item_of op) (chain-some 63 ops x) ∙ ap (λ (o : Op). item_of o (x.symbol ∷ ys)) is)
              ∙ item-ops x.stamp x.parent x.symbol ys
              ∙ ap (λ (o : Op). o ∷ run_ops (next_stamp x.stamp) x.stamp ys) (sym is);
          follows = subst (λ (t : Stamp). Follows ops t (run_ops (next_stamp x.stamp) x.stamp ys)) (sym stamps) (chain-follows 63 ops x.stamp);
          alone = inr (sym (one ∙ ap Some (sym is)));
        }

-- ---- what follows

follower-above : (ops : List Op) (s : Stamp) (os : List Op) (q : Op) → Follows ops s os → Among q os → s.counter < (stamp_of q).counter
follower-above ops s [] q f m = absurd m
follower-above ops s (o ∷ os) q f (inl e) =
    let c : (stamp_of o).counter ≡ s.counter + 1 = ap (λ (t : Stamp). t.counter) f.0 in
    let d : (stamp_of o).counter ≡ (stamp_of q).counter = ap (λ (p : Op). (stamp_of p).counter) e in
    omega arith
follower-above ops s (o ∷ os) q f (inr m) =
    let c : (stamp_of o).counter ≡ s.counter + 1 = ap (λ (t : Stamp). t.counter) f.0 in
    let d : (stamp_of o).counter < (stamp_of q).counter = follower-above ops (stamp_of o) os q f.2 m in
    omega arith

follower-apart : (ops : List Op) (o : Op) (os : List Op) → Follows ops (stamp_of o) os → Among o os → ⊥
follower-apart ops o os f m = let l : (stamp_of o).counter < (stamp_of o).counter = follower-above ops (stamp_of o) os o f m in omega arith

followers-apart : (ops : List Op) (s : Stamp) (os : List Op) → Follows ops s os → AreApart os
followers-apart ops s [] f = tt
followers-apart ops s (o ∷ os) f = (follower-apart ops o os f.2, followers-apart ops (stamp_of o) os f.2)

follower-among : (ops : List Op) (s : Stamp) (os : List Op) (q : Op) → Follows ops s os → Among q os → Among q ops
follower-among ops s [] q f m = absurd m
follower-among ops s (o ∷ os) q f (inl e) = subst (λ (p : Op). Among p ops) e (sole-bears ops (stamp_of o) o f.1).0
follower-among ops s (o ∷ os) q f (inr m) = follower-among ops (stamp_of o) os q f.2 m

-- what is written is written with what it follows
abbrev IsClosed : List Op → List Op → Type 0
IsClosed ops done = (x y : Op) → IsSole ops x → IsSole ops y → stamp_of y ≡ next_stamp (stamp_of x) → Among y done → Among x done

-- what follows an operation that is not written is not written either
follower-new : (ops done : List Op) → IsClosed ops done → (op : Op) (os : List Op) (q : Op) → IsSole ops op → (Among op done → ⊥) → Follows ops (stamp_of op) os → Among q os → Among q done → ⊥
follower-new ops done closed op [] q one new f m k = absurd m
follower-new ops done closed op (o ∷ os) q one new f (inl e) k = new (closed op o one f.1 f.0 (subst (λ (p : Op). Among p done) (sym e) k))
follower-new ops done closed op (o ∷ os) q one new f (inr m) k = follower-new ops done closed o os q f.1 (λ h. new (closed op o one f.1 f.0 h)) f.2 m k

next-same : (s t : Stamp) → next_stamp s ≡ next_stamp t → s ≡ t
next-same s t e =
    let c : s.counter + 1 ≡ t.counter + 1 = ap (λ (u : Stamp). u.counter) e in
    let d : s.counter ≡ t.counter = omega arith in
    let f : s.site ≡ t.site = ap (λ (u : Stamp). u.site) e in
    ap (λ (n : ℕ). let u : Stamp = record { counter = n; site = s.site } in u) d ∙ ap (λ (n : ℕ). let u : Stamp = record { counter = t.counter; site = n } in u) f

-- a follower's predecessor is in the group
follower-closed : (ops : List Op) (op : Op) (os : List Op) (x y : Op) → IsSole ops op → Follows ops (stamp_of op) os → IsSole ops x → stamp_of y ≡ next_stamp (stamp_of x) → Among y os → Among x (op ∷ os)
follower-closed ops op [] x y one f h e m = absurd m
follower-closed ops op (o ∷ os) x y one f h e (inl i) =
    let stamps : stamp_of x ≡ stamp_of op = next-same (stamp_of x) (stamp_of op) (sym e ∙ ap stamp_of (sym i) ∙ f.0) in
    inl (sym (sole-own ops op x (stamp_of op) one (sole-bears ops (stamp_of x) x h).0 stamps))
follower-closed ops op (o ∷ os) x y one f h e (inr m) = inr (follower-closed ops o os x y f.1 f.2 h e m)

module _ (ops done later : List Op) (op : Op) (up : IsOrdered (op ∷ later)) (passed : (x : Op) → Among x ops → Among x (op ∷ later) ⊎ Among x done) (closed : IsClosed ops done) (h : IsGroup ops op (item_ops (item_at ops op))) where
  abbrev group : List Op
  group = item_ops (item_at ops op)

  before-it : (x : Op) → IsSole ops x → stamp_of op ≡ next_stamp (stamp_of x) → Among x done
  before-it x one e = go (passed x (sole-bears ops (stamp_of x) x one).0)
    where
      above : (stamp_of op).counter ≡ (stamp_of x).counter + 1
      above = ap (λ (t : Stamp). t.counter) e

      go : Among x (op ∷ later) ⊎ Among x done → Among x done
      go (inr m) = m
      go (inl (inl i)) = let a : (stamp_of op).counter ≡ (stamp_of x).counter + 1 = above in let c : (stamp_of op).counter ≡ (stamp_of x).counter = ap (λ (p : Op). (stamp_of p).counter) i in absurd (omega arith)
      go (inl (inr m)) = let a : (stamp_of op).counter ≡ (stamp_of x).counter + 1 = above in let c : (stamp_of op).counter ≤ (stamp_of x).counter = counter_not_above op x (each-among (λ p. op_cmp op p ≡ Less) later x up.0 m) in absurd (omega arith)

  closed-group : IsClosed ops (done ++ group)
  closed-group x y one two e m = go (among-append done group y m)
    where
      in_group : Among y (op ∷ h.rest) → (h.rest ≡ []) ⊎ IsSole ops op → Among x (done ++ group)
      in_group (inl i) a = among-left done group x (before-it x one (ap stamp_of i ∙ e))
      in_group (inr k) (inl none) = absurd (subst (Among y) none k)
      in_group (inr k) (inr clear) = among-right done group x (subst (Among x) (sym h.is) (follower-closed ops op h.rest x y clear h.follows one e k))

      go : Among y done ⊎ Among y group → Among x (done ++ group)
      go (inl k) = among-left done group x (closed x y one two e k)
      go (inr k) = in_group (subst (Among y) h.is k) h.alone

  group-apart : AreApart group
  group-apart = subst AreApart (sym h.is) (follower-apart ops op h.rest h.follows, followers-apart ops (stamp_of op) h.rest h.follows)

  group-new : (Among op done → ⊥) → (q : Op) → Among q group → Among q done → ⊥
  group-new new q m k = go (subst (Among q) h.is m) h.alone
    where
      go : Among q (op ∷ h.rest) → (h.rest ≡ []) ⊎ IsSole ops op → ⊥
      go (inl i) a = new (subst (λ (p : Op). Among p done) (sym i) k)
      go (inr l) (inl none) = absurd (subst (Among q) none l)
      go (inr l) (inr clear) = follower-new ops done closed op h.rest q clear new h.follows l k

-- ---- all items

not-yet : (op : Op) (done : List Op) → is_among op done ≡ false → Among op done → ⊥
not-yet op done e m = true≢false (sym (among-any op done m) ∙ e)

-- what is left is written once, and nothing that is written already
pub once : (ops done rest : List Op) → IsOrdered rest → ((x : Op) → Among x ops → Among x rest ⊎ Among x done) → ((x : Op) → Among x rest → Among x ops) → IsClosed ops done → AreApart (ops_in (items_from ops done rest)) × ((q : Op) → Among q (ops_in (items_from ops done rest)) → Among q done → ⊥)
once ops done [] up passed within closed =
    let none : ops_in (items_from ops done []) ≡ [] = ap ops_in (items-end ops done) in
    (subst AreApart (sym none) tt, λ q m k. absurd (subst (Among q) none m))
once ops done (op ∷ later) up passed within closed = let rest = λ (d : List Op) (p : (x : Op) → Among x ops → Among x later ⊎ Among x d) (c : IsClosed ops d). once ops d later up.1 p (λ x m. within x (inr m)) c in by_cases (is_among op done) (known rest) (new rest)
  where
    known : ((d : List Op) → ((x : Op) → Among x ops → Among x later ⊎ Among x d) → IsClosed ops d → AreApart (ops_in (items_from ops d later)) × ((q : Op) → Among q (ops_in (items_from ops d later)) → Among q d → ⊥)) → is_among op done ≡ true → AreApart (ops_in (items_from ops done (op ∷ later))) × ((q : Op) → Among q (ops_in (items_from ops done (op ∷ later))) → Among q done → ⊥)
    known ih e = subst (λ (out : List Op). AreApart out × ((q : Op) → Among q out → Among q done → ⊥)) (sym (ap ops_in (items-skip ops done later op e))) (ih done (λ x m. go x (passed x m)) closed)
      where
        go : (x : Op) → Among x (op ∷ later) ⊎ Among x done → Among x later ⊎ Among x done
        go x (inr k) = inr k
        go x (inl (inr k)) = inl k
        go x (inl (inl i)) = inr (subst (λ (p : Op). Among p done) i (any-among op done e))

    new : ((d : List Op) → ((x : Op) → Among x ops → Among x later ⊎ Among x d) → IsClosed ops d → AreApart (ops_in (items_from ops d later)) × ((q : Op) → Among q (ops_in (items_from ops d later)) → Among q d → ⊥)) → is_among op done ≡ false → AreApart (ops_in (items_from ops done (op ∷ later))) × ((q : Op) → Among q (ops_in (items_from ops done (op ∷ later))) → Among q done → ⊥)
    new ih e = subst (λ (out : List Op). AreApart out × ((q : Op) → Among q out → Among q done → ⊥)) (sym (ap ops_in (items-take ops done later op e) ∙ flat_map-cons item_ops (item_at ops op) (items_from ops (done ++ (item_ops (item_at ops op))) later))) (
      apart-append (item_ops (item_at ops op)) (ops_in (items_from ops (done ++ (item_ops (item_at ops op))) later)) (group-apart ops done later op up passed closed h) tail.0 (λ q m k. tail.1 q k (among-right done (item_ops (item_at ops op)) q m)),
      λ q m k. either q k (among-append (item_ops (item_at ops op)) (ops_in (items_from ops (done ++ (item_ops (item_at ops op))) later)) q m),
    )
      where
        h : IsGroup ops op (item_ops (item_at ops op))
        h = item-group ops op (within op (inl refl))

        go : (x : Op) → Among x (op ∷ later) ⊎ Among x done → Among x later ⊎ Among x (done ++ (item_ops (item_at ops op)))
        go x (inr k) = inr (among-left done (item_ops (item_at ops op)) x k)
        go x (inl (inr k)) = inl k
        go x (inl (inl i)) = inr (among-right done (item_ops (item_at ops op)) x (subst (Among x) (sym h.is) (inl i)))

        tail : AreApart (ops_in (items_from ops (done ++ (item_ops (item_at ops op))) later)) × ((q : Op) → Among q (ops_in (items_from ops (done ++ (item_ops (item_at ops op))) later)) → Among q (done ++ (item_ops (item_at ops op))) → ⊥)
        tail = ih (done ++ (item_ops (item_at ops op))) (λ x m. go x (passed x m)) (closed-group ops done later op up passed closed h)

        either : (q : Op) → Among q done → Among q (item_ops (item_at ops op)) ⊎ Among q (ops_in (items_from ops (done ++ (item_ops (item_at ops op))) later)) → ⊥
        either q k (inl m) = group-new ops done later op up passed closed h (not-yet op done e) q m k
        either q k (inr m) = tail.1 q m (among-left done (item_ops (item_at ops op)) q k)

-- each item is that of an operation that is left
pub each-item : (P : Item → Type 0) (ops : List Op) → ((op : Op) → Among op ops → P (item_at ops op)) → (done rest : List Op) → ((x : Op) → Among x rest → Among x ops) → AllByRecursion P (items_from ops done rest)
each-item P ops h done [] within = subst (AllByRecursion P) (sym (items-end ops done)) tt
each-item P ops h done (op ∷ later) within = by_cases (is_among op done)
    (λ e. subst (AllByRecursion P) (sym (items-skip ops done later op e)) (each-item P ops h done later (λ x m. within x (inr m))))
    (λ e. subst (AllByRecursion P) (sym (items-take ops done later op e)) (h op (within op (inl refl)), each-item P ops h (done ++ item_ops (item_at ops op)) later (λ x m. within x (inr m))))

among-items : (its : List Item) (P : Op → Type 0) → AllByRecursion (λ it. (q : Op) → Among q (item_ops it) → P q) its → (q : Op) → Among q (ops_in its) → P q
among-items [] P h q m = absurd m
among-items (it ∷ its) P h q m = go (among-items its P h.1 q) (among-append (item_ops it) (ops_in its) q (subst (Among q) (flat_map-cons item_ops it its) m))
  where
    go : (Among q (ops_in its) → P q) → Among q (item_ops it) ⊎ Among q (ops_in its) → P q
    go rest (inl k) = h.0 q k
    go rest (inr k) = rest k

pub group-within : (ops : List Op) (op : Op) → Among op ops → (q : Op) → Among q (item_ops (item_at ops op)) → Among q ops
group-within ops op own q m = go (subst (Among q) h.is m)
  where
    h : IsGroup ops op (item_ops (item_at ops op))
    h = item-group ops op own

    go : Among q (op ∷ h.rest) → Among q ops
    go (inl i) = subst (λ (p : Op). Among p ops) i own
    go (inr l) = follower-among ops (stamp_of op) h.rest q h.follows l

-- nothing else is written
sound : (ops : List Op) (q : Op) → Among q (runs_ops ops) → Among q ops
sound ops q m = among-items (items ops) (λ o. Among o ops) (each-item (λ it. (o : Op) → Among o (item_ops it) → Among o ops) ops (λ op own. group-within ops op own) [] ops (λ x k. k)) q m

-- and nothing is left out
complete : (ops done rest : List Op) → ((x : Op) → Among x rest → Among x ops) → (q : Op) → Among q rest → Among q (ops_in (items_from ops done rest)) ⊎ Among q done
complete ops done [] within q m = absurd m
complete ops done (op ∷ later) within q m = let rest = λ (d : List Op) (k : Among q later). complete ops d later (λ x n. within x (inr n)) q k in by_cases (is_among op done) (known rest) (new rest)
  where
    known : ((d : List Op) → Among q later → Among q (ops_in (items_from ops d later)) ⊎ Among q d) → is_among op done ≡ true → Among q (ops_in (items_from ops done (op ∷ later))) ⊎ Among q done
    known ih e = go m
      where
        go : Among q (op ∷ later) → Among q (ops_in (items_from ops done (op ∷ later))) ⊎ Among q done
        go (inl i) = inr (subst (λ (p : Op). Among p done) i (any-among op done e))
        go (inr k) = subst (λ (l : List Item). Among q (ops_in l) ⊎ Among q done) (sym (items-skip ops done later op e)) (ih done k)

    new : ((d : List Op) → Among q later → Among q (ops_in (items_from ops d later)) ⊎ Among q d) → is_among op done ≡ false → Among q (ops_in (items_from ops done (op ∷ later))) ⊎ Among q done
    new ih e = subst (λ (l : List Op). Among q l ⊎ Among q done) (sym (ap ops_in (items-take ops done later op e) ∙ flat_map-cons item_ops (item_at ops op) (items_from ops (done ++ (item_ops (item_at ops op))) later))) (go m)
      where
        h : IsGroup ops op (item_ops (item_at ops op))
        h = item-group ops op (within op (inl refl))

        place : Among q done ⊎ Among q (item_ops (item_at ops op)) → Among q ((item_ops (item_at ops op)) ++ (ops_in (items_from ops (done ++ (item_ops (item_at ops op))) later))) ⊎ Among q done
        place (inl k) = inr k
        place (inr k) = inl (among-left (item_ops (item_at ops op)) (ops_in (items_from ops (done ++ (item_ops (item_at ops op))) later)) q k)

        tail : Among q (ops_in (items_from ops (done ++ (item_ops (item_at ops op))) later)) ⊎ Among q (done ++ (item_ops (item_at ops op))) → Among q ((item_ops (item_at ops op)) ++ (ops_in (items_from ops (done ++ (item_ops (item_at ops op))) later))) ⊎ Among q done
        tail (inl k) = inl (among-right (item_ops (item_at ops op)) (ops_in (items_from ops (done ++ (item_ops (item_at ops op))) later)) q k)
        tail (inr k) = place (among-append done (item_ops (item_at ops op)) q k)

        go : Among q (op ∷ later) → Among q ((item_ops (item_at ops op)) ++ (ops_in (items_from ops (done ++ (item_ops (item_at ops op))) later))) ⊎ Among q done
        go (inl i) = inl (among-left (item_ops (item_at ops op)) (ops_in (items_from ops (done ++ (item_ops (item_at ops op))) later)) q (subst (Among q) (sym h.is) (inl i)))
        go (inr k) = tail (ih (done ++ (item_ops (item_at ops op))) k)

-- the feed of runs has the operations, each once
pub runs_permutation : (ops : List Op) → T (is_rising ops) → IsPermutation ops (runs_ops ops)
runs_permutation ops rising =
    let up = ordered_rising ops rising in
    same-members ops (runs_ops ops) (ordered-apart ops up) (once ops [] ops up (λ x m. inl m) (λ x m. m) (λ x y one two e m. absurd m)).0 (λ q m. there q (complete ops [] ops (λ x k. k) q m)) (sound ops)
  where
    there : (q : Op) → Among q (runs_ops ops) ⊎ Among q [] → Among q (runs_ops ops)
    there q (inl m) = m
    there q (inr m) = absurd m

-- ---- it is read as them

chain-within : (n : ℕ) (ops : List Op) (x : Option Insertion) → length (chain n ops x) ≤ n
unfolding chain
chain-within zero ops x = omega arith
chain-within (suc n) ops None = omega arith
chain-within (suc n) ops (Some x) = let h : length (chain n ops (next_insert ops x.stamp)) ≤ n = chain-within n ops (next_insert ops x.stamp) in omega arith

stands-of : (op : Op) (ys : List Symbol) → length ys ≤ 64 → AllByRecursion IsHeld (item_ops (item_of op ys)) → Stands Runs (item_of op ys)
stands-of op [] few h = h.0
stands-of op (y ∷ []) few h = h.0
stands-of (Insert s p x) (y ∷ z ∷ ys) few h = (tt, record { count = (omega arith, few); each = h })
stands-of (Delete s t) (y ∷ z ∷ ys) few h = h.0
stands-of (Set s k v) (y ∷ z ∷ ys) few h = h.0

item-stands : (ops : List Op) → AllByRecursion IsHeld ops → (op : Op) → Among op ops → Stands Runs (item_at ops op)
unfolding item_at
item-stands ops held op own =
    stands-of op (chain 64 ops (clear_insert ops (stamp_of op))) (chain-within 64 ops (clear_insert ops (stamp_of op)))
    (each-from_among IsHeld (item_ops (item_at ops op)) (λ q m. each-among IsHeld ops q held (group-within ops op own q m)))

pub runs_read : (ops : List Op) → AllByRecursion IsHeld ops → IsFeed (runs_feed ops) (runs_ops ops)
runs_read ops held = record {
  form = Runs;
  items = items ops;
  rest = flat_map item_spelling (items ops);
  prefix = refl;
  spells = spells Runs (items ops) (each-item (Stands Runs) ops (item-stands ops held) [] ops (λ x m. m));
  joined = refl;
}

-- ---- sets

entries-keys : (es : List (Op × Unit {0})) → entries_of (map (λ (e : Op × Unit {0}). e.0) es) ≡ es
entries-keys [] = refl
entries-keys (e ∷ es) = ap (λ (l : List (Op × Unit {0})). e ∷ l) (entries-keys es)

-- the operations of a set rise
pub set_rises : (h : OpSet) → T (is_rising (in_order h))
set_rises h = subst (λ (es : List (Op × Unit {0})). T (fin.is_sorted op_cmp es)) (sym (entries-keys (fin.entries h))) (fin.entries_sorted h)

-- what is read of the feed of a set is the set
pub runs_set : (h : OpSet) → with_all no_ops (runs_ops (in_order h)) ≡ h
runs_set h = same-set (with_all no_ops (runs_ops (in_order h))) h
    (λ q. has_op-with_all no_ops (runs_ops (in_order h)) q
    ∙ ap (λ (b : Bool). b || has_op no_ops q) (sym (list_any-IsPermutation (eq_by_cmp op_cmp q) (in_order h) (runs_ops (in_order h)) (runs_permutation (in_order h) (set_rises h))))
    ∙ ap (λ (b : Bool). list_any (eq_by_cmp op_cmp q) (in_order h) || b) (none-held q)
    ∙ or-false (list_any (eq_by_cmp op_cmp q) (in_order h))
    ∙ sym (fin.contains_key-keys h q))

pub runs_reported : RunsAreRead
runs_reported = record { read = runs_read; same = runs_permutation; set = runs_set }
