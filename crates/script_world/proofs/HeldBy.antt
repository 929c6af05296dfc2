-- What some site holds, by the entries.
use Rattle.std.proofs.Common.{◌≡◌, ℕ, Bool, true, false, cond, ◌||◌, ◌&&◌, List, [], ◌∷◌, map, length, refl, sym, ap, ◌∙◌, nat_eq, arith}
use Rattle.std.specs.Prelude.{Some, None, option_map}
use Rattle.std.specs.List.{IsDistinct, AllByRecursion, list_all, list_any}
use Rattle.std.specs.Ordering.{nat_cmp, is_eq}
use Rattle.std.specs.declared.cmp.Ordering.{Ordering}
use Rattle.std.specs.declared.cmp.Ordering.TheVariants.{Less, Equal, Greater}
use Rattle.std.specs.FinMap as fin
use Rattle.std.specs.Cmp.{nat_cmp_total}
use Rattle.std.specs.Map.{lookup}
use Rattle.desk_ops.specs.declared.op.Op.{Op}
use Rattle.desk_ops.specs.OpSet.{OpSet, has_op}
use Rattle.desk_replica.specs.State.{State}
use Rattle.std.proofs.lemmas.Bool.{true≢false, and_from, and_parts, or_right}
use Rattle.desk_ops.proofs.Stamps.{by_cases}
use Rattle.desk_ops.proofs.Unions.{or-swap}
use Rattle.script_world.specs.Sites.{Sites, sites_of, is_held, all_held}
use Rattle.script_world.proofs.Sites.{get-sites_of}

abbrev by_order : {A : Type 0} → Ordering → A → A → A → A
by_order Less a b c = a
by_order Equal a b c = b
by_order Greater a b c = c

abbrev any_set : (OpSet → Bool) → List (ℕ × OpSet) → Bool
any_set p xs = list_any p (map (λ e. e.1) xs)

-- a new entry, wherever it is put
any_put : (p : OpSet → Bool) (k : ℕ) (v : OpSet) (xs : List (ℕ × OpSet)) → fin.find nat_cmp k xs ≡ None → any_set p (fin.put nat_cmp k v xs) ≡ (p v || any_set p xs)
any_put p k v [] none = refl
any_put p k v (e ∷ es) none = at (λ h. any_put p k v es h) (nat_cmp k e.0) none
  where
    at : (fin.find nat_cmp k es ≡ None → any_set p (fin.put nat_cmp k v es) ≡ (p v || any_set p es)) → (r : Ordering) → cond (is_eq r) (Some e.1) (fin.find nat_cmp k es) ≡ None
        → any_set p (by_order r ((k, v) ∷ e ∷ es) ((e.0, v) ∷ es) (e ∷ fin.put nat_cmp k v es)) ≡ (p v || (p e.1 || any_set p es))
    at rest Less h = refl
    at rest Equal h = absurd (let f : Some e.1 ≡ None = h in cc)
    at rest Greater h = ap (λ b. p e.1 || b) (rest h) ∙ or-swap (p e.1) (p v) (any_set p es)

none_in : (p : OpSet → Bool) (xs : List (ℕ × OpSet)) → length xs ≡ 0 → any_set p xs ≡ false
none_in p [] e = refl
none_in p (x ∷ xs) e = absurd (omega arith)

-- a key that differs from each of the keys is not there
absent_key : (k : ℕ) (es : List (ℕ × State)) → AllByRecursion (λ y. nat_eq k y ≡ false) (map (λ e. e.0) es) → lookup (nat_eq k) es ≡ None
absent_key k [] h = refl
absent_key k (e ∷ es) h = ap (λ b. cond b (Some e.1) (lookup (nat_eq k) es)) h.0 ∙ absent_key k es h.1

pub held_is : (p : OpSet → Bool) (es : List (ℕ × State)) → IsDistinct nat_eq (map (λ e. e.0) es) → list_any (λ s. p s.ops) (map (λ e. e.1) es) ≡ list_any p (fin.values (sites_of es))
unfolding IsDistinct
held_is p [] h = sym (none_in p (fin.entries (sites_of [])) (sym (fin.len-entries (sites_of [])) ∙ fin.len-empty _ _))
held_is p (e ∷ es) h =
    let rest = sites_of es in
    let none : fin.find nat_cmp e.0 (fin.entries rest) ≡ None = sym (fin.get-entries rest e.0) ∙ get-sites_of es e.0 ∙ ap (option_map (λ s. s.ops)) (absent_key e.0 es h.0) in
    ap (λ b. p e.1.ops || b) (held_is p es h.1) ∙ sym (ap (any_set p) (fin.entries-insert nat_cmp_total rest e.0 e.1.ops) ∙ any_put p e.0 e.1.ops (fin.entries rest) none)

pub held_at : (es : List (ℕ × State)) (s : Sites) (op : Op) (b : Bool) → IsDistinct nat_eq (map (λ e. e.0) es) → sites_of es ≡ s → b ≡ list_any (λ t. has_op t.ops op) (map (λ e. e.1) es) → b ≡ is_held s op
held_at es s op b distinct view is = is ∙ held_is (λ set. has_op set op) es distinct ∙ ap (λ m. is_held m op) view

-- ---- all of a list at one of them

any-weaker : (p q : State → Bool) (xs : List State) → ((x : State) → p x ≡ true → q x ≡ true) → list_any p xs ≡ true → list_any q xs ≡ true
any-weaker p q [] f h = absurd (true≢false (sym h))
any-weaker p q (x ∷ xs) f h = by_cases (p x)
    (λ e. ap (λ b. b || list_any q xs) (f x e))
    (λ e. ap (λ b. q x || b) (any-weaker p q xs f (sym (ap (λ b. b || list_any p xs) e) ∙ h)) ∙ or_right (q x) true refl)

pub one-holds_all : (es : List (ℕ × State)) (s : Sites) (ops : List Op) (b : Bool) → IsDistinct nat_eq (map (λ e. e.0) es) → sites_of es ≡ s → b ≡ list_any (λ t. list_all (has_op t.ops) ops) (map (λ e. e.1) es) → b ≡ true → all_held s ops ≡ true
one-holds_all es s ops b distinct view is all = go ops (sym is ∙ all)
  where
    go : (os : List Op) → list_any (λ t. list_all (has_op t.ops) os) (map (λ e. e.1) es) ≡ true → all_held s os ≡ true
    go [] h = refl
    go (o ∷ os) h = and_from (is_held s o) (all_held s os)
        (sym (held_at es s o (list_any (λ t. has_op t.ops o) (map (λ e. e.1) es)) distinct view refl)
        ∙ any-weaker (λ t. has_op t.ops o && list_all (has_op t.ops) os) (λ t. has_op t.ops o) (map (λ e. e.1) es) (λ t e. (and_parts (has_op t.ops o) (list_all (has_op t.ops) os) e).0) h)
        (go os (any-weaker (λ t. has_op t.ops o && list_all (has_op t.ops) os) (λ t. list_all (has_op t.ops) os) (map (λ e. e.1) es) (λ t e. (and_parts (has_op t.ops o) (list_all (has_op t.ops) os) e).1) h))
