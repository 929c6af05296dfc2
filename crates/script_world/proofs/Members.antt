-- The union of the sites' sets: what it holds, and how it grows.
use Rattle.std.proofs.Common.{◌≡◌, ℕ, Bool, true, false, cond, ◌||◌, List, [], ◌∷◌, map, refl, sym, ap, ◌∙◌, subst, ◌⊎◌, inl, inr, Some}
use Rattle.std.specs.Option.{is_some, unwrap_or}
use Rattle.std.specs.List.{list_any}
use Rattle.std.specs.Ordering.{nat_cmp, eq_by_cmp, is_eq, is_lt}
use Rattle.std.specs.Cmp.{first_so, nat_cmp_total, second_so}
use Rattle.std.specs.FinMap as fin
use Rattle.std.specs.FinMap.Entries.{is_sorted, below_all}
use Rattle.std.specs.FinSet.{nat_cmp-IsAntisymmetric}
use Rattle.std.proofs.lemmas.Bool.{true≢false, or_right}
use Rattle.std.proofs.lemmas.Cmp.{tied_itself}
use Rattle.desk_ops.specs.declared.op.Op.{Op}
use Rattle.desk_ops.specs.Op.{IsLawful}
use Rattle.desk_ops.specs.OpSet.{OpSet, has_op, in_order, AllLawful}
use Rattle.desk_ops.proofs.Stamps.{by_cases, is_equal}
use Rattle.desk_ops.proofs.Lists.{each-among, each-from_among}
use Rattle.desk_ops.proofs.Means.{of-T}
use Rattle.desk_ops.proofs.OpSets.{none-held}
use Rattle.desk_ops.proofs.Ends.{among_held, held_among}
use Rattle.desk_ops.proofs.Unions.{has_op-union}
use Rattle.script_world.specs.Sites.{Sites, is_held}
use Rattle.script_world.specs.Honest.{union_of, all_ops, IsHeldAt}

union_holds : (sets : List OpSet) (op : Op) → has_op (union_of sets) op ≡ list_any (λ set. has_op set op) sets
union_holds [] op = none-held op
union_holds (set ∷ sets) op = has_op-union set (union_of sets) op ∙ ap (λ b. has_op set op || b) (union_holds sets op)

-- the union holds what some site holds
pub all_held_by : (sites : Sites) (op : Op) → has_op (all_ops sites) op ≡ is_held sites op
all_held_by sites op = union_holds (fin.values sites) op

-- ---- entries

some-set : (h g : OpSet) → Some h ≡ Some g → h ≡ g
some-set h g e = ap (λ r. unwrap_or r h) e

found-any : (p : OpSet → Bool) (n : ℕ) (set : OpSet) (es : List (ℕ × OpSet)) → fin.find nat_cmp n es ≡ Some set → p set ≡ true → list_any p (map (λ (e : ℕ × OpSet). e.1) es) ≡ true
found-any p n set [] f h = absurd (true≢false (sym (ap is_some f)))
found-any p n set (e ∷ es) f h =
    by_cases (is_eq (nat_cmp n e.0))
    (λ k. ap (λ b. b || list_any p (map (λ (e : ℕ × OpSet). e.1) es)) (ap p (some-set e.1 set (sym (ap (λ b. cond b (Some e.1) (fin.find nat_cmp n es)) k) ∙ f)) ∙ h))
    (λ k. ap (λ b. p e.1 || b) (found-any p n set es (sym (ap (λ b. cond b (Some e.1) (fin.find nat_cmp n es)) k) ∙ f) h) ∙ or_right (p e.1) true refl)

-- what is found further on has a greater number
found-above : (k n : ℕ) (set : OpSet) (es : List (ℕ × OpSet)) → below_all nat_cmp k es ≡ true → fin.find nat_cmp n es ≡ Some set → is_lt (nat_cmp k n) ≡ true
found-above k n set [] b f = absurd (true≢false (sym (ap is_some f)))
found-above k n set (e ∷ es) b f =
    by_cases (is_eq (nat_cmp n e.0))
    (λ t. subst (λ m. is_lt (nat_cmp k m) ≡ true) (sym (nat_cmp-IsAntisymmetric n e.0 (is_equal (nat_cmp n e.0) t))) (first_so (is_lt (nat_cmp k e.0)) (below_all nat_cmp k es) b))
    (λ t. found-above k n set es (second_so (is_lt (nat_cmp k e.0)) (below_all nat_cmp k es) b) (sym (ap (λ b. cond b (Some e.1) (fin.find nat_cmp n es)) t) ∙ f))

any-found : (p : OpSet → Bool) (es : List (ℕ × OpSet)) → is_sorted nat_cmp es ≡ true → list_any p (map (λ (e : ℕ × OpSet). e.1) es) ≡ true → (n : ℕ) × (set : OpSet) × (fin.find nat_cmp n es ≡ Some set) × (p set ≡ true)
any-found p [] up h = absurd (true≢false (sym h))
any-found p (e ∷ es) up h =
    by_cases (p e.1)
    (λ k. (e.0, e.1, ap (λ b. cond b (Some e.1) (fin.find nat_cmp e.0 es)) (ap is_eq (tied_itself nat_cmp_total e.0)), k))
    (λ k. later (any-found p es (second_so (below_all nat_cmp e.0 es) (is_sorted nat_cmp es) up) (sym (ap (λ b. b || list_any p (map (λ (e : ℕ × OpSet). e.1) es)) k) ∙ h)))
  where
    apart : (n : ℕ) → is_lt (nat_cmp e.0 n) ≡ true → is_eq (nat_cmp n e.0) ≡ false
    apart n l = by_cases (is_eq (nat_cmp n e.0))
        (λ t. absurd (true≢false (sym l ∙ ap is_lt (ap (nat_cmp e.0) (nat_cmp-IsAntisymmetric n e.0 (is_equal (nat_cmp n e.0) t)) ∙ tied_itself nat_cmp_total e.0))))
        (λ t. t)

    later : ((n : ℕ) × (set : OpSet) × (fin.find nat_cmp n es ≡ Some set) × (p set ≡ true)) → (n : ℕ) × (set : OpSet) × (fin.find nat_cmp n (e ∷ es) ≡ Some set) × (p set ≡ true)
    later r = (r.0, r.1, ap (λ b. cond b (Some e.1) (fin.find nat_cmp r.0 es)) (apart r.0 (found-above e.0 r.0 r.1 es (first_so (below_all nat_cmp e.0 es) (is_sorted nat_cmp es) up) r.2)) ∙ r.2, r.3)

-- ---- members

pub at_all : (sites : Sites) (n : ℕ) (op : Op) → IsHeldAt sites n op → has_op (all_ops sites) op ≡ true
at_all sites n op r = all_held_by sites op ∙ found-any (λ set. has_op set op) n r.0 (fin.entries sites) (sym (fin.get-entries sites n) ∙ r.1) r.2

pub all_at : (sites : Sites) (op : Op) → has_op (all_ops sites) op ≡ true → (n : ℕ) × IsHeldAt sites n op
all_at sites op k = go (any-found (λ set. has_op set op) (fin.entries sites) (of-T (is_sorted nat_cmp (fin.entries sites)) (fin.entries_sorted sites)) (sym (all_held_by sites op) ∙ k))
  where
    go : ((n : ℕ) × (set : OpSet) × (fin.find nat_cmp n (fin.entries sites) ≡ Some set) × (has_op set op ≡ true)) → (n : ℕ) × IsHeldAt sites n op
    go r = (r.0, (r.1, fin.get-entries sites r.0 ∙ r.2, r.3))

-- the union is lawful where each set is
pub all_lawful : (sites : Sites) → ((n : ℕ) (set : OpSet) → fin.get sites n ≡ Some set → AllLawful set) → AllLawful (all_ops sites)
all_lawful sites l = each-from_among IsLawful (in_order (all_ops sites)) (λ o m. go o (all_at sites o (held_among (all_ops sites) o m)))
  where
    go : (o : Op) → (n : ℕ) × IsHeldAt sites n o → IsLawful o
    go o r = let h : IsHeldAt sites r.0 o = r.1 in each-among IsLawful (in_order h.0) o (l r.0 h.0 h.1) (among_held h.0 o h.2)

-- ---- one site's set replaced

module _ (old : Sites) (n : ℕ) (after : OpSet) where
  get_same : (m : ℕ) → eq_by_cmp nat_cmp m n ≡ true → fin.get (fin.insert old n after) m ≡ Some after
  get_same m e = fin.get-insert nat_cmp_total old n after m ∙ ap (λ b. cond b (Some after) (fin.get old m)) e

  get_apart : (m : ℕ) → eq_by_cmp nat_cmp m n ≡ false → fin.get (fin.insert old n after) m ≡ fin.get old m
  get_apart m e = fin.get-insert nat_cmp_total old n after m ∙ ap (λ b. cond b (Some after) (fin.get old m)) e

  same_number : (m : ℕ) → eq_by_cmp nat_cmp m n ≡ true → m ≡ n
  same_number m e = nat_cmp-IsAntisymmetric m n (is_equal (nat_cmp m n) e)

  pub held_new : (op : Op) → has_op after op ≡ true → IsHeldAt (fin.insert old n after) n op
  held_new op k = (after, get_same n (ap is_eq (tied_itself nat_cmp_total n)), k)

  pub held_kept : (op : Op) → ((set : OpSet) → fin.get old n ≡ Some set → has_op set op ≡ true → has_op after op ≡ true) → (m : ℕ) → IsHeldAt old m op → IsHeldAt (fin.insert old n after) m op
  held_kept op keeps m r = by_cases (eq_by_cmp nat_cmp m n)
      (λ e. (after, get_same m e, keeps r.0 (ap (fin.get old) (sym (same_number m e)) ∙ r.1) r.2))
      (λ e. (r.0, get_apart m e ∙ r.1, r.2))

  pub held_was : (op : Op) (m : ℕ) → IsHeldAt (fin.insert old n after) m op → (has_op after op ≡ true) ⊎ IsHeldAt old m op
  held_was op m r = by_cases (eq_by_cmp nat_cmp m n)
      (λ e. inl (ap (λ h. has_op h op) (some-set after r.0 (sym (get_same m e) ∙ r.1)) ∙ r.2))
      (λ e. inr (r.0, sym (get_apart m e) ∙ r.1, r.2))

  pub get_was : (m : ℕ) (set : OpSet) → fin.get (fin.insert old n after) m ≡ Some set → (after ≡ set) ⊎ (fin.get old m ≡ Some set)
  get_was m set k = by_cases (eq_by_cmp nat_cmp m n) (λ e. inl (some-set after set (sym (get_same m e) ∙ k))) (λ e. inr (sym (get_apart m e) ∙ k))
