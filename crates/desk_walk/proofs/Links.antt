-- Nodes: what one more, one more in the walk, and a mark do to the links.
use Rattle.std.proofs.Common.{◌≡◌, ℕ, zero, suc, ◌+◌, ◌<◌, true, false, List, [], ◌∷◌, ◌++◌, map, length, get_or, refl, sym, ap, ◌∙◌, subst, ◌⊎◌, inl, inr, arith}
use Rattle.std.specs.List.{insert}
use Rattle.std.proofs.lemmas.Bool.{cases_eq}
use Rattle.std.proofs.lemmas.List.{get_or-set_same, get_or-set_other, get_or_append_left, get_or_at, length-set, length-append}
use Rattle.desk_ops.specs.Lists.{Among}
use Rattle.desk_ops.proofs.Lists.{Each, each-among, each-from_among}
use Rattle.desk_seq.specs.declared.Entry.{Entry}
use Rattle.desk_seq.specs.Entries.{marked, with_mark}
use Rattle.desk_walk.specs.declared.tree.Node.{Node}
use Rattle.desk_walk.specs.Tree.{no_node, node_at, next_of, links, IsApart, passed, linked, crossed}
use Rattle.desk_walk.proofs.Lists.{among-insert}
use Rattle.desk_walk.proofs.Beside.{at-index}

-- ---- lists

pub each-insert : {A : Type 0} (P : A → Type 0) (xs : List A) (i : ℕ) (x : A) → P x → Each P xs → Each P (insert xs i x)
each-insert P xs i x own all = each-from_among P (insert xs i x) (λ y m. go y (among-insert xs i x y m))
  where
    go : (y : _) → (x ≡ y) ⊎ Among y xs → P y
    go y (inl e) = subst P e own
    go y (inr m) = each-among P xs y all m

pub apart-insert : (ks : List ℕ) (at n : ℕ) → (Among n ks → ⊥) → IsApart ks → IsApart (insert ks at n)
apart-insert ks zero n none apart = (none, apart)
apart-insert [] (suc at) n none apart = (λ m. m, tt)
apart-insert (k ∷ ks) (suc at) n none apart = (λ m. go (among-insert ks at n k m), apart-insert ks at n (λ m. none (inr m)) apart.1)
  where
    go : (n ≡ k) ⊎ Among k ks → ⊥
    go (inl e) = none (inl (sym e))
    go (inr m) = apart.0 m

pub map-alike : {A B : Type 0} (f g : A → B) (xs : List A) → ((x : A) → Among x xs → g x ≡ f x) → map g xs ≡ map f xs
map-alike f g [] h = refl
map-alike f g (x ∷ xs) h = ap (λ y. y ∷ map g xs) (h x (inl refl)) ∙ ap (λ l. f x ∷ l) (map-alike f g xs (λ y m. h y (inr m)))

-- one of them is marked
pub map-marked : (f g : ℕ → Entry) (p : ℕ) (ks : List ℕ) (j : ℕ) → IsApart ks → j < length ks → get_or ks j 0 ≡ p → ((k : ℕ) → (k ≡ p → ⊥) → Among k ks → g k ≡ f k) → g p ≡ marked (f p) → map g ks ≡ with_mark (map f ks) j
map-marked f g p [] j apart lt e other own = absurd (omega arith)
map-marked f g p (k ∷ ks) zero apart lt e other own =
    ap (λ y. y ∷ map g ks) (ap g e ∙ own ∙ ap (λ n. marked (f n)) (sym e))
    ∙ ap (λ l. marked (f k) ∷ l) (map-alike f g ks (λ n m. other n (λ i. apart.0 (subst (λ x. Among x ks) (i ∙ sym e) m)) (inr m)))
map-marked f g p (k ∷ ks) (suc j) apart lt e other own =
    ap (λ y. y ∷ map g ks) (other k (λ i. apart.0 (subst (λ x. Among x ks) (e ∙ sym i) (at-index ks 0 j (omega arith)))) (inl refl))
    ∙ ap (λ l. f k ∷ l) (map-marked f g p ks j apart.1 (omega arith) e (λ n ne m. other n ne (inr m)) own)

-- ---- links that stay

pub links-alike : (old new : List Node) → ((k : ℕ) → k < length old → next_of new k ≡ next_of old k) → (a m : ℕ) → a < length old → Each (λ k. k < length old) (links old a m) → links new a m ≡ links old a m
unfolding links
links-alike old new alike a zero lt in' = refl
links-alike old new alike a (suc m) lt in' = ap (λ k. k ∷ links new k m) (alike a lt) ∙ ap (λ l. next_of old a ∷ l) (links-alike old new alike (next_of old a) m in'.0 in'.1)

-- ---- one node more

pub length-passed : (nodes : List Node) → length (passed nodes) ≡ length nodes + 1
length-passed nodes = length-append nodes (no_node ∷ [])

pub passed-at : (nodes : List Node) (k : ℕ) → k < length nodes → node_at (passed nodes) k ≡ node_at nodes k
passed-at nodes k lt = get_or_append_left nodes (no_node ∷ []) no_node k lt

pub passed-new : (nodes : List Node) → node_at (passed nodes) (length nodes) ≡ no_node
passed-new nodes = get_or_at nodes no_node [] no_node (length nodes) refl

-- ---- one deleted

module _ (nodes : List Node) (p : ℕ) (within : p < length nodes) where
  crossed_node : Node
  crossed_node = record { next = next_of nodes p; linked = (node_at nodes p).linked; deleted = true }

  pub length-crossed : length (crossed nodes p) ≡ length nodes
  unfolding crossed_node
  length-crossed = length-set nodes p crossed_node

  pub crossed-here : node_at (crossed nodes p) p ≡ record { next = next_of nodes p; linked = (node_at nodes p).linked; deleted = true }
  unfolding crossed_node
  crossed-here = get_or-set_same nodes p crossed_node no_node within

  pub crossed-other : (k : ℕ) → (k ≡ p → ⊥) → node_at (crossed nodes p) k ≡ node_at nodes k
  unfolding crossed_node
  crossed-other k ne = get_or-set_other nodes p k crossed_node no_node ne

  pub crossed-next : (k : ℕ) → next_of (crossed nodes p) k ≡ next_of nodes k
  crossed-next k = go (cases_eq k p)
    where
      go : (k ≡ p) ⊎ (k ≡ p → ⊥) → next_of (crossed nodes p) k ≡ next_of nodes k
      go (inl e) = ap (next_of (crossed nodes p)) e ∙ ap (λ (m : Node). m.next) crossed-here ∙ ap (next_of nodes) (sym e)
      go (inr ne) = ap (λ (m : Node). m.next) (crossed-other k ne)

  pub crossed-linked : (k : ℕ) → (node_at (crossed nodes p) k).linked ≡ (node_at nodes k).linked
  crossed-linked k = go (cases_eq k p)
    where
      go : (k ≡ p) ⊎ (k ≡ p → ⊥) → (node_at (crossed nodes p) k).linked ≡ (node_at nodes k).linked
      go (inl e) = ap (λ n. (node_at (crossed nodes p) n).linked) e ∙ ap (λ (m : Node). m.linked) crossed-here ∙ ap (λ n. (node_at nodes n).linked) (sym e)
      go (inr ne) = ap (λ (m : Node). m.linked) (crossed-other k ne)

-- ---- one more in the walk

module _ (nodes : List Node) (p : ℕ) (within : p < length nodes) where
  last : Node
  last = record { next = next_of nodes p; linked = true; deleted = false }

  before_it : Node
  before_it = record { next = length nodes; linked = (node_at nodes p).linked; deleted = (node_at nodes p).deleted }

  pub length-linked : length (linked nodes p) ≡ length nodes + 1
  unfolding last before_it
  length-linked = length-set (nodes ++ last ∷ []) p before_it ∙ length-append nodes (last ∷ [])

  pub linked-new : node_at (linked nodes p) (length nodes) ≡ record { next = next_of nodes p; linked = true; deleted = false }
  unfolding last before_it
  linked-new = get_or-set_other (nodes ++ last ∷ []) p (length nodes) before_it no_node (λ e. omega arith) ∙ get_or_at nodes last [] no_node (length nodes) refl

  pub linked-here : node_at (linked nodes p) p ≡ record { next = length nodes; linked = (node_at nodes p).linked; deleted = (node_at nodes p).deleted }
  unfolding last before_it
  linked-here =
      let lt : p < length (nodes ++ last ∷ []) = subst (λ n. p < n) (sym (length-append nodes (last ∷ []))) (omega arith) in
      get_or-set_same (nodes ++ last ∷ []) p before_it no_node lt

  pub linked-other : (k : ℕ) → k < length nodes → (k ≡ p → ⊥) → node_at (linked nodes p) k ≡ node_at nodes k
  unfolding last before_it
  linked-other k lt ne = get_or-set_other (nodes ++ last ∷ []) p k before_it no_node ne ∙ get_or_append_left nodes (last ∷ []) no_node k lt

  pub linked-linked : (k : ℕ) → k < length nodes → (node_at (linked nodes p) k).linked ≡ (node_at nodes k).linked
  linked-linked k lt = go (cases_eq k p)
    where
      go : (k ≡ p) ⊎ (k ≡ p → ⊥) → (node_at (linked nodes p) k).linked ≡ (node_at nodes k).linked
      go (inl e) = ap (λ n. (node_at (linked nodes p) n).linked) e ∙ ap (λ (m : Node). m.linked) linked-here ∙ ap (λ n. (node_at nodes n).linked) (sym e)
      go (inr ne) = ap (λ (m : Node). m.linked) (linked-other k lt ne)

  pub linked-deleted : (k : ℕ) → k < length nodes → (node_at (linked nodes p) k).deleted ≡ (node_at nodes k).deleted
  linked-deleted k lt = go (cases_eq k p)
    where
      go : (k ≡ p) ⊎ (k ≡ p → ⊥) → (node_at (linked nodes p) k).deleted ≡ (node_at nodes k).deleted
      go (inl e) = ap (λ n. (node_at (linked nodes p) n).deleted) e ∙ ap (λ (m : Node). m.deleted) linked-here ∙ ap (λ n. (node_at nodes n).deleted) (sym e)
      go (inr ne) = ap (λ (m : Node). m.deleted) (linked-other k lt ne)

  -- links that do not come by p stay
  links-past : (a m : ℕ) → a < length nodes → (a ≡ p → ⊥) → Each (λ k. k < length nodes) (links nodes a m) → (Among p (links nodes a m) → ⊥) → links (linked nodes p) a m ≡ links nodes a m
  unfolding links
  links-past a zero lt ne in' apart = refl
  links-past a (suc m) lt ne in' apart =
      let f : next_of (linked nodes p) a ≡ next_of nodes a = ap (λ (n : Node). n.next) (linked-other a lt ne) in
      ap (λ k. k ∷ links (linked nodes p) k m) f ∙ ap (λ l. next_of nodes a ∷ l) (links-past (next_of nodes a) m in'.0 (λ e. apart (inl e)) in'.1 (λ n. apart (inr n)))

  -- what follows the new node is what followed p
  links-new : (m : ℕ) → Each (λ k. k < length nodes) (links nodes p m) → (Among p (links nodes p m) → ⊥) → links (linked nodes p) (length nodes) m ≡ links nodes p m
  unfolding links
  links-new zero in' apart = refl
  links-new (suc m) in' apart =
      let f : next_of (linked nodes p) (length nodes) ≡ next_of nodes p = ap (λ (n : Node). n.next) linked-new in
      ap (λ k. k ∷ links (linked nodes p) k m) f ∙ ap (λ l. next_of nodes p ∷ l) (links-past (next_of nodes p) m in'.0 (λ e. apart (inl e)) in'.1 (λ n. apart (inr n)))

  links-hit : (m : ℕ) → Each (λ k. k < length nodes) (links nodes p m) → (Among p (links nodes p m) → ⊥) → links (linked nodes p) p (suc m) ≡ length nodes ∷ links nodes p m
  unfolding links
  links-hit m in' apart = ap (λ k. k ∷ links (linked nodes p) k m) (ap (λ (n : Node). n.next) linked-here) ∙ ap (λ l. length nodes ∷ l) (links-new m in' apart)

  pub links-insert : (a m at : ℕ) → a < length nodes → Each (λ k. k < length nodes) (links nodes a m) → IsApart (a ∷ links nodes a m) → at < length (a ∷ links nodes a m) → get_or (a ∷ links nodes a m) at 0 ≡ p
      → links (linked nodes p) a (suc m) ≡ insert (links nodes a m) at (length nodes)
  unfolding links
  links-insert a m zero lt in' apart l e =
      subst (λ b. Each (λ k. k < length nodes) (links nodes b m) → (Among b (links nodes b m) → ⊥) → links (linked nodes p) b (suc m) ≡ length nodes ∷ links nodes b m) (sym e) (links-hit m) in' apart.0
  links-insert a zero (suc at) lt in' apart l e = let k : suc at < 1 = l in absurd (omega arith)
  links-insert a (suc m) (suc at) lt in' apart l e =
      let k : at < length (next_of nodes a ∷ links nodes (next_of nodes a) m) = omega arith in
      let ne : a ≡ p → ⊥ = λ f. apart.0 (subst (λ x. Among x (links nodes a (suc m))) (e ∙ sym f) (at-index (links nodes a (suc m)) 0 at k)) in
      let g : next_of (linked nodes p) a ≡ next_of nodes a = ap (λ (n : Node). n.next) (linked-other a lt ne) in
      ap (λ b. b ∷ links (linked nodes p) b (suc m)) g ∙ ap (λ ks. next_of nodes a ∷ ks) (links-insert (next_of nodes a) m at in'.0 in'.1 apart.1 k e)
