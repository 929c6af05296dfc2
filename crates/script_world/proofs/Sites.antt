-- The sites that entries say, and look-ups of them.
use Rattle.std.proofs.Common.{◌≡◌, ℕ, Bool, true, false, cond, List, [], ◌∷◌, map, refl, sym, ap, ◌∙◌, nat_eq}
use Rattle.std.specs.Prelude.{Option, Some, None, option_map, is_some}
use Rattle.std.specs.Borrow.{Bor}
use Rattle.std.specs.Option.{option_copied}
use Rattle.std.specs.Ordering.{nat_cmp}
use Rattle.std.specs.Cmp.{nat_cmp_total, nat_eq_equiv, unsigned_tied}
use Rattle.std.specs.FinMap as fin
use Rattle.std.specs.FinSet.{nat_cmp-IsAntisymmetric}
use Rattle.std.specs.Map.{lookup}
use Rattle.desk_replica.specs.State.{State}
use Rattle.script_world.specs.Sites.{Sites, sites_of}

mapped : {A B : Type 0} (f : A → B) (b : Bool) (x : A) (o : Option A) → cond b (Some (f x)) (option_map f o) ≡ option_map f (cond b (Some x) o)
mapped f true x o = refl
mapped f false x o = refl

find_is : (es : List (ℕ × State)) (n : ℕ) → fin.find nat_cmp n (map (λ e. (e.0, e.1.ops)) es) ≡ option_map (λ h. h.ops) (lookup (nat_eq n) es)
find_is [] n = refl
find_is (e ∷ es) n =
    ap (λ b. cond b (Some e.1.ops) (fin.find nat_cmp n (map (λ e. (e.0, e.1.ops)) es))) (unsigned_tied n e.0)
    ∙ ap (cond (nat_eq n e.0) (Some e.1.ops)) (find_is es n)
    ∙ mapped (λ h. h.ops) (nat_eq n e.0) e.1 (lookup (nat_eq n) es)

-- the set of a site
pub get-sites_of : (es : List (ℕ × State)) (n : ℕ) → fin.get (sites_of es) n ≡ option_map (λ h. h.ops) (lookup (nat_eq n) es)
get-sites_of es n = fin.get-from_entries nat_cmp_total (map (λ e. (e.0, e.1.ops)) es) n ∙ find_is es n

-- entries that differ at one site
pub sites_of-updated : (es fs : List (ℕ × State)) (n : ℕ) (h : State) → ((q : ℕ) → lookup (nat_eq q) fs ≡ cond (nat_eq n q) (Some h) (lookup (nat_eq q) es)) → sites_of fs ≡ fin.insert (sites_of es) n h.ops
sites_of-updated es fs n h same =
    fin.same_map nat_cmp_total nat_cmp-IsAntisymmetric _ _ (λ q. get-sites_of fs q ∙ ap (option_map (λ h. h.ops)) (same q)
    ∙ sym (mapped (λ h. h.ops) (nat_eq n q) h (lookup (nat_eq q) es))
    ∙ ap (cond (nat_eq n q) (Some h.ops)) (sym (get-sites_of es q))
    ∙ ap (λ b. cond b (Some h.ops) (fin.get (sites_of es) q)) (nat_eq_equiv.symm n q ∙ sym (unsigned_tied q n))
    ∙ sym (fin.get-insert nat_cmp_total (sites_of es) n h.ops q))

-- what a look-up lends is what is there
pub lent_ops : (o : Option State) (r : Option (Bor State)) → option_copied r ≡ o → option_map (λ h. h.now.ops) r ≡ option_map (λ h. h.ops) o
lent_ops o None e = ap (option_map (λ h. h.ops)) e
lent_ops o (Some r) e = ap (option_map (λ h. h.ops)) e

is_some-map : {A B : Type 0} (f : A → B) (o : Option A) → is_some (option_map f o) ≡ is_some o
is_some-map f None = refl
is_some-map f (Some x) = refl

-- a site with an entry is there, and one without is not
pub is_there : (es : List (ℕ × State)) (n : ℕ) (s : Sites) (b : Bool) → sites_of es ≡ s → is_some (lookup (nat_eq n) es) ≡ b → fin.contains_key s n ≡ b
is_there es n s b view e = ap (λ t. is_some (fin.get t n)) (sym view) ∙ ap is_some (get-sites_of es n) ∙ is_some-map (λ h. h.ops) (lookup (nat_eq n) es) ∙ e
