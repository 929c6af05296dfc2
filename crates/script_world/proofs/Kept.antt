-- Worlds that stay as they are kept, and what their events answer.
use Rattle.std.proofs.Common.{◌≡◌, ℕ, ◌+◌, ◌==◌, Bool, true, false, cond, List, [], map, length, refl, sym, ap, ◌∙◌, subst, nat_eq, arith, ◌≤◌, ◌<◌}
use Rattle.std.proofs.lemmas.Bool.{le-leb, lt-leb}
use Rattle.std.proofs.lemmas.Bool.Decides.{nat_tests}
use Rattle.std.specs.List.{IsDistinct}
use Rattle.std.specs.Prelude.{All, Option, Some, None, Result, Ok, Err, option_map, is_some, IfSome, MatchOption, MatchBool, nat_le}
use Rattle.std.specs.FinMap as fin
use Rattle.std.specs.FinSet.{nat_cmp-IsAntisymmetric}
use Rattle.std.specs.Cmp.{nat_cmp_total}
use Rattle.std.specs.Map.{lookup}
use Rattle.desk_ops.specs.declared.op.Op.{Op}
use Rattle.desk_ops.specs.Op.{IsLawful}
use Rattle.desk_ops.specs.OpSet.{OpSet, no_ops, with_all, in_order, size, max_ops, AllLawful}
use Rattle.desk_ops.proofs.Unions.{with_all-in_order}
use Rattle.desk_held.specs.declared.AddRefusal.TheVariants as adds
use Rattle.desk_held.specs.declared.join.Stopped.{Stopped}
use Rattle.desk_replica.specs.declared.Count.{Count}
use Rattle.desk_replica.specs.State.{State}
use Rattle.script_world.specs.declared.world.Answer.{Answer}
use Rattle.script_world.specs.declared.world.StepRefusal.{StepRefusal}
use Rattle.script_world.specs.declared.world.StepRefusal.TheVariants as refusals
use Rattle.script_world.specs.Sites.{Sites, sites_of, all_held, AreLawful, IsKept, IsUpdated}
use Rattle.script_world.specs.declared.world.LocalEdit.{LocalEdit}
use Rattle.script_world.specs.declared.world.LocalEdit.TheVariants as kinds
use Rattle.script_world.specs.World.{site_refusal, Refuses, Adds, Edits, EditsSite, IsEdited, Gains, Brings, Steps, site_with, taken, IsReopened}
use Rattle.script_world.specs.World as events
use Rattle.script_world.proofs.Sites.{get-sites_of, sites_of-updated}
use Rattle.script_world.proofs.Gained.{gains_lawful, edits_lawful}

same_number : (n q : ℕ) → nat_eq n q ≡ true → n ≡ q
same_number n q e = grind (arith, nat_tests)

pub nothing_kept : IsKept []
unfolding IsDistinct
nothing_kept = record { distinct = tt; counted = fin.len-empty _ _; numbered = λ n. tt; lawful = λ n. tt }

there_after : (n : ℕ) (s : State) (o : Option State) → o ≡ Some s → is_some (option_map (λ h. h.ops) o) ≡ true
there_after n s o e = ap (λ p. is_some (option_map (λ h. h.ops) p)) e

numbered_at : (b : Bool) (n q : ℕ) (t : State) (o p : Option State) → nat_eq n q ≡ b → p ≡ cond b (Some t) o → t.site ≡ n → IfSome o (λ s. s.site ≡ q) → IfSome p (λ s. s.site ≡ q)
numbered_at true n q t o p same is named old = subst (λ x. IfSome x (λ s. s.site ≡ q)) (sym is) (named ∙ same_number n q same)
numbered_at false n q t o p same is named old = subst (λ x. IfSome x (λ s. s.site ≡ q)) (sym is) old

numbered_after : (es fs : List (ℕ × State)) (n : ℕ) (t : State) → IsKept es → ((q : ℕ) → lookup (nat_eq q) fs ≡ cond (nat_eq n q) (Some t) (lookup (nat_eq q) es)) → t.site ≡ n
    → (q : ℕ) → IfSome (lookup (nat_eq q) fs) (λ s. s.site ≡ q)
numbered_after es fs n t kept same named q = numbered_at (nat_eq n q) n q t (lookup (nat_eq q) es) (lookup (nat_eq q) fs) refl (same q) named (kept.numbered q)

lawful_at : (b : Bool) (t : State) (o p : Option State) → p ≡ cond b (Some t) o → AllLawful t.ops → IfSome o (λ s. AllLawful s.ops) → IfSome p (λ s. AllLawful s.ops)
lawful_at true t o p is new old = subst (λ x. IfSome x (λ s. AllLawful s.ops)) (sym is) new
lawful_at false t o p is new old = subst (λ x. IfSome x (λ s. AllLawful s.ops)) (sym is) old

lawful_after : (es fs : List (ℕ × State)) (n : ℕ) (t : State) → IsKept es → ((q : ℕ) → lookup (nat_eq q) fs ≡ cond (nat_eq n q) (Some t) (lookup (nat_eq q) es)) → AllLawful t.ops
    → (q : ℕ) → IfSome (lookup (nat_eq q) fs) (λ s. AllLawful s.ops)
lawful_after es fs n t kept same new q = lawful_at (nat_eq n q) t (lookup (nat_eq q) es) (lookup (nat_eq q) fs) (same q) new (kept.lawful q)

-- what a site that is there holds
pub lawful_there : (es : List (ℕ × State)) (n : ℕ) (s : State) → IsKept es → lookup (nat_eq n) es ≡ Some s → AllLawful s.ops
lawful_there es n s kept there = subst (λ o. IfSome o (λ x. AllLawful x.ops)) there (kept.lawful n)

-- what each site holds, by the sites
pub lawful_sites : (es : List (ℕ × State)) (sites : Sites) → IsKept es → sites_of es ≡ sites → AreLawful sites
lawful_sites es sites kept view n = subst (λ o. IfSome o AllLawful) (sym (get-sites_of es n) ∙ ap (λ m. fin.get m n) view) (at (lookup (nat_eq n) es) (kept.lawful n))
  where
    at : (o : Option State) → IfSome o (λ s. AllLawful s.ops) → IfSome (option_map (λ s. s.ops) o) AllLawful
    at None l = tt
    at (Some s) l = l

len_after : (es fs : List (ℕ × State)) (n : ℕ) (t : State) → ((q : ℕ) → lookup (nat_eq q) fs ≡ cond (nat_eq n q) (Some t) (lookup (nat_eq q) es))
    → fin.len (sites_of fs) ≡ cond (is_some (option_map (λ h. h.ops) (lookup (nat_eq n) es))) (fin.len (sites_of es)) (fin.len (sites_of es) + 1)
len_after es fs n t same =
    ap fin.len (sites_of-updated es fs n t same) ∙ fin.len-insert nat_cmp_total (sites_of es) n t.ops
    ∙ ap (λ o. cond (is_some o) (fin.len (sites_of es)) (fin.len (sites_of es) + 1)) (get-sites_of es n)

site_kept : (es : List (ℕ × State)) (n : ℕ) (s : State) → IsKept es → lookup (nat_eq n) es ≡ Some s → s.site ≡ n
site_kept es n s kept there = subst (λ o. IfSome o (λ x. x.site ≡ n)) there (kept.numbered n)

pub kept_updated : (es fs : List (ℕ × State)) (n : ℕ) (s t : State) → IsKept es → IsUpdated es fs n s t → AllLawful t.ops → IsKept fs
kept_updated es fs n s t kept up own = record {
  distinct = up.distinct;
  counted = len_after es fs n t up.entries ∙ ap (λ b. cond b (fin.len (sites_of es)) (fin.len (sites_of es) + 1)) (there_after n s _ up.there) ∙ kept.counted ∙ sym up.as_many;
  numbered = numbered_after es fs n t kept up.entries (up.named ∙ site_kept es n s kept up.there);
  lawful = lawful_after es fs n t kept up.entries own;
}

pub kept_added : (es fs : List (ℕ × State)) (n : ℕ) (t : State) → IsKept es → lookup (nat_eq n) es ≡ None → ((q : ℕ) → lookup (nat_eq q) fs ≡ cond (nat_eq n q) (Some t) (lookup (nat_eq q) es))
    → IsDistinct nat_eq (map (λ e. e.0) fs) → length fs ≡ length es + 1 → t.site ≡ n → AllLawful t.ops → IsKept fs
kept_added es fs n t kept none same distinct more named own = record {
  distinct = distinct;
  counted = len_after es fs n t same ∙ ap (λ o. cond (is_some (option_map (λ h. h.ops) o)) (fin.len (sites_of es)) (fin.len (sites_of es) + 1)) none ∙ ap (λ k. k + 1) kept.counted ∙ sym more;
  numbered = numbered_after es fs n t kept same named;
  lawful = lawful_after es fs n t kept same own;
}

-- ---- what is answered

pub refused : (old : Sites) (n : ℕ) (why : StepRefusal) → site_refusal old n ≡ Some why → Steps old (events.Site n) (Err why) old
refused old n why e = subst (λ o. MatchOption o (Adds old n (Err why) old) (λ w. Refuses old w (Err why) old)) (sym e) (refl, refl)

pub known_refused : (old : Sites) (n : ℕ) → (n == 0) ≡ false → fin.contains_key old n ≡ true → site_refusal old n ≡ Some refusals.KnownSite
known_refused old n a b = rw (a, b) refl

pub len_is : (es : List (ℕ × State)) (s : Sites) → IsKept es → sites_of es ≡ s → fin.len s ≡ length es
len_is es s kept view = ap fin.len (sym view) ∙ kept.counted

pub is_many : (es : List (ℕ × State)) (s : Sites) (k : ℕ) → IsKept es → sites_of es ≡ s → k ≡ length es → 16 ≤ k → nat_le 16 (fin.len s) ≡ true
is_many es s k kept view is many = ap (nat_le 16) (len_is es s kept view ∙ sym is) ∙ le-leb 16 k many

pub is_few : (es : List (ℕ × State)) (s : Sites) (k : ℕ) → IsKept es → sites_of es ≡ s → k ≡ length es → k < 16 → nat_le 16 (fin.len s) ≡ false
is_few es s k kept view is few = ap (nat_le 16) (len_is es s kept view ∙ sym is) ∙ lt-leb 16 k few

pub many_refused : (old : Sites) (n : ℕ) → (n == 0) ≡ false → fin.contains_key old n ≡ false → nat_le 16 (fin.len old) ≡ true → site_refusal old n ≡ Some refusals.TooManySites
many_refused old n a b d = rw (a, b, d) refl

pub not_refused : (old : Sites) (n : ℕ) → (n == 0) ≡ false → fin.contains_key old n ≡ false → nat_le 16 (fin.len old) ≡ false → site_refusal old n ≡ None
not_refused old n a b d = rw (a, b, d) refl

pub added : (old new : Sites) (n : ℕ) (r : Result Answer StepRefusal) → site_refusal old n ≡ None → Adds old n r new → Steps old (events.Site n) r new
added old new n r e h = subst (λ o. MatchOption o (Adds old n r new) (λ w. Refuses old w r new)) (sym e) h

abbrev pub Given : Sites → ℕ → List Op → Result Answer StepRefusal → Sites → Type 0
Given old to ops r new = (counts : Result Count StepRefusal) × (r ≡ taken counts) × Brings old to ops counts new

abbrev GivesAt : Sites → ℕ → List Op → Result Answer StepRefusal → Sites → Option OpSet → Type 0
GivesAt old to ops r new o = MatchOption o (Refuses old refusals.NoSite r new) (λ set. MatchBool (all_held old ops) (Given old to ops r new) (Refuses old refusals.Strange r new))

pub no_site : (old : Sites) (to : ℕ) (ops : List Op) → fin.get old to ≡ None → Steps old (events.Give to ops) (Err refusals.NoSite) old
no_site old to ops e = subst (GivesAt old to ops (Err refusals.NoSite) old) (sym e) (refl, refl)

pub strange : (old : Sites) (to : ℕ) (ops : List Op) → is_some (fin.get old to) ≡ true → all_held old ops ≡ false → Steps old (events.Give to ops) (Err refusals.Strange) old
strange old to ops there e = at (fin.get old to) there
  where
    at : (o : Option OpSet) → is_some o ≡ true → GivesAt old to ops (Err refusals.Strange) old o
    at None t = absurd (let f : false ≡ true = t in cc)
    at (Some set) t = subst (λ b. MatchBool b (Given old to ops (Err refusals.Strange) old) (Refuses old refusals.Strange (Err refusals.Strange) old)) (sym e) (refl, refl)

pub given : (old new : Sites) (to : ℕ) (ops : List Op) (counts : Result Count StepRefusal) → is_some (fin.get old to) ≡ true → all_held old ops ≡ true → Brings old to ops counts new
    → Steps old (events.Give to ops) (taken counts) new
given old new to ops counts there e brings = at (fin.get old to) there
  where
    at : (o : Option OpSet) → is_some o ≡ true → GivesAt old to ops (taken counts) new o
    at None t = absurd (let f : false ≡ true = t in cc)
    at (Some set) t = subst (λ b. MatchBool b (Given old to ops (taken counts) new) (Refuses old refusals.Strange (taken counts) new)) (sym e) (counts, refl, brings)

-- ---- a change of one entry

-- what it answers
abbrev pub ChangesAt : {A : Type 0} → (State → State → Type 0) → List (ℕ × State) → List (ℕ × State) → ℕ → Result A StepRefusal → Option State → Type 0
ChangesAt Changes es fs n r o = MatchOption o ((r ≡ Err refusals.NoSite) × (fs ≡ es)) (λ s. (t : State) × IsUpdated es fs n s t × Changes s t)

-- where the entry is there
pub changed_at : {A : Type 0} (Changes : State → State → Type 0) (es fs : List (ℕ × State)) (n : ℕ) (r : Result A StepRefusal) (s t : State) → IsUpdated es fs n s t → Changes s t
    → ChangesAt Changes es fs n r (lookup (nat_eq n) es)
changed_at Changes es fs n r s t up changes = subst (ChangesAt Changes es fs n r) (sym up.there) (t, up, changes)

kept_changed : {A : Type 0} (Changes : State → State → Type 0) (es fs : List (ℕ × State)) (n : ℕ) (r : Result A StepRefusal) → IsKept es
    → ((s t : State) → AllLawful s.ops → Changes s t → AllLawful t.ops) → ChangesAt Changes es fs n r (lookup (nat_eq n) es) → IsKept fs
kept_changed Changes es fs n r kept lawful h = at (lookup (nat_eq n) es) h
  where
    at : (o : Option State) → ChangesAt Changes es fs n r o → IsKept fs
    at None g = subst IsKept (sym g.1) kept
    at (Some s) g = kept_updated es fs n s g.0 kept g.1 (lawful s g.0 (lawful_there es n s kept g.1.there) g.2)

-- ---- a gain of one entry

abbrev pub GainsAt : List (ℕ × State) → List (ℕ × State) → ℕ → List Op → Result Count StepRefusal → Option State → Type 0
GainsAt es fs to ops r o = MatchOption o ((r ≡ Err refusals.NoSite) × (fs ≡ es)) (λ s. (t : State) × IsUpdated es fs to s t × Gains s.ops ops r t.ops)

abbrev BringsTo : Sites → ℕ → List Op → Result Count StepRefusal → Sites → Option OpSet → Type 0
BringsTo old n ops r new o = MatchOption o ((r ≡ Err refusals.NoSite) × (new ≡ old)) (λ set. (after : OpSet) × Gains set ops r after × (new ≡ fin.insert old n after))

pub kept_brought : (es fs : List (ℕ × State)) (to : ℕ) (ops : List Op) (r : Result Count StepRefusal) → IsKept es → All IsLawful ops → GainsAt es fs to ops r (lookup (nat_eq to) es) → IsKept fs
kept_brought es fs to ops r kept lawful h = kept_changed (λ s t. Gains s.ops ops r t.ops) es fs to r kept (λ s t own gains. gains_lawful s.ops ops r t.ops own lawful gains) h

pub brought : (es fs : List (ℕ × State)) (to : ℕ) (ops : List Op) (r : Result Count StepRefusal) (old : Sites) → sites_of es ≡ old
    → GainsAt es fs to ops r (lookup (nat_eq to) es) → Brings old to ops r (sites_of fs)
brought es fs to ops r old view h = at (lookup (nat_eq to) es) refl h
  where
    at : (o : Option State) → lookup (nat_eq to) es ≡ o → GainsAt es fs to ops r o → Brings old to ops r (sites_of fs)
    at None e g =
        let none : fin.get old to ≡ None = ap (λ m. fin.get m to) (sym view) ∙ get-sites_of es to ∙ ap (option_map (λ x. x.ops)) e in
        subst (BringsTo old to ops r (sites_of fs)) (sym none) (g.0, ap sites_of g.1 ∙ view)
    at (Some s) e g =
        let set : fin.get old to ≡ Some s.ops = ap (λ m. fin.get m to) (sym view) ∙ get-sites_of es to ∙ ap (option_map (λ x. x.ops)) e in
        let new : sites_of fs ≡ fin.insert old to g.0.ops = sites_of-updated es fs to g.0 g.1.entries ∙ ap (λ m. fin.insert m to g.0.ops) view in
        subst (BringsTo old to ops r (sites_of fs)) (sym set) (g.0.ops, g.2, new)

-- ---- an edit of one entry

abbrev pub EditsAt : List (ℕ × State) → List (ℕ × State) → ℕ → LocalEdit → Result Answer StepRefusal → Option State → Type 0
EditsAt es fs n edit r o = MatchOption o ((r ≡ Err refusals.NoSite) × (fs ≡ es)) (λ s. (t : State) × IsUpdated es fs n s t × Edits s edit r t)

pub kept_edited : (es fs : List (ℕ × State)) (n : ℕ) (edit : LocalEdit) (r : Result Answer StepRefusal) → IsKept es → EditsAt es fs n edit r (lookup (nat_eq n) es) → IsKept fs
kept_edited es fs n edit r kept h = kept_changed (λ s t. Edits s edit r t) es fs n r kept (λ s t own edits. edits_lawful s t edit r own edits) h

-- an edit says nothing of room
reported : (s t : State) (edit : LocalEdit) (op : Op) → IsEdited s t edit op → IsEdited (site_with s.site s.ops) (site_with t.site t.ops) edit op
reported s t (kinds.Insert place symbol) op e = record { is = e.is; lawful = e.lawful; gained = e.gained; shows = e.shows; settings = e.settings }
reported s t (kinds.Delete place) op e = record { is = e.is; lawful = e.lawful; gained = e.gained; shows = e.shows; settings = e.settings }
reported s t (kinds.Set key value) op e = record { is = e.is; lawful = e.lawful; gained = e.gained; shows = e.shows; sets = e.sets; others = e.others }

roomless : (s t : State) (edit : LocalEdit) (r : Result Answer StepRefusal) → Edits s edit r t → Edits (site_with s.site s.ops) edit r (site_with t.site t.ops)
roomless s t edit (Ok a) e = (e.0, e.1, e.2, reported s t edit e.0 e.3)
roomless s t edit (Err why) e = e

abbrev EditsTo : Sites → ℕ → LocalEdit → Result Answer StepRefusal → Sites → Option OpSet → Type 0
EditsTo old n edit r new o = MatchOption o (Refuses old refusals.NoSite r new) (λ set. (after : OpSet) × Edits (site_with n set) edit r (site_with n after) × (new ≡ fin.insert old n after))

pub edited : (es fs : List (ℕ × State)) (n : ℕ) (edit : LocalEdit) (r : Result Answer StepRefusal) (old : Sites) → IsKept es → sites_of es ≡ old
    → EditsAt es fs n edit r (lookup (nat_eq n) es) → EditsSite old n edit r (sites_of fs)
edited es fs n edit r old kept view h = at (lookup (nat_eq n) es) refl h
  where
    at : (o : Option State) → lookup (nat_eq n) es ≡ o → EditsAt es fs n edit r o → EditsSite old n edit r (sites_of fs)
    at None e g =
        let none : fin.get old n ≡ None = ap (λ m. fin.get m n) (sym view) ∙ get-sites_of es n ∙ ap (option_map (λ x. x.ops)) e in
        subst (EditsTo old n edit r (sites_of fs)) (sym none) (g.0, ap sites_of g.1 ∙ view)
    at (Some s) e g =
        let t : State = g.0 in
        let set : fin.get old n ≡ Some s.ops = ap (λ m. fin.get m n) (sym view) ∙ get-sites_of es n ∙ ap (option_map (λ x. x.ops)) e in
        let new : sites_of fs ≡ fin.insert old n t.ops = sites_of-updated es fs n t g.1.entries ∙ ap (λ m. fin.insert m n t.ops) view in
        let own : s.site ≡ n = site_kept es n s kept e in
        let done : Edits (site_with n s.ops) edit r (site_with n t.ops) =
        subst (λ (m : ℕ). Edits (site_with m s.ops) edit r (site_with n t.ops)) own (subst (λ (m : ℕ). Edits (site_with s.site s.ops) edit r (site_with m t.ops)) (g.1.named ∙ own) (roomless s t edit r g.2)) in
        subst (EditsTo old n edit r (sites_of fs)) (sym set) (t.ops, done, new)

-- ---- a site that is opened again

abbrev pub ReopensAt : List (ℕ × State) → List (ℕ × State) → ℕ → Result Answer StepRefusal → Option State → Type 0
ReopensAt es fs n r o = MatchOption o ((r ≡ Err refusals.NoSite) × (fs ≡ es)) (λ s. (t : State) × IsUpdated es fs n s t × (t.ops ≡ s.ops) × IsReopened s.ops r)

pub kept_reopened : (es fs : List (ℕ × State)) (n : ℕ) (r : Result Answer StepRefusal) → IsKept es → ReopensAt es fs n r (lookup (nat_eq n) es) → IsKept fs
kept_reopened es fs n r kept h = at (lookup (nat_eq n) es) h
  where
    at : (o : Option State) → ReopensAt es fs n r o → IsKept fs
    at None g = subst IsKept (sym g.1) kept
    at (Some s) g = kept_updated es fs n s g.0 kept g.1 (subst AllLawful (sym g.2) (lawful_there es n s kept g.1.there))

-- an entry with the same operations says the same
same_sites : (es fs : List (ℕ × State)) (n : ℕ) (s t : State) → IsUpdated es fs n s t → t.ops ≡ s.ops → sites_of fs ≡ sites_of es
same_sites es fs n s t up same =
    fin.same_map nat_cmp_total nat_cmp-IsAntisymmetric _ _ (λ q. get-sites_of fs q ∙ ap (option_map (λ h. h.ops)) (up.entries q) ∙ here (nat_eq n q) q refl ∙ sym (get-sites_of es q))
  where
    here : (b : Bool) (q : ℕ) → nat_eq n q ≡ b → option_map (λ h. h.ops) (cond b (Some t) (lookup (nat_eq q) es)) ≡ option_map (λ h. h.ops) (lookup (nat_eq q) es)
    here true q e = ap Some same ∙ sym (ap (option_map (λ h. h.ops)) (ap (λ k. lookup (nat_eq k) es) (sym (same_number n q e)) ∙ up.there))
    here false q e = refl

abbrev ReopensTo : Sites → Result Answer StepRefusal → Sites → Option OpSet → Type 0
ReopensTo old r new o = MatchOption o (Refuses old refusals.NoSite r new) (λ set. IsReopened set r × (new ≡ old))

pub reopened : (es fs : List (ℕ × State)) (n : ℕ) (r : Result Answer StepRefusal) (old : Sites) → sites_of es ≡ old
    → ReopensAt es fs n r (lookup (nat_eq n) es) → Steps old (events.Restart n) r (sites_of fs)
reopened es fs n r old view h = at (lookup (nat_eq n) es) refl h
  where
    at : (o : Option State) → lookup (nat_eq n) es ≡ o → ReopensAt es fs n r o → Steps old (events.Restart n) r (sites_of fs)
    at None e g =
        let none : fin.get old n ≡ None = ap (λ m. fin.get m n) (sym view) ∙ get-sites_of es n ∙ ap (option_map (λ x. x.ops)) e in
        subst (ReopensTo old r (sites_of fs)) (sym none) (g.0, ap sites_of g.1 ∙ view)
    at (Some s) e g =
        let set : fin.get old n ≡ Some s.ops = ap (λ m. fin.get m n) (sym view) ∙ get-sites_of es n ∙ ap (option_map (λ x. x.ops)) e in
        subst (ReopensTo old r (sites_of fs)) (sym set) (g.3, same_sites es fs n s g.0 g.1 g.2 ∙ view)

pub only_full : (set : OpSet) (stop : Stopped) → (stop.why ≡ adds.Full → max_ops < size (with_all no_ops (in_order set))) → stop.why ≡ adds.Full → max_ops < size set
only_full set stop full is = subst (λ g. max_ops < size g) (with_all-in_order set) (full is)
