-- What events leave of an honest world, and what it says of a site.
use Rattle.std.proofs.Common.{◌≡◌, ℕ, zero, suc, ◌==◌, Bool, true, false, List, [], ◌∷◌, refl, sym, ap, ◌∙◌, subst, ◌⊎◌, inl, inr}
use Rattle.std.specs.Prelude.{Option, Some, None, Result, Ok, Err, MatchOption, MatchBool, IfSome, option_map}
use Rattle.std.specs.Option.{is_some, unwrap_or}
use Rattle.std.specs.Borrow.{Bor}
use Rattle.std.specs.FinMap as fin
use Rattle.std.specs.Cmp.{first_so, second_so}
use Rattle.std.specs.Ordering.{nat_cmp}
use Rattle.std.proofs.lemmas.Bool.{true≢false}
use Rattle.desk_ops.specs.declared.op.Stamp.{Stamp}
use Rattle.desk_ops.specs.declared.op.Op.{Op}
use Rattle.desk_ops.specs.Stamp.{head}
use Rattle.desk_ops.specs.Op.{stamp_of, target_of, IsLawful}
use Rattle.desk_ops.specs.Order.{op_cmp}
use Rattle.desk_ops.specs.OpSet.{OpSet, no_ops, has_op, with_op, IsWithin, AllLawful}
use Rattle.desk_ops.specs.Lists.{Among}
use Rattle.desk_ops.specs.Live.{IsOfLiveInsert}
use Rattle.desk_ops.specs.Shown.{shown_of}
use Rattle.desk_ops.specs.Faults.{faults_of}
use Rattle.desk_ops.proofs.Stamps.{by_cases}
use Rattle.desk_ops.proofs.One.{one_order}
use Rattle.desk_ops.proofs.Faulty.{none-some}
use Rattle.desk_ops.proofs.Parts.{one_unforked, place_live, some-stamp, waits, whole}
use Rattle.desk_replica.specs.declared.Count.{Count}
use Rattle.desk_replica.specs.State.{State}
use Rattle.desk_replica.specs.Edits.{new_stamp, parent_at, stamp_at}
use Rattle.desk_replica.proofs.Convergence.{convergence}
use Rattle.script_world.specs.declared.world.Answer.{Answer}
use Rattle.script_world.specs.declared.world.StepRefusal.{StepRefusal}
use Rattle.script_world.specs.declared.world.StepRefusal.TheVariants as refusals
use Rattle.script_world.specs.declared.world.LocalEdit.{LocalEdit}
use Rattle.script_world.specs.declared.world.LocalEdit.TheVariants as kinds
use Rattle.script_world.specs.Sites.{Sites, no_sites, is_held, all_held, AreLawful}
use Rattle.script_world.specs.World.{EventValues, site_refusal, Refuses, Adds, Gains, Brings, taken, site_with, IsEdited, Edits, EditsSite, IsReopened, Steps}
use Rattle.script_world.specs.World as events
use Rattle.script_world.specs.Honest.{all_ops, IsHeldAt, IsHonest, StandsIn}
use Rattle.script_world.proofs.Gained.{gains_keep, gains_from}
use Rattle.script_world.proofs.Kept.{known_refused}
use Rattle.script_world.proofs.Members.{at_all, all_at, all_held_by, all_lawful}
use Rattle.script_world.proofs.Honest.{honest_gained, honest_made}

lawful_of : (sites : Sites) → AreLawful sites → (n : ℕ) (set : OpSet) → fin.get sites n ≡ Some set → AllLawful set
lawful_of sites lawful n set at = subst (λ o. IfSome o AllLawful) at (lawful n)

-- ---- no site

pub honest_none : IsHonest no_sites
honest_none = record {
  unforked = one_unforked (all_ops no_sites) (λ o p m n e. absurd (nothing o m));
  targets = λ o t k e. absurd (nothing o k);
  own = λ o k. absurd (nothing o k);
}
  where
    nothing : (o : Op) → has_op (all_ops no_sites) o ≡ true → ⊥
    nothing o k = go (all_at no_sites o k)
      where
        go : (n : ℕ) × IsHeldAt no_sites n o → ⊥
        go r = let h : IsHeldAt no_sites r.0 o = r.1 in none-some h.0 (sym (fin.get-empty nat_cmp r.0) ∙ h.1)

-- ---- a site that is added

free_number : (old : Sites) (n : ℕ) → site_refusal old n ≡ None → (set : OpSet) → fin.get old n ≡ Some set → ⊥
free_number old n free set at = by_cases (n == 0)
    (λ z. none-some refusals.Number (sym free ∙ zero_refused z))
    (λ z. none-some refusals.KnownSite (sym free ∙ known_refused old n z (ap is_some at)))
  where
    zero_refused : (n == 0) ≡ true → site_refusal old n ≡ Some refusals.Number
    zero_refused z = rw z refl

no_op : {B : Type 0} (op : Op) → has_op no_ops op ≡ true → B
no_op op k = absurd (true≢false (sym k ∙ ap is_some (fin.get-empty op_cmp op)))

honest_refused : (old new : Sites) (why : StepRefusal) (r : Result Answer StepRefusal) → IsHonest old → Refuses old why r new → IsHonest new
honest_refused old new why r honest h = subst IsHonest (sym h.1) honest

honest_adds : (old new : Sites) (n : ℕ) (r : Result Answer StepRefusal) → IsHonest old → site_refusal old n ≡ None → Adds old n r new → IsHonest new
honest_adds old new n (Ok a) honest free h = subst IsHonest (sym h.1) (honest_gained old n no_ops honest (λ set at. absurd (free_number old n free set at)) (λ op k. no_op op k))
honest_adds old new n (Err why) honest free h = subst IsHonest (sym h.1) honest

-- ---- a site that gains what some site holds

all_of_held : (sites : Sites) (ops : List Op) → all_held sites ops ≡ true → (op : Op) → Among op ops → is_held sites op ≡ true
all_of_held sites [] h op m = absurd m
all_of_held sites (o ∷ ops) h op (inl e) = subst (λ p. is_held sites p ≡ true) e (first_so (is_held sites o) (all_held sites ops) h)
all_of_held sites (o ∷ ops) h op (inr m) = all_of_held sites ops (second_so (is_held sites o) (all_held sites ops) h) op m

pub honest_brings : (old new : Sites) (n : ℕ) (ops : List Op) (r : Result Count StepRefusal) → IsHonest old → all_held old ops ≡ true → Brings old n ops r new → IsHonest new
honest_brings old new n ops r honest held h = at (fin.get old n) refl h
  where
    at : (o : Option OpSet) → fin.get old n ≡ o → MatchOption o ((r ≡ Err refusals.NoSite) × (new ≡ old)) (λ set. (after : OpSet) × Gains set ops r after × (new ≡ fin.insert old n after)) → IsHonest new
    at None e g = subst IsHonest (sym g.1) honest
    at (Some set) e g = subst IsHonest (sym g.2) (honest_gained old n g.0 honest
        (λ other there op k. gains_keep set ops r g.0 g.1 op (ap (λ q. has_op (unwrap_or q set) op) (sym e ∙ there) ∙ k))
        (λ op k. was op (gains_from set ops r g.0 g.1 op k)))
      where
        was : (op : Op) → (has_op set op ≡ true) ⊎ Among op ops → has_op (all_ops old) op ≡ true
        was op (inl k) = at_all old n op (set, e, k)
        was op (inr m) = all_held_by old op ∙ all_of_held old ops held op m

-- ---- a site that is edited

abbrev Hangs : OpSet → Op → Type 0
Hangs set op = (t : Stamp) → target_of op ≡ Some t → (t ≡ head) ⊎ IsOfLiveInsert set t

parent_live : (set : OpSet) (n place : ℕ) → (parent_at (shown_of set) place ≡ head) ⊎ IsOfLiveInsert set (parent_at (shown_of set) place)
parent_live set n zero = inl refl
parent_live set n (suc i) = place_live set i

-- the operation made bears the site's next stamp, is lawful, and hangs on the head or on what is shown
edited : (n : ℕ) (set after : OpSet) (edit : LocalEdit) (op : Op) → IsEdited (site_with n set) (site_with n after) edit op
    → (stamp_of op ≡ new_stamp (site_with n set)) × IsLawful op × (after ≡ with_op set op) × Hangs set op
edited n set after (kinds.Insert place symbol) op e = (ap stamp_of e.is, e.lawful, e.gained, hangs)
  where
    hangs : Hangs set op
    hangs t k = subst (λ (s : Stamp). (s ≡ head) ⊎ IsOfLiveInsert set s) (some-stamp (parent_at (shown_of set) place) t (sym (ap target_of e.is) ∙ k)) (parent_live set n place)
edited n set after (kinds.Delete place) op e = (ap stamp_of e.is, e.lawful, e.gained, hangs)
  where
    hangs : Hangs set op
    hangs t k = subst (λ (s : Stamp). (s ≡ head) ⊎ IsOfLiveInsert set s) (some-stamp (stamp_at (shown_of set) place) t (sym (ap target_of e.is) ∙ k)) (place_live set place)
edited n set after (kinds.Set key value) op e = (ap stamp_of e.is, e.lawful, e.gained, λ t k. none-some t (sym (ap target_of e.is) ∙ k))

honest_edits : (old new : Sites) (n : ℕ) (edit : LocalEdit) (r : Result Answer StepRefusal) → IsHonest old → AreLawful old → EditsSite old n edit r new → IsHonest new
honest_edits old new n edit r honest lawful h = at (fin.get old n) refl h
  where
    at : (o : Option OpSet) → fin.get old n ≡ o → MatchOption o (Refuses old refusals.NoSite r new) (λ set. (after : OpSet) × Edits (site_with n set) edit r (site_with n after) × (new ≡ fin.insert old n after)) → IsHonest new
    at None e g = honest_refused old new refusals.NoSite r honest g
    at (Some set) e g = subst IsHonest (sym g.2) (made r g.0 g.1)
      where
        made : (r : Result Answer StepRefusal) (after : OpSet) → Edits (site_with n set) edit r (site_with n after) → IsHonest (fin.insert old n after)
        made (Ok a) after d =
            let k = edited n set after edit d.0 d.3 in
            subst (λ (s : OpSet). IsHonest (fin.insert old n s)) (sym k.2) (honest_made old n set d.0 honest (lawful_of old lawful) e k.0 k.1 k.3)
        made (Err why) after d = honest_gained old n after honest
            (λ other there op k. ap (λ s. has_op s op) d.3 ∙ ap (λ q. has_op (unwrap_or q set) op) (sym e ∙ there) ∙ k)
            (λ op k. at_all old n op (set, e, sym (ap (λ s. has_op s op) d.3) ∙ k))

-- ---- an event

pub honest_steps : (old new : Sites) (c : EventValues) (r : Result Answer StepRefusal) → AreLawful old → Steps old c r new → IsHonest old → IsHonest new
honest_steps old new (events.Site n) r lawful h honest = at (site_refusal old n) refl h
  where
    at : (o : Option StepRefusal) → site_refusal old n ≡ o → MatchOption o (Adds old n r new) (λ why. Refuses old why r new) → IsHonest new
    at None e g = honest_adds old new n r honest e g
    at (Some why) e g = honest_refused old new why r honest g
honest_steps old new (events.Insert n place symbol) r lawful h honest = honest_edits old new n (kinds.Insert place symbol) r honest lawful h
honest_steps old new (events.Delete n place) r lawful h honest = honest_edits old new n (kinds.Delete place) r honest lawful h
honest_steps old new (events.Set n key value) r lawful h honest = honest_edits old new n (kinds.Set key value) r honest lawful h
honest_steps old new (events.Give to ops) r lawful h honest = at (fin.get old to) h
  where
    held : (b : Bool) → all_held old ops ≡ b → MatchBool b ((given : Result Count StepRefusal) × (r ≡ taken given) × Brings old to ops given new) (Refuses old refusals.Strange r new) → IsHonest new
    held true e g = honest_brings old new to ops g.0 honest e g.2
    held false e g = honest_refused old new refusals.Strange r honest g

    at : (o : Option OpSet) → MatchOption o (Refuses old refusals.NoSite r new)
        (λ set. MatchBool (all_held old ops) ((given : Result Count StepRefusal) × (r ≡ taken given) × Brings old to ops given new) (Refuses old refusals.Strange r new)) → IsHonest new
    at None g = honest_refused old new refusals.NoSite r honest g
    at (Some set) g = held (all_held old ops) refl g
honest_steps old new (events.Restart n) r lawful h honest = at (fin.get old n) h
  where
    at : (o : Option OpSet) → MatchOption o (Refuses old refusals.NoSite r new) (λ set. IsReopened set r × (new ≡ old)) → IsHonest new
    at None g = honest_refused old new refusals.NoSite r honest g
    at (Some set) g = subst IsHonest (sym g.1) honest

-- ---- a site of an honest world

none_left : {A : Type 0} (xs : List A) → ((x : A) → Among x xs → ⊥) → xs ≡ []
none_left [] none = refl
none_left (x ∷ xs) none = absurd (none x (inl refl))

stands : (sites : Sites) (n : ℕ) (set : OpSet) → AreLawful sites → fin.get sites n ≡ Some set → IsHonest sites → StandsIn sites set
stands sites n set lawful at honest = record {
  within = within;
  order = one_order set (all_ops sites) own all honest.unforked within;
  waits = λ f m. waits set (all_ops sites) own all honest.unforked within targets f m;
  whole = λ v. none_left (faults_of set) (λ f m. whole set (all_ops sites) own all honest.unforked within targets v f m);
  alike = λ m other there same. (convergence.equal_sets set other same).1;
}
  where
    within : IsWithin set (all_ops sites)
    within op k = at_all sites n op (set, at, k)

    own : AllLawful set
    own = lawful_of sites lawful n set at

    all : AllLawful (all_ops sites)
    all = all_lawful sites (lawful_of sites lawful)

    targets : (op : Op) (t : Stamp) → has_op (all_ops sites) op ≡ true → target_of op ≡ Some t → (t ≡ head) ⊎ IsOfLiveInsert (all_ops sites) t
    targets = honest.targets

-- and of the replica that a look-up lends
pub stands_lent : (sites : Sites) (n : ℕ) (r : Option (Bor State)) → AreLawful sites → option_map (λ s. s.now.ops) r ≡ fin.get sites n → IsHonest sites → IfSome r (λ s. StandsIn sites s.now.ops)
stands_lent sites n None lawful e honest = tt
stands_lent sites n (Some s) lawful e honest = stands sites n s.now.ops lawful (sym e) honest
