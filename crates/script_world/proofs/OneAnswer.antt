-- One answer, memory aside: of a gain, of an edit, of an event, and of a list of events.
use Rattle.std.proofs.Common.{◌≡◌, ℕ, ◌<◌, ◌≤◌, ◌==◌, Bool, true, false, cond, List, [], ◌∷◌, length, take, refl, sym, ap, ◌∙◌, subst, ◌⊎◌, inl, inr, arith}
use Rattle.std.specs.Prelude.{Option, Some, None, Result, Ok, Err, MatchOption, MatchBool, IfSome, not, nat_le, nat_lt}
use Rattle.std.specs.Option.{unwrap_or}
use Rattle.std.specs.FinMap as fin
use Rattle.std.specs.Ordering.{nat_cmp, eq_by_cmp}
use Rattle.std.specs.Cmp.{nat_cmp_total}
use Rattle.std.proofs.lemmas.Bool.{true≢false}
use Rattle.std.proofs.lemmas.Bool.Decides.{nat_tests}
use Rattle.std.proofs.lemmas.List.{length-take-le, take-take, get_or-take}
use Rattle.desk_ops.specs.declared.op.Op.{Op}
use Rattle.desk_ops.specs.declared.op.Op.TheVariants as ops
use Rattle.desk_ops.specs.OpSet.{OpSet, no_ops, with_op, with_all, has_op, size, max_ops}
use Rattle.desk_ops.specs.Stamp.{max_counter}
use Rattle.desk_ops.specs.Op.{is_symbol, is_value}
use Rattle.desk_ops.specs.Live.{insert_of}
use Rattle.desk_ops.specs.Shown.{shown_of}
use Rattle.desk_ops.specs.Held.{greatest_counter_of}
use Rattle.desk_ops.proofs.Stamps.{by_cases}
use Rattle.desk_ops.proofs.Faulty.{none-some}
use Rattle.desk_held.specs.declared.AddRefusal.{AddRefusal}
use Rattle.desk_held.specs.declared.AddRefusal.TheVariants as adds
use Rattle.desk_held.specs.declared.join.Stopped.{Stopped}
use Rattle.desk_held.specs.Joining.{IsStopped}
use Rattle.desk_replica.specs.declared.Count.{Count}
use Rattle.desk_replica.specs.declared.Refusal.{Refusal as EditRefusal}
use Rattle.desk_replica.specs.declared.Refusal.TheVariants as edits
use Rattle.desk_replica.specs.State.{State}
use Rattle.desk_replica.specs.Edits.{edit_refusal, new_stamp, new_insert, stamp_at}
use Rattle.desk_replica.proofs.Sets.{too_many, grows_by_one}
use Rattle.script_world.specs.declared.world.Answer.{Answer}
use Rattle.script_world.specs.declared.world.Answer.TheVariants as answers
use Rattle.script_world.specs.declared.world.StepRefusal.{StepRefusal}
use Rattle.script_world.specs.declared.world.StepRefusal.TheVariants as refusals
use Rattle.script_world.specs.declared.world.LocalEdit.{LocalEdit}
use Rattle.script_world.specs.declared.world.LocalEdit.TheVariants as kinds
use Rattle.script_world.specs.Sites.{Sites, no_sites, all_held}
use Rattle.script_world.specs.World.{EventValues, site_refusal, Refuses, Adds, Gains, Brings, taken, site_with, refusal_of, IsEdited, Edits, EditsSite, IsReopened, Steps}
use Rattle.script_world.specs.World as events
use Rattle.script_world.specs.Plays.{Plays}
use Rattle.script_world.specs.OneAnswer.{AreWithin, halts_for_memory, is_for_memory, NoneForMemory, OneAnswer}

-- a refusal for memory is none that is not
not_memory : {B : Type 0} (b : Bool) → b ≡ true → b ≡ false → B
not_memory b t f = absurd (true≢false (sym t ∙ f))

-- ---- a gain

abbrev stop_of : ℕ → AddRefusal → Stopped
stop_of taken why = record { taken = taken; why = why }

same_stop : (s t : Stopped) → s.taken ≡ t.taken → s.why ≡ t.why → s ≡ t
same_stop s t e f = ap (λ n. stop_of n s.why) e ∙ ap (stop_of t.taken) f

abbrev count_of : ℕ → ℕ → Count
count_of new known = record { new = new; known = known }

same_count : (c d : Count) → c.new ≡ d.new → c.known ≡ d.known → c ≡ d
same_count c d e f = ap (λ n. count_of n c.known) e ∙ ap (count_of d.new) f

-- of two full stops neither comes first: at the first as many are held as may be, and the second gained more
not_first : (old a b : OpSet) (list : List Op) (s t : Stopped) → IsStopped old a list s → IsStopped old b list t → s.why ≡ adds.Full → t.why ≡ adds.Full → s.taken < t.taken → ⊥
not_first old a b list s t g h full also lt =
    let w = h.within in
    let len : length (take t.taken list) ≡ t.taken = length-take-le t.taken list (omega (arith, w)) in
    let first : IsStopped old a (take t.taken list) s = record {
      gained = g.gained ∙ ap (with_all old) (sym (take-take s.taken t.taken list (omega (arith, lt))));
      within = omega (arith, len, lt);
      next = λ d. subst (λ o. has_op a o ≡ false) (sym (get_or-take t.taken list s.taken d lt)) (g.next d);
      full = g.full;
    } in
    let more : max_ops < size (with_all old (take t.taken list)) = too_many old a (take t.taken list) s first full in
    let all : size b ≡ size (with_all old (take t.taken list)) = ap size h.gained in
    let most : size b ≡ max_ops = h.full.0 also in
    absurd (omega (arith, more, all, most))

one_stop : (old a b : OpSet) (list : List Op) (s t : Stopped) → IsStopped old a list s → IsStopped old b list t → s.why ≡ adds.Full → t.why ≡ adds.Full → s.taken ≡ t.taken
one_stop old a b list s t g h full also =
    by_cases (nat_lt s.taken t.taken)
    (λ e. absurd (not_first old a b list s t g h full also (below s.taken t.taken e)))
    (λ e. by_cases (nat_lt t.taken s.taken)
    (λ f. absurd (not_first old b a list t s h g also full (below t.taken s.taken f)))
    (λ f. neither s.taken t.taken e f))
  where
    below : (m n : ℕ) → nat_lt m n ≡ true → m < n
    below m n e = grind (arith, nat_tests)

    neither : (m n : ℕ) → nat_lt m n ≡ false → nat_lt n m ≡ false → m ≡ n
    neither m n e f = grind (arith, nat_tests)

halted_full : (why : AddRefusal) → halts_for_memory why ≡ false → why ≡ adds.Full
halted_full adds.Full f = refl
halted_full adds.NoMemory f = absurd (true≢false f)

-- a stop that is not for memory is full
full_stop : (e : StepRefusal) (s : Stopped) → e ≡ refusals.Halted s → is_for_memory (Err e) ≡ false → s.why ≡ adds.Full
full_stop e s is f = halted_full s.why (sym (ap (λ w. is_for_memory (Err w)) is) ∙ f)

-- where all are gained and held, nothing stops
no_stop : (set a b : OpSet) (list : List Op) (s : Stopped) → a ≡ with_all set list → size a ≤ max_ops → IsStopped set b list s → s.why ≡ adds.Full → ⊥
no_stop set a b list s all within stop full =
    let more : max_ops < size (with_all set list) = too_many set b list s stop full in
    let is : size a ≡ size (with_all set list) = ap size all in
    absurd (omega (arith, more, is, within))

one_gain : (set a b : OpSet) (list : List Op) (r q : Result Count StepRefusal) → Gains set list r a → Gains set list q b → is_for_memory (taken r) ≡ false → is_for_memory (taken q) ≡ false → (r ≡ q) × (a ≡ b)
one_gain set a b list (Ok c) (Ok d) g h fr fq = (ap Ok (same_count c d news knowns), g.0 ∙ sym h.0)
  where
    sizes : size a ≡ size b
    sizes = ap size (g.0 ∙ sym h.0)

    news : c.new ≡ d.new
    news = let i = g.1.news in let j = h.1.news in let k = sizes in omega (arith, i, j, k)

    knowns : c.known ≡ d.known
    knowns = let i = g.1.all in let j = h.1.all in let k = news in omega (arith, i, j, k)
one_gain set a b list (Ok c) (Err e) g h fr fq = absurd (no_stop set a b list h.0 g.0 g.2 h.2 (full_stop e h.0 h.1 fq))
one_gain set a b list (Err e) (Ok d) g h fr fq = absurd (no_stop set b a list g.0 h.0 h.2 g.2 (full_stop e g.0 g.1 fr))
one_gain set a b list (Err e) (Err f) g h fr fq =
    let full : g.0.why ≡ adds.Full = full_stop e g.0 g.1 fr in
    let also : h.0.why ≡ adds.Full = full_stop f h.0 h.1 fq in
    let same : g.0.taken ≡ h.0.taken = one_stop set a b list g.0 h.0 g.2 h.2 full also in (
      ap Err (g.1 ∙ ap refusals.Halted (same_stop g.0 h.0 same (full ∙ sym also)) ∙ sym h.1),
      g.2.gained ∙ ap (λ n. with_all set (take n list)) same ∙ sym h.2.gained,
    )

gain_within : (set after : OpSet) (list : List Op) (r : Result Count StepRefusal) → Gains set list r after → size after ≤ max_ops
gain_within set after list (Ok c) g = g.2
gain_within set after list (Err e) g = g.3

-- ---- an edit

abbrev op_of : State → LocalEdit → Op
op_of s (kinds.Insert place symbol) = insert_of (new_insert s place symbol)
op_of s (kinds.Delete place) = ops.Delete (new_stamp s) (stamp_at (shown_of s.ops) place)
op_of s (kinds.Set key value) = ops.Set (new_stamp s) key value

edited_is : (s t : State) (edit : LocalEdit) (op : Op) → IsEdited s t edit op → (op ≡ op_of s edit) × (t.ops ≡ with_op s.ops op)
edited_is s t (kinds.Insert place symbol) op e = (e.is, e.gained)
edited_is s t (kinds.Delete place) op e = (e.is, e.gained)
edited_is s t (kinds.Set key value) op e = (e.is, e.gained)

-- a refusal that is not for memory is the first cause
caused : (s : State) (edit : LocalEdit) (e : StepRefusal) (why : EditRefusal) → e ≡ refusals.Edit why → ((why ≡ edits.NoMemory) × (refusal_of s.ops edit ≡ None)) ⊎ (refusal_of s.ops edit ≡ Some why) → is_for_memory (Err e) ≡ false
    → refusal_of s.ops edit ≡ Some why
caused s edit e why is (inl none) f = not_memory (is_for_memory (Err e)) (ap (λ w. is_for_memory (Err w)) (is ∙ ap refusals.Edit none.0)) f
caused s edit e why is (inr some) f = some

one_edit : (s t u : State) (edit : LocalEdit) (r q : Result Answer StepRefusal) → Edits s edit r t → Edits s edit q u → is_for_memory r ≡ false → is_for_memory q ≡ false → (r ≡ q) × (t.ops ≡ u.ops)
one_edit s t u edit (Ok a) (Ok b) g h fr fq =
    let first = edited_is s t edit g.0 g.3 in
    let second = edited_is s u edit h.0 h.3 in
    let same : g.0 ≡ h.0 = first.0 ∙ sym second.0 in
    (ap Ok (g.1 ∙ ap answers.Made same ∙ sym h.1), first.1 ∙ ap (with_op s.ops) same ∙ sym second.1)
one_edit s t u edit (Ok a) (Err e) g h fr fq = none-some h.0 (sym g.2 ∙ caused s edit e h.0 h.1 h.2 fq)
one_edit s t u edit (Err e) (Ok b) g h fr fq = none-some g.0 (sym h.2 ∙ caused s edit e g.0 g.1 g.2 fr)
one_edit s t u edit (Err e) (Err f) g h fr fq =
    let same : g.0 ≡ h.0 = ap (λ o. unwrap_or o g.0) (sym (caused s edit e g.0 g.1 g.2 fr) ∙ caused s edit f h.0 h.1 h.2 fq) in
    (ap Err (g.1 ∙ ap refusals.Edit same ∙ sym h.1), g.3 ∙ sym h.3)

-- an edit that is not refused finds a set with room for one more
edit_room : (set : OpSet) (is_there value : Bool) → edit_refusal set is_there value ≡ None → size set ≤ max_ops → size set < max_ops
edit_room set is_there value none within = go is_there value (size set == max_ops) refl none
  where
    other : (m n : ℕ) → (m == n) ≡ false → m ≤ n → m < n
    other m n e le = grind (arith, nat_tests)

    go : (a b z : Bool) → (size set == max_ops) ≡ z → cond (not a) (Some edits.Place) (cond (not b) (Some edits.Value) (cond z (Some edits.Full) (cond (nat_le max_counter (greatest_counter_of set)) (Some edits.ClockFull) None))) ≡ None → size set < max_ops
    go false b z e k = none-some edits.Place (sym k)
    go true false z e k = none-some edits.Value (sym k)
    go true true true e k = none-some edits.Full (sym k)
    go true true false e k = other (size set) max_ops e within

edit_has_room : (set : OpSet) (edit : LocalEdit) → refusal_of set edit ≡ None → size set ≤ max_ops → size set < max_ops
edit_has_room set (kinds.Insert place symbol) none within = edit_room set (nat_le place (length (shown_of set))) (is_symbol symbol) none within
edit_has_room set (kinds.Delete place) none within = edit_room set (nat_lt place (length (shown_of set))) true none within
edit_has_room set (kinds.Set key value) none within = edit_room set true (is_value key value) none within

edit_within : (s t : State) (edit : LocalEdit) (r : Result Answer StepRefusal) → Edits s edit r t → size s.ops ≤ max_ops → size t.ops ≤ max_ops
edit_within s t edit (Ok a) g within =
    let room = edit_has_room s.ops edit g.2 within in
    let one = grows_by_one s.ops g.0 in
    let is : size t.ops ≡ size (with_op s.ops g.0) = ap size (edited_is s t edit g.0 g.3).1 in
    omega (arith, room, one, is)
edit_within s t edit (Err e) g within = let is : size t.ops ≡ size s.ops = ap size g.3 in omega (arith, is, within)

-- ---- a restart

reopened_ok : (set : OpSet) (r : Result Answer StepRefusal) → size set ≤ max_ops → IsReopened set r → is_for_memory r ≡ false → r ≡ Ok answers.Done
reopened_ok set (Ok a) within g f = ap Ok g
reopened_ok set (Err e) within g f = let more = g.3 (full_stop e g.0 g.1 f) in absurd (omega (arith, more, within))

-- ---- an event keeps all within what may be held

put_within : (old : Sites) (n : ℕ) (after : OpSet) → AreWithin old → size after ≤ max_ops → AreWithin (fin.insert old n after)
put_within old n after within le q = subst (λ o. IfSome o (λ set. size set ≤ max_ops)) (sym (fin.get-insert nat_cmp_total old n after q)) (go (eq_by_cmp nat_cmp q n))
  where
    go : (b : Bool) → IfSome (cond b (Some after) (fin.get old q)) (λ set. size set ≤ max_ops)
    go true = le
    go false = within q

pub none_within : AreWithin no_sites
none_within n = subst (λ o. IfSome o (λ set. size set ≤ max_ops)) (sym (fin.get-empty nat_cmp n)) tt

at_within : (old : Sites) (n : ℕ) (set : OpSet) → AreWithin old → fin.get old n ≡ Some set → size set ≤ max_ops
at_within old n set within e = subst (λ o. IfSome o (λ set. size set ≤ max_ops)) e (within n)

edits_within : (old new : Sites) (n : ℕ) (edit : LocalEdit) (r : Result Answer StepRefusal) → AreWithin old → EditsSite old n edit r new → AreWithin new
edits_within old new n edit r within h = at (fin.get old n) refl h
  where
    at : (o : Option OpSet) → fin.get old n ≡ o → MatchOption o (Refuses old refusals.NoSite r new) (λ set. (after : OpSet) × Edits (site_with n set) edit r (site_with n after) × (new ≡ fin.insert old n after)) → AreWithin new
    at None e g = subst AreWithin (sym g.1) within
    at (Some set) e g = subst AreWithin (sym g.2) (put_within old n g.0 within (edit_within (site_with n set) (site_with n g.0) edit r g.1 (at_within old n set within e)))

pub brings_within : (old new : Sites) (n : ℕ) (list : List Op) (r : Result Count StepRefusal) → AreWithin old → Brings old n list r new → AreWithin new
brings_within old new n list r within h = at (fin.get old n) h
  where
    at : (o : Option OpSet) → MatchOption o ((r ≡ Err refusals.NoSite) × (new ≡ old)) (λ set. (after : OpSet) × Gains set list r after × (new ≡ fin.insert old n after)) → AreWithin new
    at None g = subst AreWithin (sym g.1) within
    at (Some set) g = subst AreWithin (sym g.2) (put_within old n g.0 within (gain_within set g.0 list r g.1))

adds_within : (old new : Sites) (n : ℕ) (r : Result Answer StepRefusal) → AreWithin old → Adds old n r new → AreWithin new
adds_within old new n (Ok a) within g = subst AreWithin (sym g.1) (put_within old n no_ops within (let e : size no_ops ≡ 0 = fin.len-empty _ _ in omega (arith, e)))
adds_within old new n (Err e) within g = subst AreWithin (sym g.1) within

pub step_within : (old new : Sites) (c : EventValues) (r : Result Answer StepRefusal) → AreWithin old → Steps old c r new → AreWithin new
step_within old new (events.Site n) r within h = at (site_refusal old n) h
  where
    at : (o : Option StepRefusal) → MatchOption o (Adds old n r new) (λ why. Refuses old why r new) → AreWithin new
    at None g = adds_within old new n r within g
    at (Some why) g = subst AreWithin (sym g.1) within
step_within old new (events.Insert n place symbol) r within h = edits_within old new n (kinds.Insert place symbol) r within h
step_within old new (events.Delete n place) r within h = edits_within old new n (kinds.Delete place) r within h
step_within old new (events.Set n key value) r within h = edits_within old new n (kinds.Set key value) r within h
step_within old new (events.Give to list) r within h = at (fin.get old to) h
  where
    held : (b : Bool) → MatchBool b ((given : Result Count StepRefusal) × (r ≡ taken given) × Brings old to list given new) (Refuses old refusals.Strange r new) → AreWithin new
    held true g = brings_within old new to list g.0 within g.2
    held false g = subst AreWithin (sym g.1) within

    at : (o : Option OpSet) → MatchOption o (Refuses old refusals.NoSite r new)
        (λ set. MatchBool (all_held old list) ((given : Result Count StepRefusal) × (r ≡ taken given) × Brings old to list given new) (Refuses old refusals.Strange r new)) → AreWithin new
    at None g = subst AreWithin (sym g.1) within
    at (Some set) g = held (all_held old list) g
step_within old new (events.Restart n) r within h = at (fin.get old n) h
  where
    at : (o : Option OpSet) → MatchOption o (Refuses old refusals.NoSite r new) (λ set. IsReopened set r × (new ≡ old)) → AreWithin new
    at None g = subst AreWithin (sym g.1) within
    at (Some set) g = subst AreWithin (sym g.1) within

pub play_within : (old new : Sites) (cs : List EventValues) (rs : List (Result Answer StepRefusal)) → AreWithin old → Plays old cs rs new → AreWithin new
play_within old new [] [] within p = subst AreWithin (sym p) within
play_within old new [] (r ∷ rs) within p = absurd p
play_within old new (c ∷ cs) [] within p = absurd p
play_within old new (c ∷ cs) (r ∷ rs) within p = play_within p.0 new cs rs (step_within old p.0 c r within p.1) p.2

-- ---- an event has one answer

one_refusal : {A : Type 0} (old new other : Sites) (why : StepRefusal) (r q : Result A StepRefusal) → (r ≡ Err why) × (new ≡ old) → (q ≡ Err why) × (other ≡ old) → (r ≡ q) × (new ≡ other)
one_refusal old new other why r q g h = (g.0 ∙ sym h.0, g.1 ∙ sym h.1)

one_edited : (old new other : Sites) (n : ℕ) (edit : LocalEdit) (r q : Result Answer StepRefusal) → EditsSite old n edit r new → EditsSite old n edit q other → is_for_memory r ≡ false → is_for_memory q ≡ false → (r ≡ q) × (new ≡ other)
one_edited old new other n edit r q g h fr fq = at (fin.get old n) g h
  where
    at : (o : Option OpSet) → MatchOption o (Refuses old refusals.NoSite r new) (λ set. (after : OpSet) × Edits (site_with n set) edit r (site_with n after) × (new ≡ fin.insert old n after))
        → MatchOption o (Refuses old refusals.NoSite q other) (λ set. (after : OpSet) × Edits (site_with n set) edit q (site_with n after) × (other ≡ fin.insert old n after)) → (r ≡ q) × (new ≡ other)
    at None g h = one_refusal old new other refusals.NoSite r q g h
    at (Some set) g h =
        let one = one_edit (site_with n set) (site_with n g.0) (site_with n h.0) edit r q g.1 h.1 fr fq in
        (one.0, g.2 ∙ ap (fin.insert old n) one.1 ∙ sym h.2)

pub one_brought : (old new other : Sites) (n : ℕ) (list : List Op) (r q : Result Count StepRefusal) → Brings old n list r new → Brings old n list q other → is_for_memory (taken r) ≡ false → is_for_memory (taken q) ≡ false
    → (r ≡ q) × (new ≡ other)
one_brought old new other n list r q g h fr fq = at (fin.get old n) g h
  where
    at : (o : Option OpSet) → MatchOption o ((r ≡ Err refusals.NoSite) × (new ≡ old)) (λ set. (after : OpSet) × Gains set list r after × (new ≡ fin.insert old n after))
        → MatchOption o ((q ≡ Err refusals.NoSite) × (other ≡ old)) (λ set. (after : OpSet) × Gains set list q after × (other ≡ fin.insert old n after)) → (r ≡ q) × (new ≡ other)
    at None g h = one_refusal old new other refusals.NoSite r q g h
    at (Some set) g h =
        let one = one_gain set g.0 h.0 list r q g.1 h.1 fr fq in
        (one.0, g.2 ∙ ap (fin.insert old n) one.1 ∙ sym h.2)

one_added : (old new other : Sites) (n : ℕ) (r q : Result Answer StepRefusal) → Adds old n r new → Adds old n q other → is_for_memory r ≡ false → is_for_memory q ≡ false → (r ≡ q) × (new ≡ other)
one_added old new other n (Ok a) (Ok b) g h fr fq = (ap Ok (g.0 ∙ sym h.0), g.1 ∙ sym h.1)
one_added old new other n (Ok a) (Err f) g h fr fq = not_memory (is_for_memory (Err f)) (ap (λ w. is_for_memory (Err w)) h.0) fq
one_added old new other n (Err e) q g h fr fq = not_memory (is_for_memory (Err e)) (ap (λ w. is_for_memory (Err w)) g.0) fr

pub one_step : (old new other : Sites) (c : EventValues) (r q : Result Answer StepRefusal) → AreWithin old → Steps old c r new → Steps old c q other → is_for_memory r ≡ false → is_for_memory q ≡ false → (r ≡ q) × (new ≡ other)
one_step old new other (events.Site n) r q within g h fr fq = at (site_refusal old n) g h
  where
    at : (o : Option StepRefusal) → MatchOption o (Adds old n r new) (λ why. Refuses old why r new) → MatchOption o (Adds old n q other) (λ why. Refuses old why q other) → (r ≡ q) × (new ≡ other)
    at None g h = one_added old new other n r q g h fr fq
    at (Some why) g h = one_refusal old new other why r q g h
one_step old new other (events.Insert n place symbol) r q within g h fr fq = one_edited old new other n (kinds.Insert place symbol) r q g h fr fq
one_step old new other (events.Delete n place) r q within g h fr fq = one_edited old new other n (kinds.Delete place) r q g h fr fq
one_step old new other (events.Set n key value) r q within g h fr fq = one_edited old new other n (kinds.Set key value) r q g h fr fq
one_step old new other (events.Give to list) r q within g h fr fq = at (fin.get old to) g h
  where
    held : (b : Bool) → MatchBool b ((given : Result Count StepRefusal) × (r ≡ taken given) × Brings old to list given new) (Refuses old refusals.Strange r new)
        → MatchBool b ((given : Result Count StepRefusal) × (q ≡ taken given) × Brings old to list given other) (Refuses old refusals.Strange q other) → (r ≡ q) × (new ≡ other)
    held true g h =
        let one = one_brought old new other to list g.0 h.0 g.2 h.2 (sym (ap is_for_memory g.1) ∙ fr) (sym (ap is_for_memory h.1) ∙ fq) in
        (g.1 ∙ ap taken one.0 ∙ sym h.1, one.1)
    held false g h = one_refusal old new other refusals.Strange r q g h

    at : (o : Option OpSet) → MatchOption o (Refuses old refusals.NoSite r new)
        (λ set. MatchBool (all_held old list) ((given : Result Count StepRefusal) × (r ≡ taken given) × Brings old to list given new) (Refuses old refusals.Strange r new))
        → MatchOption o (Refuses old refusals.NoSite q other)
        (λ set. MatchBool (all_held old list) ((given : Result Count StepRefusal) × (q ≡ taken given) × Brings old to list given other) (Refuses old refusals.Strange q other)) → (r ≡ q) × (new ≡ other)
    at None g h = one_refusal old new other refusals.NoSite r q g h
    at (Some set) g h = held (all_held old list) g h
one_step old new other (events.Restart n) r q within g h fr fq = at (fin.get old n) refl g h
  where
    at : (o : Option OpSet) → fin.get old n ≡ o → MatchOption o (Refuses old refusals.NoSite r new) (λ set. IsReopened set r × (new ≡ old)) → MatchOption o (Refuses old refusals.NoSite q other) (λ set. IsReopened set q × (other ≡ old))
        → (r ≡ q) × (new ≡ other)
    at None e g h = one_refusal old new other refusals.NoSite r q g h
    at (Some set) e g h =
        let le = at_within old n set within e in
        (reopened_ok set r le g.0 fr ∙ sym (reopened_ok set q le h.0 fq), g.1 ∙ sym h.1)

-- ---- and so a list of events

pub one_play : (old new other : Sites) (cs : List EventValues) (rs qs : List (Result Answer StepRefusal)) → AreWithin old → Plays old cs rs new → Plays old cs qs other → NoneForMemory rs → NoneForMemory qs → (rs ≡ qs) × (new ≡ other)
one_play old new other [] [] [] within p s fr fq = (refl, p ∙ sym s)
one_play old new other [] (r ∷ rs) qs within p s fr fq = absurd p
one_play old new other [] [] (q ∷ qs) within p s fr fq = absurd s
one_play old new other (c ∷ cs) [] qs within p s fr fq = absurd p
one_play old new other (c ∷ cs) (r ∷ rs) [] within p s fr fq = absurd s
one_play old new other (c ∷ cs) (r ∷ rs) (q ∷ qs) within p s fr fq =
    let one = one_step old p.0 s.0 c r q within p.1 s.1 fr.0 fq.0 in
    let rest = one_play p.0 new other cs rs qs (step_within old p.0 c r within p.1) p.2 (subst (λ (sites : Sites). Plays sites cs qs other) (sym one.1) s.2) fr.1 fq.1 in
    (ap (λ x. x ∷ rs) one.0 ∙ ap (λ xs. q ∷ xs) rest.0, rest.1)

pub one_answer : OneAnswer
one_answer = record {
  begun = none_within;
  step_keeps = step_within;
  play_keeps = play_within;
  one_step = one_step;
  one_play = one_play;
}
