-- Changes of a copy, made one after the other.
use Rattle.std.proofs.Common.{◌≡◌, inl, inr, ℕ, zero, suc, ◌+◌, ◌<◌, ◌≤◌, Bool, true, false, cond, List, [], ◌∷◌, ◌++◌, Option, Some, None, length, map, take, drop, get_or, refl, sym, ap, ap₂, ◌∙◌, subst, arith, length-append, take-append-drop, add-one, drop-cons}
use Rattle.std.specs.Prelude.{◌≢◌, ◌==◌, not, nat_le, nat_lt}
use Rattle.std.specs.List.{All, slice_get}
use Rattle.std.proofs.lemmas.List.Elements.{All-head, All-tail}
use Rattle.std.proofs.lemmas.List.{drop-map, length-map, map-append, take-map, take_more}
use Rattle.desk_ops.specs.declared.op.Op.{Op}
use Rattle.desk_ops.specs.declared.op.Symbol.{Symbol}
use Rattle.desk_ops.specs.Stamp.{max_counter}
use Rattle.desk_ops.specs.Op.{Insertion, IsSymbol, is_symbol, stamp_of}
use Rattle.desk_ops.proofs.Lawful.{symbol_true}
use Rattle.desk_ops.proofs.Unions.{with_all_push}
use Rattle.desk_ops.specs.OpSet.{OpSet, max_ops, size, with_op}
use Rattle.desk_ops.specs.Held.{greatest_counter_of}
use Rattle.desk_ops.specs.Shown.{copy_of, shown_of}
use Rattle.text_copy.specs.Laws.{AreLawful}
use Rattle.text_copy.specs.Changes.{AddsOf, AreSparing, all_changed, and_then, between, changed}
use Rattle.text_copy.specs.declared.making.Change.{Change}
use Rattle.text_copy.specs.declared.making.Change.TheVariants as changes
use Rattle.desk_replica.specs.Edits.{IsDeleted, IsInserted, delete_refusal, edit_refusal, insert_refusal, new_insert}
use Rattle.desk_replica.specs.State.{State}
use Rattle.desk_replica.specs.declared.Refusal.{Refusal}
use Rattle.desk_replica.specs.declared.Refusal.TheVariants as refusals
use Rattle.feed_edit.specs.Editing.{AreMade, IsMade, IsRefusedAmong, IsRefusedBy, IsRevised, IsSparing, change_refusal, deletes_of, insert_count, delete_count, inserts_of}
use Rattle.feed_edit.proofs.Sites.{all_counted, deletes_more, deletes_of_more, extends_more, inserts_more, inserts_of_more, own_more}

-- ---- one change

there : (set : OpSet) (is_there is_value : Bool) → edit_refusal set is_there is_value ≡ None → is_there ≡ true
there set true is_value none = refl
there set false is_value none = absurd (let e : Some refusals.Place ≡ None = none in cc)

length-copy : (set : OpSet) → length (copy_of set) ≡ length (shown_of set)
length-copy set = length-map (shown_of set) (λ x. x.symbol)

pub made_insert : (old now : State) (place : ℕ) (symbol : Symbol) (op : Op) → insert_refusal old.ops place symbol ≡ None → IsInserted old now place symbol op
    → IsMade old.site old.ops now.ops (changes.Insert place symbol) op
made_insert old now place symbol op allowed is = record {
  own = ap stamp_of is.is;
  gained = is.gained;
  inserts = ap insert_count is.is;
  deletes = ap delete_count is.is;
  copy = rw fits (ap Some (sym copy));
}
  where
    fits : nat_le place (length (copy_of old.ops)) ≡ true
    fits = ap (nat_le place) (length-copy old.ops) ∙ there old.ops (nat_le place (length (shown_of old.ops))) (is_symbol symbol) allowed

    copy : copy_of now.ops ≡ take place (copy_of old.ops) ++ symbol ∷ drop place (copy_of old.ops)
    copy =
        ap (map (λ (x : Insertion). x.symbol)) is.shows
        ∙ map-append (λ (x : Insertion). x.symbol) (take place (shown_of old.ops)) (new_insert old place symbol ∷ drop place (shown_of old.ops))
        ∙ ap₂ (λ a b. a ++ symbol ∷ b) (sym (take-map (λ (x : Insertion). x.symbol) place (shown_of old.ops))) (sym (drop-map (λ (x : Insertion). x.symbol) place (shown_of old.ops)))

pub made_delete : (old now : State) (place : ℕ) (op : Op) → delete_refusal old.ops place ≡ None → IsDeleted old now place op
    → IsMade old.site old.ops now.ops (changes.Delete place) op
made_delete old now place op allowed is = record {
  own = ap stamp_of is.is;
  gained = is.gained;
  inserts = ap insert_count is.is;
  deletes = ap delete_count is.is;
  copy = rw fits (ap Some (sym copy));
}
  where
    fits : nat_lt place (length (copy_of old.ops)) ≡ true
    fits = ap (nat_lt place) (length-copy old.ops) ∙ there old.ops (nat_lt place (length (shown_of old.ops))) true allowed

    copy : copy_of now.ops ≡ take place (copy_of old.ops) ++ drop (place + 1) (copy_of old.ops)
    copy =
        ap (map (λ (x : Insertion). x.symbol)) is.shows
        ∙ map-append (λ (x : Insertion). x.symbol) (take place (shown_of old.ops)) (drop (suc place) (shown_of old.ops))
        ∙ ap₂ (λ a b. a ++ b) (sym (take-map (λ (x : Insertion). x.symbol) place (shown_of old.ops))) (sym (drop-map (λ (x : Insertion). x.symbol) (suc place) (shown_of old.ops)))
        ∙ ap (λ n. take place (copy_of old.ops) ++ drop n (copy_of old.ops)) (sym (add-one place))

-- ---- one change more

changed-append : (prefix rest : List Change) (copy : List Symbol) → all_changed (prefix ++ rest) copy ≡ and_then (all_changed prefix copy) (all_changed rest)
changed-append [] rest copy = refl
changed-append (c ∷ prefix) rest copy = at (changed c copy) (changed-append prefix rest)
  where
    at : (o : Option (List Symbol)) → ((xs : List Symbol) → all_changed (prefix ++ rest) xs ≡ and_then (all_changed prefix xs) (all_changed rest))
        → and_then o (all_changed (prefix ++ rest)) ≡ and_then (and_then o (all_changed prefix)) (all_changed rest)
    at None each = refl
    at (Some xs) each = each xs

made_more : (site : ℕ) (old mid now : OpSet) (made : List Change) (ops : List Op) (change : Change) (op : Op) → AreMade site old mid made ops → IsMade site mid now change op
    → AreMade site old now (made ++ change ∷ []) (ops ++ op ∷ [])
made_more site old mid now made ops change op all one = record {
  own = own_more site old ops op all.own (subst (λ (s : OpSet). stamp_of op ≡ record { counter = greatest_counter_of s + 1; site = site }) all.gained one.own);
  gained = one.gained ∙ ap (λ s. with_op s op) all.gained ∙ sym (with_all_push old ops op);
  extends = extends_more site old mid now op all.extends one.gained (ap (λ s. s.site) one.own);
  count = length-append ops (op ∷ []) ∙ ap (λ n. n + 1) all.count ∙ sym (length-append made (change ∷ []));
  inserts = inserts_more ops op ∙ ap₂ (λ m n. m + n) all.inserts one.inserts ∙ sym (inserts_of_more made change);
  deletes = deletes_more ops op ∙ ap₂ (λ m n. m + n) all.deletes one.deletes ∙ sym (deletes_of_more made change);
  copy = changed-append made (change ∷ []) (copy_of old) ∙ ap (λ o. and_then o (all_changed (change ∷ []))) all.copy ∙ ap (λ o. and_then o (all_changed [])) one.copy;
}

-- so many changes of a list
module _ (made : List Change) (at : ℕ) (d : Change) (lt : at < length made) where
  pub made_next : (site there : ℕ) (old mid now : OpSet) (ops : List Op) (op : Op) → there ≡ site → AreMade site old mid (take at made) ops → IsMade there mid now (get_or made at d) op
      → (more : List Op) × AreMade site old now (take (at + 1) made) more
  made_next site there old mid now ops op same all one = (
    ops ++ op ∷ [],
    subst (λ (cs : List Change). AreMade site old now cs (ops ++ op ∷ [])) (sym (take_more made at d lt))
        (made_more site old mid now (take at made) ops (get_or made at d) op all (subst (λ n. IsMade n mid now (get_or made at d) op) same one)),
  )

  pub refused_next : (site : ℕ) (old mid now : OpSet) (ops : List Op) (why : Refusal) → now ≡ mid → AreMade site old mid (take at made) ops → IsRefusedBy mid (get_or made at d) why
      → IsRefusedAmong site old now made why
  refused_next site old mid now ops why same all refused =
      subst (λ (set : OpSet). IsRefusedAmong site old set made why) (sym same) (take at made, drop (at + 1) made, get_or made at d, place, ops, all, refused)
    where
      place : made ≡ take at made ++ get_or made at d ∷ drop (at + 1) made
      place =
          let cut : drop at made ≡ get_or made at d ∷ drop (at + 1) made = rw (add-one, drop-cons made at d) refl in
          sym (take-append-drop at made) ∙ ap (λ l. take at made ++ l) cut

-- ---- a copy that becomes a text

some_is : (one other : List Symbol) → Some one ≡ Some other → one ≡ other
some_is one other e = cc

pub revised : (site : ℕ) (old now : OpSet) (text : List Symbol) (made : List Change) (ops : List Op) (inserted deleted : ℕ) → all_changed made (copy_of old) ≡ Some text → AreMade site old now made ops
    → inserted ≡ inserts_of made → deleted ≡ deletes_of made → IsRevised site old now text inserted deleted
revised site old now text made ops inserted deleted makes all is are = record {
  copy = some_is (copy_of now) text (sym all.copy ∙ makes);
  extends = all.extends;
  ops = ops;
  own = all.own;
  gained = all.gained;
  inserts = all.inserts ∙ sym is;
  deletes = all.deletes ∙ sym are;
  all = ap₂ (λ m n. m + n) is are ∙ all_counted made ∙ sym all.count;
}

-- so many operations are made as there are changes
pub few_made : (made : List Change) (inserted deleted most : ℕ) → inserted ≡ inserts_of made → deleted ≡ deletes_of made → length made ≤ most → inserted + deleted ≤ most
few_made made inserted deleted most is are few = let all = all_counted made in omega (arith, is, are, all, few)

-- a place that a change names is there
later_cause : (is_value is_full is_late : Bool) → cond (not is_value) (Some refusals.Value) (cond is_full (Some refusals.Full) (cond is_late (Some refusals.ClockFull) None)) ≡ Some refusals.Place → ⊥
later_cause false is_full is_late e = cc
later_cause true true is_late e = cc
later_cause true false true e = cc
later_cause true false false e = cc

not_there : (set : OpSet) (is_there is_value : Bool) → edit_refusal set is_there is_value ≡ Some refusals.Place → is_there ≡ false
not_there set false is_value e = refl
not_there set true is_value e = absurd (later_cause is_value (size set == max_ops) (nat_le max_counter (greatest_counter_of set)) e)

no_change : (set : OpSet) (change : Change) → change_refusal set change ≡ Some refusals.Place → changed change (copy_of set) ≡ None
no_change set (changes.Insert place symbol) refused =
    let out : nat_le place (length (copy_of set)) ≡ false = ap (nat_le place) (length-copy set) ∙ not_there set (nat_le place (length (shown_of set))) (is_symbol symbol) refused in
    rw out refl
no_change set (changes.Delete place) refused =
    let out : nat_lt place (length (copy_of set)) ≡ false = ap (nat_lt place) (length-copy set) ∙ not_there set (nat_lt place (length (shown_of set))) true refused in
    rw out refl

never_placeless : (site : ℕ) (old now : OpSet) (text : List Symbol) (made : List Change) → all_changed made (copy_of old) ≡ Some text → IsRefusedAmong site old now made refusals.Place → ⊥
never_placeless site old now text made makes (prefix, tail, next, is, ops, all, inr (memory, none)) = let e : refusals.Place ≡ refusals.NoMemory = memory in cc
never_placeless site old now text made makes (prefix, tail, next, is, ops, all, inl refused) =
    let none : all_changed made (copy_of old) ≡ None =
    ap (λ cs. all_changed cs (copy_of old)) is ∙ changed-append prefix (next ∷ tail) (copy_of old) ∙ ap (λ o. and_then o (all_changed (next ∷ tail))) all.copy
    ∙ ap (λ o. and_then o (all_changed tail)) (no_change now next refused) in
    let e : Some text ≡ None = sym makes ∙ none in
    cc

-- so no change that makes a text is refused for its place
pub placed : (site : ℕ) (old now : OpSet) (text : List Symbol) (made : List Change) (why : Refusal) → all_changed made (copy_of old) ≡ Some text → IsRefusedAmong site old now made why → why ≢ refusals.Place
placed site old now text made why makes among place = never_placeless site old now text made makes (subst (λ w. IsRefusedAmong site old now made w) place among)

-- so many operations are made as there are changes, and these are sparing
pub sparing_made : (from to : List Symbol) (made : List Change) (inserted deleted : ℕ) → inserted ≡ inserts_of made → deleted ≡ deletes_of made → AreSparing from to made → IsSparing from to (inserted + deleted)
sparing_made from to made inserted deleted is are sparing =
    (sparing.prefix, sparing.suffix, sparing.begins, sparing.ends, few_made made inserted deleted (between (sparing.prefix + sparing.suffix) from + between (sparing.prefix + sparing.suffix) to) is are sparing.few)

-- ---- a text that is lawful

never_value : (is_full is_late : Bool) → cond is_full (Some refusals.Full) (cond is_late (Some refusals.ClockFull) None) ≡ Some refusals.Value → ⊥
never_value true is_late e = cc
never_value false true e = cc
never_value false false e = cc

is_lawful : (set : OpSet) (is_there is_value : Bool) → is_value ≡ true → edit_refusal set is_there is_value ≡ Some refusals.Value → ⊥
is_lawful set false is_value lawful e = cc
is_lawful set true false lawful e = cc
is_lawful set true true lawful e = never_value (size set == max_ops) (nat_le max_counter (greatest_counter_of set)) e

lawful_at : (text : List Symbol) (place : ℕ) (symbol : Symbol) → AreLawful text → slice_get text place ≡ Some symbol → IsSymbol symbol
lawful_at [] place symbol lawful at = absurd (let e : None ≡ Some symbol = at in cc)
lawful_at (s ∷ text) zero symbol lawful at = subst (λ (y : Symbol). IsSymbol y) (let e : Some s ≡ Some symbol = at in cc) lawful.0
lawful_at (s ∷ text) (suc place) symbol lawful at = lawful_at text place symbol lawful.1 at

valued : (set : OpSet) (text : List Symbol) (change : Change) → AreLawful text → AddsOf text change → change_refusal set change ≡ Some refusals.Value → ⊥
valued set text (changes.Delete place) lawful adds refused = is_lawful set (nat_lt place (length (shown_of set))) true refl refused
valued set text (changes.Insert place symbol) lawful adds refused =
    is_lawful set (nat_le place (length (shown_of set))) (is_symbol symbol) (symbol_true symbol (lawful_at text place symbol lawful adds)) refused

one_of : (P : Change → Type 0) (prefix tail : List Change) (next : Change) → All P (prefix ++ next ∷ tail) → P next
one_of P [] tail next all = All-head P next tail all
one_of P (c ∷ prefix) tail next all = one_of P prefix tail next (All-tail P c (prefix ++ next ∷ tail) all)

-- no change that inserts symbols of a lawful text is refused for its value
pub valueless : (site : ℕ) (old now : OpSet) (text : List Symbol) (made : List Change) (why : Refusal) → AreLawful text → All (AddsOf text) made → IsRefusedAmong site old now made why → why ≢ refusals.Value
valueless site old now text made why lawful adds (prefix, tail, next, is, ops, all, inr (memory, none)) value = let e : refusals.NoMemory ≡ refusals.Value = sym memory ∙ value in cc
valueless site old now text made why lawful adds (prefix, tail, next, is, ops, all, inl refused) value =
    valued now text next lawful (one_of (AddsOf text) prefix tail next (subst (λ (l : List Change). All (AddsOf text) l) is adds)) (refused ∙ ap Some value)

-- ---- no changes

pub none_made : (site : ℕ) (old now : OpSet) (made : List Change) (ops : List Op) → made ≡ [] → AreMade site old now made ops → now ≡ old
none_made site old now made [] none all = all.gained
none_made site old now made (op ∷ ops) none all = absurd (let e : length (op ∷ ops) ≡ 0 = all.count ∙ ap length none in omega (arith, e))
