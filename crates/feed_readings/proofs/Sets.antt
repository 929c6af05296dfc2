-- What two sets have in common, and what sets show.
use Rattle.std.proofs.Common.{◌≡◌, ◌∙◌, ◌≤◌, ◌<◌, Bool, true, false, not, ◌&&◌, ◌||◌, cond, List, [], ◌∷◌, map, refl, sym, ap, subst, inl, inr, arith, All}
use Rattle.std.specs.List.{filter, list_all, list_any}
use Rattle.std.specs.Ordering.{eq_by_cmp}
use Rattle.std.specs.FinMap as fin
use Rattle.std.proofs.lemmas.Bool.{true≢false}
use Rattle.std.proofs.lemmas.List.Elements.{All-filter}
use Rattle.desk_ops.specs.declared.op.Op.{Op}
use Rattle.desk_ops.specs.declared.op.Stamp.{Stamp}
use Rattle.desk_ops.specs.Lists.{Among}
use Rattle.desk_ops.specs.Op.{Insertion, IsLawful}
use Rattle.desk_ops.specs.Order.{op_cmp}
use Rattle.desk_ops.specs.OpSet.{OpSet, IsWithin, has_op, in_order, max_ops, no_ops, size, union, with_all}
use Rattle.desk_ops.specs.OrderLaws.{op_antisymmetric}
use Rattle.desk_ops.specs.Shown.{is_deleted_in, shown}
use Rattle.desk_ops.specs.Stamp.{same}
use Rattle.desk_ops.specs.Walk.{walk_of}
use Rattle.desk_ops.proofs.Ends.{among_held, held_among}
use Rattle.desk_ops.proofs.OpSets.{none-held}
use Rattle.desk_ops.proofs.Stamps.{is_equal}
use Rattle.desk_ops.proofs.Unions.{has_op-union, has_op-with_all, same-set}
use Rattle.desk_seq.specs.declared.Entry.{Entry}
use Rattle.desk_seq.specs.Entries.{AreDistinct, IsAbsent, is_shown}
use Rattle.desk_walk.specs.Following.{entries_of, entry_of}
use Rattle.feed_readings.specs.declared.reading.Shown.{Shown}
use Rattle.feed_readings.specs.Apart.{AreApart, BearsNot}
use Rattle.feed_readings.proofs.Sizes.{size_within}
use Rattle.feed_readings.specs.Merged.{common_ops, entered, in_common, inserted, shown_entries, shown_list}

-- ---- what a set shows

shown_walk : (h : OpSet) (xs : List Insertion) → shown_entries (map (entry_of h) xs) ≡ map inserted (filter (λ x. not (is_deleted_in h x.stamp)) xs)
shown_walk h [] = refl
shown_walk h (x ∷ xs) = by (shown_walk h xs) (is_deleted_in h x.stamp)
  where
    by : shown_entries (map (entry_of h) xs) ≡ map inserted (filter (λ x. not (is_deleted_in h x.stamp)) xs)
        → (b : Bool) → map entered (cond (not b) ((record { stamp = x.stamp; symbol = x.symbol; deleted = b }) ∷ filter is_shown (map (entry_of h) xs)) (filter is_shown (map (entry_of h) xs)))
        ≡ map inserted (cond (not b) (x ∷ filter (λ x. not (is_deleted_in h x.stamp)) xs) (filter (λ x. not (is_deleted_in h x.stamp)) xs))
    by rest true = rest
    by rest false = ap (λ (l : List Shown). inserted x ∷ l) rest

pub shown_same : (h : OpSet) (es : List Entry) → es ≡ entries_of h → shown_entries es ≡ shown_list h
unfolding shown
shown_same h es e = ap shown_entries e ∙ shown_walk h (walk_of h)

-- ---- shown elements are known by their stamps

absent_shown : (s : Stamp) (es : List Entry) → IsAbsent s es → BearsNot s (shown_entries es)
absent_shown s [] h = tt
absent_shown s (e ∷ es) h = by (absent_shown s es h.1) e.deleted
  where
    by : BearsNot s (shown_entries es) → (b : Bool) → BearsNot s (map entered (cond (not b) (e ∷ filter is_shown es) (filter is_shown es)))
    by rest true = rest
    by rest false = (h.0, rest)

pub shown_apart : (es : List Entry) → AreDistinct es → AreApart (shown_entries es)
shown_apart [] h = tt
shown_apart (e ∷ es) h = by (shown_apart es h.1) e.deleted
  where
    by : AreApart (shown_entries es) → (b : Bool) → AreApart (map entered (cond (not b) (e ∷ filter is_shown es) (filter is_shown es)))
    by rest true = rest
    by rest false = (absent_shown e.stamp es h.0, rest)

-- ---- what two sets have in common

any_cond : (b : Bool) (q o : Op) (ops : List Op) → list_any (eq_by_cmp op_cmp q) (cond b (o ∷ ops) ops) ≡ cond b (eq_by_cmp op_cmp q o || list_any (eq_by_cmp op_cmp q) ops) (list_any (eq_by_cmp op_cmp q) ops)
any_cond true q o ops = refl
any_cond false q o ops = refl

-- whether the first is kept, whether it is the one looked for, whether that is one of the others, and whether it is kept
kept_there : (kept here later wanted : Bool) → (here ≡ true → wanted ≡ kept) → cond kept (here || (later && wanted)) (later && wanted) ≡ ((here || later) && wanted)
kept_there true true later wanted is = sym (is refl)
kept_there true false later wanted is = refl
kept_there false true true wanted is = refl
kept_there false true false wanted is = sym (is refl)
kept_there false false later wanted is = refl

among_kept : (p : Op → Bool) (q : Op) (ops : List Op) → list_any (eq_by_cmp op_cmp q) (filter p ops) ≡ (list_any (eq_by_cmp op_cmp q) ops && p q)
among_kept p q [] = refl
among_kept p q (o ∷ ops) =
    any_cond (p o) q o (filter p ops)
    ∙ ap (λ (b : Bool). cond (p o) (eq_by_cmp op_cmp q o || b) b) (among_kept p q ops)
    ∙ kept_there (p o) (eq_by_cmp op_cmp q o) (list_any (eq_by_cmp op_cmp q) ops) (p q) (λ e. ap p (op_antisymmetric q o (is_equal (op_cmp q o) e)))

or_none : (b c : Bool) → c ≡ false → (b || c) ≡ b
or_none true c e = refl
or_none false c e = e

pub has_common : (one other : OpSet) (q : Op) → has_op (in_common one other) q ≡ (has_op one q && has_op other q)
has_common one other q =
    has_op-with_all no_ops (common_ops other (in_order one)) q
    ∙ or_none (list_any (eq_by_cmp op_cmp q) (common_ops other (in_order one))) (has_op no_ops q) (none-held q)
    ∙ among_kept (has_op other) q (in_order one)
    ∙ ap (λ (b : Bool). b && has_op other q) (sym (fin.contains_key-keys one q))

and_within : (a b : Bool) → (b ≡ true → a ≡ true) → (a && b) ≡ b
and_within true b h = refl
and_within false true h = h refl
and_within false false h = refl

or_within : (a b : Bool) → (b ≡ true → a ≡ true) → (a || b) ≡ a
or_within true b h = refl
or_within false true h = sym (h refl)
or_within false false h = refl

and_swap : (a b : Bool) → (a && b) ≡ (b && a)
and_swap true true = refl
and_swap true false = refl
and_swap false true = refl
and_swap false false = refl

pub common_within : (one other : OpSet) → IsWithin other one → in_common one other ≡ other
common_within one other h = same-set (in_common one other) other (λ q. has_common one other q ∙ and_within (has_op one q) (has_op other q) (h q))

pub common_swapped : (one other : OpSet) → in_common one other ≡ in_common other one
common_swapped one other = same-set (in_common one other) (in_common other one) (λ q. has_common one other q ∙ and_swap (has_op one q) (has_op other q) ∙ sym (has_common other one q))

pub union_within : (one other : OpSet) → IsWithin other one → union one other ≡ one
union_within one other h = same-set (union one other) one (λ q. has_op-union one other q ∙ or_within (has_op one q) (has_op other q) (h q))

first_true : (a b : Bool) → (a && b) ≡ true → a ≡ true
first_true true b e = refl
first_true false b e = e

rest_true : (a b : Bool) → (a && b) ≡ true → b ≡ true
rest_true true b e = e
rest_true false b e = absurd (true≢false (sym e))

-- all of the one are in the other
pub all_from : (p : Op → Bool) (ops : List Op) → list_all p ops ≡ true → (o : Op) → Among o ops → p o ≡ true
all_from p [] e o m = absurd m
all_from p (x ∷ ops) e o (inl same) = subst (λ (y : Op). p y ≡ true) same (first_true (p x) (list_all p ops) e)
all_from p (x ∷ ops) e o (inr m) = all_from p ops (rest_true (p x) (list_all p ops) e) o m

pub all_within : (one other : OpSet) → list_all (has_op one) (in_order other) ≡ true → IsWithin other one
all_within one other e op h = all_from (has_op one) (in_order other) e op (among_held other op h)

all_again : (p : Op → Bool) (ops : List Op) → ((o : Op) → Among o ops → p o ≡ true) → list_all p ops ≡ true
all_again p [] h = refl
all_again p (x ∷ ops) h = ap (λ (b : Bool). b && list_all p ops) (h x (inl refl)) ∙ all_again p ops (λ o m. h o (inr m))

pub within_all : (one other : OpSet) → IsWithin other one → list_all (has_op one) (in_order other) ≡ true
within_all one other h = all_again (has_op one) (in_order other) (λ o m. h o (held_among other o m))

-- ---- they are few

common_held : (other : OpSet) (ops : List Op) → IsWithin (with_all no_ops (common_ops other ops)) other
common_held other ops q h =
    rest_true (list_any (eq_by_cmp op_cmp q) ops) (has_op other q)
    (sym (among_kept (has_op other) q ops) ∙ sym (or_none (list_any (eq_by_cmp op_cmp q) (common_ops other ops)) (has_op no_ops q) (none-held q)) ∙ sym (has_op-with_all no_ops (common_ops other ops) q) ∙ h)

pub crowded : (other : OpSet) (all ops : List Op) → ops ≡ common_ops other all → size other ≤ max_ops → max_ops < size (with_all no_ops ops) → ⊥
crowded other all ops is le lt =
    let few : size (with_all no_ops (common_ops other all)) ≤ size other = size_within other (with_all no_ops (common_ops other all)) (union_within other (with_all no_ops (common_ops other all)) (common_held other all)) in
    let more : max_ops < size (with_all no_ops (common_ops other all)) = subst (λ (l : List Op). max_ops < size (with_all no_ops l)) is lt in
    omega (arith, few, more, le)

pub lawful_common : (other : OpSet) (all ops : List Op) → ops ≡ common_ops other all → All IsLawful all → All IsLawful ops
lawful_common other all ops is lawful = subst (All IsLawful) (sym is) (All-filter (has_op other) IsLawful all lawful)
