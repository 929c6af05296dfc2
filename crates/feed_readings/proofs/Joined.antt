-- The readings of a set and of a list that was joined to it, by what was kept of the set.
use Rattle.std.proofs.Common.{◌≡◌, ◌∙◌, ◌≤◌, ℕ, suc, zero, ◌<◌, Bool, true, false, cond, List, [], ◌∷◌, ◌++◌, length, map, get_or, take, refl, sym, ap, subst, inl, inr, arith}
use Rattle.std.specs.List.{AllByRecursion, filter}
use Rattle.desk_ops.specs.declared.op.Op.{Op}
use Rattle.desk_ops.specs.declared.op.Stamp.{Stamp}
use Rattle.desk_ops.specs.Laws as laws
use Rattle.desk_ops.specs.Op.{Insertion, IsLawful}
use Rattle.desk_ops.specs.OpSet.{OpSet, AllLawful, IsWithin, has_op, in_order, no_ops, size, union, with_all}
use Rattle.desk_ops.specs.Stamp as stamps
use Rattle.desk_ops.specs.Walk.{walk_of}
use Rattle.desk_ops.proofs.Ends.{among_held, held_among}
use Rattle.desk_ops.proofs.Lists.{each-among, each-from_among}
use Rattle.desk_ops.proofs.Tree.{walk-apart}
use Rattle.desk_ops.proofs.Unions.{has_op-union}
use Rattle.desk_seq.specs.declared.Entry.{Entry}
use Rattle.desk_seq.specs.Entries.{AreDistinct, IsAbsent}
use Rattle.desk_walk.specs.Following.{entries_of, entry_of}
use Rattle.feed_readings.specs.declared.after.Before.{Before}
use Rattle.feed_readings.specs.declared.after.Before.TheVariants as kept
use Rattle.feed_readings.specs.declared.after.Whole.{Whole}
use Rattle.feed_readings.specs.declared.parts.Parts.{Parts}
use Rattle.feed_readings.specs.declared.reading.Shown.{Shown}
use Rattle.feed_readings.specs.Apart.{AreApart}
use Rattle.feed_readings.specs.Before.{IsBefore, IsJoin, IsWhole}
use Rattle.feed_readings.specs.Lines.{readings_lines, reported_of}
use Rattle.feed_readings.specs.Merged.{HoldsOther, common_ops, entered, in_common, readings_of, shown_entries, shown_list}
use Rattle.feed_readings.specs.Parts.{AreParts, base_shows, one_shows, other_shows}
use Rattle.feed_readings.specs.Readings.{open_readings}
use Rattle.feed_readings.proofs.Differing.{or_left, or_right}
use Rattle.feed_readings.proofs.Sets.{shown_apart, shown_same}
use Rattle.feed_readings.proofs.Sizes.{few_alone, union_list}
use Rattle.feed_readings.proofs.Telling.{base_shown, one_shown, other_shown}
use Rattle.feed_readings.proofs.Twins.{none_one, none_other}

-- ---- what lawful sets show is known by its stamps

absent_walk : (h : OpSet) (s : Stamp) (xs : List Insertion) → AllByRecursion (λ y. stamps.same y.stamp s ≡ false) xs → IsAbsent s (map (entry_of h) xs)
absent_walk h s [] a = tt
absent_walk h s (x ∷ xs) a = (a.0, absent_walk h s xs a.1)

distinct_walk : (h : OpSet) (xs : List Insertion) → laws.AreApart xs → AreDistinct (map (entry_of h) xs)
distinct_walk h [] a = tt
distinct_walk h (x ∷ xs) a = (absent_walk h x.stamp xs a.0, distinct_walk h xs a.1)

apart_shown : (h : OpSet) → AllLawful h → AreApart (shown_list h)
apart_shown h lawful = subst AreApart (shown_same h (entries_of h) refl) (shown_apart (entries_of h) (distinct_walk h (walk_of h) (walk-apart h lawful)))

-- ---- one of two sets that holds the other

within_one : (one other : OpSet) → IsWithin one (union one other)
within_one one other op h = has_op-union one other op ∙ or_left (has_op one op) (has_op other op) h

within_other : (one other : OpSet) → IsWithin other (union one other)
within_other one other op h = has_op-union one other op ∙ or_right (has_op one op) (has_op other op) h

part_lawful : (u h : OpSet) → AllLawful u → IsWithin h u → AllLawful h
part_lawful u h l w = each-from_among IsLawful (in_order h) (λ o m. each-among IsLawful (in_order u) o l (among_held u o (w o (held_among h o m))))

none_held : (one other : OpSet) → AllLawful (union one other) → HoldsOther one other → readings_of one other ≡ []
none_held one other lawful (inl w) = none_other one other (apart_shown one (part_lawful (union one other) one lawful (within_one one other))) w
none_held one other lawful (inr w) = none_one one other (apart_shown other (part_lawful (union one other) other lawful (within_other one other))) w

pub nothing_reported : (one other : OpSet) (lines : List ℕ) → lines ≡ [] → readings_of one other ≡ [] → lines ≡ reported_of one other
nothing_reported one other lines none closed = none ∙ sym (ap (readings_lines (shown_list (in_common one other)) (shown_list one) (shown_list other) (shown_list (union one other))) closed)

-- ---- four lists

lines_alike : (base ones others boths base_is ones_is others_is boths_is : List Shown) → base ≡ base_is → ones ≡ ones_is → others ≡ others_is → boths ≡ boths_is
    → readings_lines base ones others boths (open_readings base ones others boths) ≡ readings_lines base_is ones_is others_is boths_is (open_readings base_is ones_is others_is boths_is)
lines_alike base ones others boths base_is ones_is others_is boths_is b o t u = rw b (rw o (rw t (rw u refl)))

count_alike : (base ones others boths base_is ones_is others_is boths_is : List Shown) → base ≡ base_is → ones ≡ ones_is → others ≡ others_is → boths ≡ boths_is
    → length (open_readings base ones others boths) ≡ length (open_readings base_is ones_is others_is boths_is)
count_alike base ones others boths base_is ones_is others_is boths_is b o t u = rw b (rw o (rw t (rw u refl)))

-- those of two sets
pub record AreOf (first second : OpSet) (bases ones others boths : List Shown) : Type 0 where
  pub base : bases ≡ shown_list (in_common first second)
  pub one : ones ≡ shown_list first
  pub other : others ≡ shown_list second
  pub both : boths ≡ shown_list (union first second)

pub lines_of_lists : (one other : OpSet) (base ones others boths : List Shown) → AreOf one other base ones others boths → readings_lines base ones others boths (open_readings base ones others boths) ≡ reported_of one other
lines_of_lists one other base ones others boths are = lines_alike base ones others boths _ _ _ _ are.base are.one are.other are.both

pub count_of_lists : (one other : OpSet) (base ones others boths : List Shown) → AreOf one other base ones others boths → length (open_readings base ones others boths) ≡ length (readings_of one other)
count_of_lists one other base ones others boths are = count_alike base ones others boths _ _ _ _ are.base are.one are.other are.both

-- ---- by what tells them apart

pub apart_lists : {A : Type 0} (one other both : OpSet) (parts : Parts A) (es : List Entry) (base ones others boths : List Shown) → AreParts one other parts → AllLawful both → both ≡ union one other → es ≡ entries_of both
    → base ≡ map entered (filter (base_shows parts) es) → ones ≡ map entered (filter (one_shows parts) es) → others ≡ map entered (filter (other_shows parts) es) → boths ≡ shown_entries es → AreOf one other base ones others boths
apart_lists one other both parts es base ones others boths are lawful is walk b o t u =
    let whole : AllLawful (union one other) = subst AllLawful is lawful in
    let walked : es ≡ entries_of (union one other) = walk ∙ ap entries_of is in
    record {
      base = b ∙ ap (λ (l : List Entry). map entered (filter (base_shows parts) l)) walked ∙ sym (base_shown one other parts are whole);
      one = o ∙ ap (λ (l : List Entry). map entered (filter (one_shows parts) l)) walked ∙ sym (one_shown one other parts are whole);
      other = t ∙ ap (λ (l : List Entry). map entered (filter (other_shows parts) l)) walked ∙ sym (other_shown one other parts are whole);
      both = u ∙ shown_same (union one other) es walked;
    }

-- ---- by what was kept

pub few_joined : {A : Type 0} (set : OpSet) (ops : List Op) (before : Before A) (both : OpSet) → IsJoin set ops before both → size (with_all no_ops ops) ≤ size both
few_joined set ops before both (is, joined) = subst (λ (s : OpSet). size (with_all no_ops ops) ≤ size s) (sym joined) (few_alone set ops)

as_union : (set both : OpSet) (ops : List Op) → both ≡ with_all set ops → both ≡ union set (with_all no_ops ops)
as_union set both ops joined = joined ∙ sym (union_list set ops)

pub joined_union : {A : Type 0} (set : OpSet) (ops : List Op) (before : Before A) (both : OpSet) → IsJoin set ops before both → both ≡ union set (with_all no_ops ops)
joined_union set ops before both (is, joined) = as_union set both ops joined

pub held_none : {A : Type 0} (set : OpSet) (ops : List Op) (before : Before A) (both : OpSet) → AllLawful both → before ≡ kept.Held → IsJoin set ops before both → readings_of set (with_all no_ops ops) ≡ []
held_none set ops before both lawful same (is, joined) =
    none_held set (with_all no_ops ops) (subst AllLawful (as_union set both ops joined) lawful) (subst (λ (b : Before _). IsBefore set ops b) same is)

pub apart_parts : {A : Type 0} (set : OpSet) (ops : List Op) (before : Before A) (both : OpSet) (parts : Parts A) → before ≡ kept.Apart parts → IsJoin set ops before both → AreParts set (with_all no_ops ops) parts
apart_parts set ops before both parts same (is, joined) = subst (λ (b : Before _). IsBefore set ops b) same is

pub whole_lists : {A : Type 0} (set : OpSet) (ops list : List Op) (before : Before A) (both : OpSet) (whole : Whole A) (base ones others boths : List Shown) → before ≡ kept.Whole whole → IsJoin set ops before both → list ≡ ops
    → base ≡ shown_list (with_all no_ops (common_ops (with_all no_ops list) whole.ops.items)) → ones ≡ whole.shown.items → others ≡ shown_list (with_all no_ops list) → boths ≡ shown_list both
    → AreOf set (with_all no_ops ops) base ones others boths
whole_lists set ops list before both whole base ones others boths same (is, joined) listed b o t u =
    let w : IsWhole set whole.ops.items whole.shown.items = subst (λ (k : Before _). IsBefore set ops k) same is in
    record {
      base = b ∙ ap (λ (l : List Op). shown_list (with_all no_ops (common_ops (with_all no_ops l) whole.ops.items))) listed ∙ ap (λ (l : List Op). shown_list (with_all no_ops (common_ops (with_all no_ops ops) l))) w.ordered;
      one = o ∙ w.shown;
      other = t ∙ ap (λ (l : List Op). shown_list (with_all no_ops l)) listed;
      both = u ∙ ap shown_list (as_union set both ops joined);
    }

-- ---- one element more

pub shown_more : (p : Entry → Bool) (es : List Entry) (n : ℕ) (e : Entry) → n < length es → e ≡ get_or es n e → map entered (filter p (take (suc n) es)) ≡ map entered (filter p (take n es)) ++ cond (p e) (entered e ∷ []) []
shown_more p [] n e lt is = absurd (omega (arith, lt))
shown_more p (x ∷ es) zero e lt is = subst (λ (y : Entry). map entered (filter p (x ∷ [])) ≡ cond (p y) (entered y ∷ []) []) (sym is) (by (p x))
  where
    by : (b : Bool) → map entered (cond b (x ∷ []) []) ≡ cond b (entered x ∷ []) []
    by true = refl
    by false = refl
shown_more p (x ∷ es) (suc n) e lt is = by (shown_more p es n e (omega (arith, lt)) is) (p x)
  where
    by : map entered (filter p (take (suc n) es)) ≡ map entered (filter p (take n es)) ++ cond (p e) (entered e ∷ []) [] → (b : Bool)
        → map entered (cond b (x ∷ filter p (take (suc n) es)) (filter p (take (suc n) es))) ≡ map entered (cond b (x ∷ filter p (take n es)) (filter p (take n es))) ++ cond (p e) (entered e ∷ []) []
    by rest true = ap (λ (l : List Shown). entered x ∷ l) rest
    by rest false = rest
