-- Two lists that rise, passed over at once.
use Rattle.std.proofs.Common.{◌≡◌, ℕ, ◌+◌, ◌<◌, Bool, true, false, not, cond, ◌||◌, List, [], ◌∷◌, ◌++◌, length, drop, get_or, map, refl, sym, ap, ap₂, subst, ◌∙◌, append_assoc, add-one, drop-cons}
use Rattle.std.specs.Prelude.{T, if◌then◌else◌, Some, slice_get}
use Rattle.std.specs.Ordering.{eq_by_cmp, is_eq, is_lt, ordering_reverse}
use Rattle.std.specs.declared.cmp.Ordering.{Ordering}
use Rattle.std.specs.declared.cmp.Ordering.TheVariants.{Less, Equal, Greater}
use Rattle.std.specs.FinMap.Entries.{below_all}
use Rattle.std.proofs.lemmas.Bool.{true≢false}
use Rattle.desk_ops.specs.declared.op.Op.{Op}
use Rattle.desk_ops.specs.declared.op.Op.TheVariants.{Insert}
use Rattle.desk_ops.specs.declared.op.Style.TheVariants.{Roman}
use Rattle.desk_ops.specs.Stamp.{head}
use Rattle.desk_ops.specs.Order.{op_cmp}
use Rattle.desk_ops.specs.OrderLaws.{op_total}
use Rattle.desk_ops.specs.OpSet.{entries_of, is_rising}
use Rattle.desk_ops.proofs.OpSets.{T_first, T_second, less_from_T, rising-drop}
use Rattle.desk_ops.proofs.Stamps.{is_less}
use Rattle.desk_codec.specs.Runs.{is_among}
use Rattle.feed_edit.specs.declared.stamps.SiteStamp.{SiteStamp}
use Rattle.feed_sites.specs.Alone.{alone, alone_stamp, begins, site_stamp, skip}

-- each of the operations comes after one
abbrev pub AllAbove : Op → List Op → Type 0
AllAbove op [] = Unit {0}
AllAbove op (y ∷ ys) = (op_cmp op y ≡ Less) × AllAbove op ys

above_of : (op : Op) (ys : List Op) → T (below_all op_cmp op (entries_of ys)) → AllAbove op ys
above_of op [] h = tt
above_of op (y ∷ ys) h = (less_from_T (op_cmp op y) (T_first _ _ h), above_of op ys (T_second (is_lt (op_cmp op y)) _ h))

-- an operation of a list that rises comes before those behind it, and they rise
rising_above : (op : Op) (ys : List Op) → T (is_rising (op ∷ ys)) → AllAbove op ys
rising_above op ys h = above_of op ys (T_first _ _ h)

rising_rest : (op : Op) (ys : List Op) → T (is_rising (op ∷ ys)) → T (is_rising ys)
rising_rest op ys h = T_second (below_all op_cmp op (entries_of ys)) _ h

after_skip : (op y : Op) (ys : List Op) (b : Bool) → T (is_rising (skip op ys)) → T (is_rising (y ∷ ys)) → T (is_rising (if b then skip op ys else y ∷ ys))
after_skip op y ys true rest all = rest
after_skip op y ys false rest all = all

skip_rises : (op : Op) (ys : List Op) → T (is_rising ys) → T (is_rising (skip op ys))
skip_rises op [] h = h
skip_rises op (y ∷ ys) h = after_skip op y ys (is_lt (op_cmp y op)) (skip_rises op ys (rising_rest y ys h)) h

pub next_rises : (op : Op) (ys rest : List Op) → rest ≡ skip op ys → T (is_rising ys) → T (is_rising rest)
next_rises op ys rest is h = subst (λ (l : List Op). T (is_rising l)) (sym is) (skip_rises op ys h)

-- ---- what is passed over is none of those that come later

-- what comes before the one operation comes before the other
abbrev IsBelow : Op → Op → Type 0
IsBelow op x = (y : Op) → op_cmp y op ≡ Less → op_cmp y x ≡ Less

not_tied : (x y : Op) → op_cmp y x ≡ Less → eq_by_cmp op_cmp x y ≡ false
not_tied x y e = ap is_eq (op_total.antisymm x y ∙ ap ordering_reverse e)

skipped : (op x y : Op) (ys : List Op) (b : Bool) → (b ≡ true → eq_by_cmp op_cmp x y ≡ false) → is_among x (skip op ys) ≡ is_among x ys
    → is_among x (if b then skip op ys else y ∷ ys) ≡ is_among x (y ∷ ys)
skipped op x y ys true apart rest = rest ∙ ap (λ (t : Bool). t || is_among x ys) (sym (apart refl))
skipped op x y ys false apart rest = refl

among_skip : (op x : Op) → IsBelow op x → (ys : List Op) → is_among x (skip op ys) ≡ is_among x ys
among_skip op x below [] = refl
among_skip op x below (y ∷ ys) = skipped op x y ys (is_lt (op_cmp y op)) (λ e. not_tied x y (below y (is_less (op_cmp y op) e))) (among_skip op x below ys)

abbrev kept : Op → List Op → Bool → List Op
kept x rest held = cond (not held) (x ∷ rest) rest

alone_skip : (op : Op) (one ys : List Op) → AllAbove op one → alone one (skip op ys) ≡ alone one ys
alone_skip op [] ys above = refl
alone_skip op (x ∷ one) ys above =
    ap₂ (λ (held : Bool) (rest : List Op). kept x rest held) (among_skip op x (λ y e. op_total.trans y op x e above.0) ys) (alone_skip op one ys above.1)

-- ---- the first that is not passed over decides whether the operation is there

all_above : (op y : Op) (ys : List Op) → op_cmp op y ≡ Less → AllAbove y ys → AllAbove op ys
all_above op y [] e above = tt
all_above op y (z ∷ ys) e above = (op_total.trans op y z e above.0, all_above op y ys e above.1)

none_above : (op : Op) (ys : List Op) → AllAbove op ys → is_among op ys ≡ false
none_above op [] above = refl
none_above op (y ∷ ys) above = ap (λ (o : Ordering). is_eq o || is_among op ys) above.0 ∙ none_above op ys above.1

first_or : (op y : Op) (ys : List Op) (o : Ordering) → op_cmp op y ≡ o → AllAbove y ys → is_lt (op_cmp y op) ≡ false → is_eq o ≡ (is_eq o || is_among op ys)
first_or op y ys Less e above low = sym (none_above op ys (all_above op y ys e above))
first_or op y ys Equal e above low = refl
first_or op y ys Greater e above low = absurd (true≢false (sym (ap is_lt (op_total.antisymm y op ∙ ap ordering_reverse e)) ∙ low))

first_reports : (op y : Op) (ys : List Op) (b : Bool) → is_lt (op_cmp y op) ≡ b → T (is_rising (y ∷ ys)) → begins op (skip op ys) ≡ is_among op (skip op ys)
    → begins op (if b then skip op ys else y ∷ ys) ≡ is_among op (if b then skip op ys else y ∷ ys)
first_reports op y ys true e h rest = rest
first_reports op y ys false e h rest = first_or op y ys (op_cmp op y) refl (rising_above y ys h) e

begins_skip : (op : Op) (ys : List Op) → T (is_rising ys) → begins op (skip op ys) ≡ is_among op (skip op ys)
begins_skip op [] h = refl
begins_skip op (y ∷ ys) h = first_reports op y ys (is_lt (op_cmp y op)) refl h (begins_skip op ys (rising_rest y ys h))

held_there : (op : Op) (ys : List Op) → T (is_rising ys) → is_among op ys ≡ begins op (skip op ys)
held_there op ys h = sym (among_skip op op (λ y e. e) ys) ∙ sym (begins_skip op ys h)

-- ---- a step over both lists

alone_step : (op : Op) (one ys : List Op) → T (is_rising (op ∷ one)) → T (is_rising ys) → alone (op ∷ one) ys ≡ kept op (alone one (skip op ys)) (begins op (skip op ys))
alone_step op one ys above h =
    ap₂ (λ (held : Bool) (rest : List Op). kept op rest held) (held_there op ys h) (sym (alone_skip op one ys (rising_above op one above)))

stamps_kept : (op : Op) (rest : List Op) (held : Bool) → map site_stamp (kept op rest held) ≡ alone_stamp op held ++ map site_stamp rest
stamps_kept op rest true = refl
stamps_kept op rest false = refl

pub stamps_step : (one ys : List Op) (k : ℕ) (d : Op) (stamps whole : List SiteStamp) → T (is_rising one) → T (is_rising ys) → k < length one
    → stamps ++ map site_stamp (alone (drop k one) ys) ≡ whole
    → (stamps ++ alone_stamp (get_or one k d) (begins (get_or one k d) (skip (get_or one k d) ys))) ++ map site_stamp (alone (drop (k + 1) one) (skip (get_or one k d) ys)) ≡ whole
stamps_step one ys k d stamps whole rising h lt same =
    let op : Op = get_or one k d in
    let rest : List Op = drop (k + 1) one in
    let front : drop k one ≡ op ∷ rest = rw (add-one, drop-cons one k d) refl in
    let above : T (is_rising (op ∷ rest)) = subst (λ (l : List Op). T (is_rising l)) front (rising-drop one k rising) in
    append_assoc stamps (alone_stamp op (begins op (skip op ys))) (map site_stamp (alone rest (skip op ys)))
    ∙ ap (λ (l : List SiteStamp). stamps ++ l) (sym (stamps_kept op (alone rest (skip op ys)) (begins op (skip op ys))) ∙ ap (map site_stamp) (sym (alone_step op rest ys above h)) ∙ ap (λ (l : List Op). map site_stamp (alone l ys)) (sym front))
    ∙ same

pub stamps_next : (one ys rest : List Op) (k : ℕ) (d : Op) (held : Bool) (stamps after whole : List SiteStamp) → T (is_rising one) → T (is_rising ys) → k < length one
    → rest ≡ skip (get_or one k d) ys → held ≡ begins (get_or one k d) rest → after ≡ stamps ++ alone_stamp (get_or one k d) held
    → stamps ++ map site_stamp (alone (drop k one) ys) ≡ whole → after ++ map site_stamp (alone (drop (k + 1) one) rest) ≡ whole
stamps_next one ys rest k d held stamps after whole rising h lt is reports makes same = rw makes (rw reports (rw is (stamps_step one ys k d stamps whole rising h lt same)))

-- the first of operations is the one that they have at 0
pub begins_first : (op first : Op) (ops : List Op) → Some first ≡ slice_get ops 0 → eq_by_cmp op_cmp op first ≡ begins op ops
begins_first op first [] e = cc
begins_first op first (y ∷ ys) e = let same : first ≡ y = cc in ap (eq_by_cmp op_cmp op) same

-- what a list is said to have past its end
abbrev pub past_end : Op
past_end = Insert head head (record { style = Roman; ch = 0 })
