-- Tables of what each site made, and of how often each site is among some.
use Rattle.std.proofs.Common.{◌≡◌, ℕ, ◌+◌, ◌<◌, ◌≤◌, Bool, true, false, cond, List, [], ◌∷◌, ◌++◌, ◌-◌, drop, length, get_or, set, max, refl, sym, ap, ◌∙◌, arith}
use Rattle.std.specs.Prelude.{◌==◌, ◌||◌, nat_lt, filter, replicate, slice_index}
use Rattle.std.specs.Int.{from_bool}
use Rattle.std.proofs.lemmas.Bool.{eqb-true, eqb-false}
use Rattle.std.proofs.lemmas.List.{drop_more, get_or-replicate, get_or_default, get_or-set_other, get_or-set_same, length-replicate, length-set}
use Rattle.std.proofs.lemmas.List.Sums.{count_by-le-length, length-filter, sum_by-cons, sum_by_push}
use Rattle.desk_ops.specs.declared.op.Op.{Op}
use Rattle.desk_ops.specs.Op.{stamp_of}
use Rattle.desk_ops.proofs.Stamps.{by_cases}
use Rattle.feed_history.specs.declared.rooms_made.Made.{Made}
use Rattle.feed_history.specs.Rooms.{is_by, is_delete, is_insert, is_set, made_of, times}
use Rattle.feed_history.specs.RoomsTables.{AreMade, AreTimes}

-- ---- what operations are

byte : (b : Bool) → from_bool b ≡ cond b 1 0
byte true = refl
byte false = refl

-- with one more before them
pub before_all : (op : Op) (ops : List Op) (m : Made) (least greatest : ℕ) (gaps : Bool) (inserts deletes sets : ℕ) → m ≡ made_of ops → least ≡ (stamp_of op).counter → greatest ≡ max (stamp_of op).counter m.greatest
    → gaps ≡ (nat_lt ((stamp_of op).counter + 1) m.least || m.gaps) → inserts ≡ from_bool (is_insert op) → deletes ≡ from_bool (is_delete op) → sets ≡ from_bool (is_set op)
    → record {
      least = least;
      greatest = greatest;
      gaps = gaps;
      inserts = inserts + m.inserts;
      deletes = deletes + m.deletes;
      sets = sets + m.sets;
    } ≡ made_of (op ∷ ops)
before_all op ops m least greatest gaps inserts deletes sets e first more gap one two three = λ i. record {
  least = first i;
  greatest = (more ∙ ap (λ (n : Made). max (stamp_of op).counter n.greatest) e) i;
  gaps = (gap ∙ ap (λ (n : Made). nat_lt ((stamp_of op).counter + 1) n.least || n.gaps) e) i;
  inserts = (ap (λ n. n + m.inserts) (one ∙ byte (is_insert op)) ∙ ap (λ (n : Made). cond (is_insert op) 1 0 + n.inserts) e ∙ sym (sum_by-cons (λ o. cond (is_insert o) 1 0) op ops)) i;
  deletes = (ap (λ n. n + m.deletes) (two ∙ byte (is_delete op)) ∙ ap (λ (n : Made). cond (is_delete op) 1 0 + n.deletes) e ∙ sym (sum_by-cons (λ o. cond (is_delete o) 1 0) op ops)) i;
  sets = (ap (λ n. n + m.sets) (three ∙ byte (is_set op)) ∙ ap (λ (n : Made). cond (is_set op) 1 0 + n.sets) e ∙ sym (sum_by-cons (λ o. cond (is_set o) 1 0) op ops)) i;
}

-- ---- what each site made

-- one step back
pub one_back : (ops : List Op) (at : ℕ) (d : Op) → 0 < at → at ≤ length ops → drop (at - 1) ops ≡ get_or ops (at - 1) d ∷ drop at ops
one_back ops at d some within = drop_more ops (at - 1) d (omega (arith, some, within)) ∙ ap (λ n. get_or ops (at - 1) d ∷ drop n ops) (omega (arith, some))

pub none_made : (n : ℕ) (rooms : List Made) → rooms ≡ replicate n (made_of []) → n ≡ 65536 → AreMade [] rooms
none_made n rooms e all = record {
  length = ap length e ∙ length-replicate n (made_of []) ∙ all;
  each = λ site d l. ap (λ r. get_or r site d) e ∙ get_or-replicate n site (made_of []) d (omega (arith, all));
}

same_site : (ops : List Op) (op : Op) (site : ℕ) → ((stamp_of op).site == site) ≡ true
    → made_of (op ∷ filter (is_by (stamp_of op).site) ops) ≡ made_of (filter (is_by site) (op ∷ ops))
same_site ops op site k =
    ap (λ n. made_of (op ∷ filter (is_by n) ops)) (eqb-true (stamp_of op).site site k)
    ∙ ap (λ b. made_of (cond b (op ∷ filter (is_by site) ops) (filter (is_by site) ops))) (sym k)

other_site : (ops : List Op) (op : Op) (site : ℕ) → ((stamp_of op).site == site) ≡ false → made_of (filter (is_by site) ops) ≡ made_of (filter (is_by site) (op ∷ ops))
other_site ops op site k = ap (λ b. made_of (cond b (op ∷ filter (is_by site) ops) (filter (is_by site) ops))) (sym k)

pub one_made : (ops : List Op) (rooms : List Made) (op : Op) (m : Made) → AreMade ops rooms → (stamp_of op).site < 65536 → m ≡ made_of (op ∷ filter (is_by (stamp_of op).site) ops)
    → AreMade (op ∷ ops) (set rooms (stamp_of op).site m)
one_made ops rooms op m h few e = record {
  length = length-set rooms (stamp_of op).site m ∙ h.length;
  each = λ site d l. by_cases ((stamp_of op).site == site)
      (λ k. ap (λ n. get_or (set rooms (stamp_of op).site m) n d) (sym (eqb-true (stamp_of op).site site k))
      ∙ get_or-set_same rooms (stamp_of op).site m d (omega (arith, h.length, few)) ∙ e ∙ same_site ops op site k)
      (λ k. get_or-set_other rooms (stamp_of op).site site m d (λ f. eqb-false (stamp_of op).site site k (sym f))
      ∙ h.each site d l ∙ other_site ops op site k);
}

-- a row has no more operations than there are
pub few_by : (ops : List Op) (site n : ℕ) → length ops + 1 < n → length (filter (is_by site) ops) + 1 < n
few_by ops site n few = omega (arith, few, length-filter (is_by site) ops, count_by-le-length (is_by site) ops)

-- ---- how often each site is among some

pub none_times : (n : ℕ) (rows : List ℕ) → rows ≡ replicate n 0 → n ≡ 65536 → AreTimes [] rows
none_times n rows e all = record {
  length = ap length e ∙ length-replicate n 0 ∙ all;
  each = λ site l. ap (λ r. get_or r site 0) e ∙ get_or-replicate n site 0 0 (omega (arith, all));
}

pub one_times : (sites rows : List ℕ) (site n : ℕ) → AreTimes sites rows → site < 65536 → n ≡ slice_index rows site + 1 → AreTimes (sites ++ site ∷ []) (set rows site n)
one_times sites rows site n h few e = record {
  length = length-set rows site n ∙ h.length;
  each = λ other l. by_cases (site == other)
      (λ k. ap (λ m. slice_index (set rows site n) m) (sym (eqb-true site other k)) ∙ get_or-set_same rows site n 0 (omega (arith, h.length, few)) ∙ e
      ∙ ap (λ m. m + 1) (ap (slice_index rows) (eqb-true site other k) ∙ h.each other l)
      ∙ ap (λ b. times other sites + cond b 1 0) (sym k) ∙ sym (sum_by_push (λ s. cond (s == other) 1 0) sites site))
      (λ k. get_or-set_other rows site other n 0 (λ f. eqb-false site other k (sym f)) ∙ h.each other l
      ∙ (let z : times other sites ≡ times other sites + 0 = omega arith in z)
      ∙ ap (λ b. times other sites + cond b 1 0) (sym k) ∙ sym (sum_by_push (λ s. cond (s == other) 1 0) sites site));
}

-- what is read of a row, at any default
pub read_times : (sites rows : List ℕ) (site n : ℕ) → AreTimes sites rows → site < 65536 → n ≡ get_or rows site n → n ≡ slice_index rows site
read_times sites rows site n h few read = read ∙ get_or_default rows site n 0 (omega (arith, h.length, few))

-- a count is no more than they are
pub few_times : (sites rows : List ℕ) (site : ℕ) → AreTimes sites rows → site < 65536 → slice_index rows site ≤ length sites
few_times sites rows site h few = omega (arith, h.each site few, count_by-le-length (λ s. s == site) sites)
