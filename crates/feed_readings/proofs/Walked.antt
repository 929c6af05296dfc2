-- A walk over the fourth list, from cut to cut.
use Rattle.std.proofs.Common.{◌≡◌, ◌∙◌, ℕ, ◌+◌, ◌<◌, ◌≤◌, Bool, true, false, cond, List, [], ◌∷◌, ◌++◌, length, get_or, drop, sym, ap, ap₂, append_assoc, arith}
use Rattle.std.specs.Prelude.{Option, Some, None}
use Rattle.std.proofs.lemmas.List.{drop_more, drop_all}
use Rattle.feed_readings.specs.declared.reading.Point.{Point}
use Rattle.feed_readings.specs.declared.reading.Reading.{Reading}
use Rattle.feed_readings.specs.declared.reading.Shown.{Shown}
use Rattle.desk_ops.specs.declared.op.Stamp.{Stamp}
use Rattle.feed_readings.specs.Cuts.{cut_of, cuts_from, is_white, is_white_at, place_from, place_of, point_of, with_cut}
use Rattle.feed_readings.specs.Pieces.{LiesIn, behind, pieces_from}
use Rattle.feed_readings.specs.Readings.{ended, row_behind, rows}

-- ---- a cut lies in each of the lists

place_within : (n : ℕ) (list : List Shown) (s : Stamp) (p : ℕ) → place_from n list s ≡ Some p → p < n + length list
place_within n [] s p e = cc
place_within n (x ∷ xs) s p e = by (place_within (n + 1) xs s p) (is_white_at s x) e
  where
    by : (place_from (n + 1) xs s ≡ Some p → p < (n + 1) + length xs) → (b : Bool) → cond b (Some n) (place_from (n + 1) xs s) ≡ Some p → p < n + length (x ∷ xs)
    by deeper true h = let same : n ≡ p = cc in omega arith
    by deeper false h = omega (arith, deeper h)

place_in_list : (list : List Shown) (s : Stamp) (p : ℕ) → place_of list s ≡ Some p → p < length list
place_in_list list s p e = omega (arith, place_within 0 list s p e)

-- the parts of a point
pub record AreParts (base one other : Option ℕ) (both : ℕ) (cut : Point) : Type 0 where
  pub of_base : base ≡ Some cut.base
  pub of_one : one ≡ Some cut.one
  pub of_other : other ≡ Some cut.other
  pub of_both : both ≡ cut.both

pub parts : (base one other : Option ℕ) (both : ℕ) (cut : Point) → point_of base one other both ≡ Some cut → AreParts base one other both cut
parts None one other both cut e = cc
parts (Some b) None other both cut e = cc
parts (Some b) (Some o) None both cut e = cc
parts (Some b) (Some o) (Some t) both cut e =
    let whole : (record { base = b; one = o; other = t; both = both }) ≡ cut = cc in
    record { of_base = ap (λ (p : Point). Some p.base) whole; of_one = ap (λ (p : Point). Some p.one) whole; of_other = ap (λ (p : Point). Some p.other) whole; of_both = ap (λ (p : Point). p.both) whole }

-- a cut stands before the end of each list, and in the fourth at its own place
pub record StandsIn (base one other : List Shown) (n : ℕ) (cut : Point) : Type 0 where
  pub base_below : cut.base < length base
  pub one_below : cut.one < length one
  pub other_below : cut.other < length other
  pub place : cut.both ≡ n

pub cut_stands : (base one other : List Shown) (n : ℕ) (x : Shown) (cut : Point) → cut_of base one other n x ≡ Some cut → StandsIn base one other n cut
cut_stands base one other n x cut e = by (is_white x.symbol) e
  where
    by : (b : Bool) → cond b (point_of (place_of base x.stamp) (place_of one x.stamp) (place_of other x.stamp) n) None ≡ Some cut → StandsIn base one other n cut
    by true h =
        let p = parts (place_of base x.stamp) (place_of one x.stamp) (place_of other x.stamp) n cut h in
        record {
          base_below = place_in_list base x.stamp cut.base p.of_base;
          one_below = place_in_list one x.stamp cut.one p.of_one;
          other_below = place_in_list other x.stamp cut.other p.of_other;
          place = sym p.of_both;
        }
    by false h = cc

pub cut_lies : (base one other both : List Shown) (n : ℕ) (cut : Point) → StandsIn base one other n cut → n < length both → LiesIn base one other both cut
cut_lies base one other both n cut s lt = record { base_within = omega (arith, s.base_below); one_within = omega (arith, s.one_below); other_within = omega (arith, s.other_below); both_within = omega (arith, s.place) }

-- ---- a step over an element

module _ (base one other both : List Shown) (n : ℕ) (d : Shown) (lt : n < length both) where
  cuts_more : (o : Option Point) → cut_of base one other n (get_or both n d) ≡ o → cuts_from base one other n (drop n both) ≡ with_cut o (cuts_from base one other (n + 1) (drop (n + 1) both))
  cuts_more o e =
      ap (λ (l : List Shown). cuts_from base one other n l) (drop_more both n d lt)
      ∙ ap (λ (o : Option Point). with_cut o (cuts_from base one other (n + 1) (drop (n + 1) both))) e

  -- an element that is no cut
  pub step_none : (test : Reading → Bool) (readings whole : List Reading) (row : Option Reading) (from end : Point) → cut_of base one other n (get_or both n d) ≡ None
      → readings ++ rows test row (pieces_from from (cuts_from base one other n (drop n both)) end) ≡ whole
      → readings ++ rows test row (pieces_from from (cuts_from base one other (n + 1) (drop (n + 1) both)) end) ≡ whole
  step_none test readings whole row from end e is = ap (λ (l : List Point). readings ++ rows test row (pieces_from from l end)) (sym (cuts_more None e)) ∙ is

  -- a cut
  pub step_cut : (test : Reading → Bool) (readings after whole : List Reading) (row next : Option Reading) (from to end cut : Point) (opens : Bool) → cut_of base one other n (get_or both n d) ≡ Some cut
      → to ≡ behind cut → opens ≡ test (record { from = from; to = cut }) → next ≡ row_behind row (record { from = from; to = cut }) opens → after ≡ readings ++ ended row opens
      → readings ++ rows test row (pieces_from from (cuts_from base one other n (drop n both)) end) ≡ whole
      → after ++ rows test next (pieces_from to (cuts_from base one other (n + 1) (drop (n + 1) both)) end) ≡ whole
  step_cut test readings after whole row next from to end cut opens e is_behind tested goes writes is =
      let piece : Reading = record { from = from; to = cut } in
      let rest : List Reading = pieces_from (behind cut) (cuts_from base one other (n + 1) (drop (n + 1) both)) end in
      ap (λ (p : Point). after ++ rows test next (pieces_from p (cuts_from base one other (n + 1) (drop (n + 1) both)) end)) is_behind
      ∙ ap₂ (λ (l : List Reading) (r : Option Reading). l ++ rows test r rest) writes goes
      ∙ append_assoc readings (ended row opens) (rows test (row_behind row piece opens) rest)
      ∙ ap (λ (b : Bool). readings ++ (ended row b ++ rows test (row_behind row piece b) rest)) tested
      ∙ ap (λ (l : List Point). readings ++ rows test row (pieces_from from l end)) (sym (cuts_more (Some cut) e))
      ∙ is

-- ---- the end

pub walk_ends : (base one other both : List Shown) (n : ℕ) (test : Reading → Bool) (readings after all whole : List Reading) (row next : Option Reading) (from end : Point) (opens : Bool) → length both ≤ n
    → opens ≡ test (record { from = from; to = end }) → next ≡ row_behind row (record { from = from; to = end }) opens → after ≡ readings ++ ended row opens → all ≡ after ++ rows test next []
    → readings ++ rows test row (pieces_from from (cuts_from base one other n (drop n both)) end) ≡ whole
    → all ≡ whole
walk_ends base one other both n test readings after all whole row next from end opens over tested goes writes ends is =
    let piece : Reading = record { from = from; to = end } in
    ends
    ∙ ap₂ (λ (l : List Reading) (r : Option Reading). l ++ rows test r []) writes goes
    ∙ append_assoc readings (ended row opens) (rows test (row_behind row piece opens) [])
    ∙ ap (λ (b : Bool). readings ++ (ended row b ++ rows test (row_behind row piece b) [])) tested
    ∙ ap (λ (l : List Shown). readings ++ rows test row (pieces_from from (cuts_from base one other n l) end)) (sym (drop_all n both over))
    ∙ is
