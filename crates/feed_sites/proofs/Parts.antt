-- What is said of two copies, from point to point.
use Rattle.std.proofs.Common.{◌≡◌, ◌∙◌, ◌≤◌, ◌<◌, ℕ, ◌+◌, ◌-◌, true, List, [], ◌∷◌, ◌++◌, length, take, drop, refl, sym, ap, ap₂, subst, arith}
use Rattle.std.specs.List.{slice_range}
use Rattle.std.proofs.Math.Seq.{take-add}
use Rattle.std.proofs.lemmas.List.{drop-drop}
use Rattle.std.specs.Prelude.{◌≢◌}
use Rattle.desk_ops.specs.declared.op.Symbol.{Symbol}
use Rattle.feed_sites.specs.declared.stretch.Point.{Point}
use Rattle.feed_sites.specs.declared.stretch.Stretch.{Stretch}
use Rattle.feed_sites.specs.Walking.{EndBefore}
use Rattle.feed_sites.specs.Stretches.{AreApart, AreSame, AreStretches, BeginsApart, Differ, DifferIn, IsReached, ends, is_whole, of_one, of_other, start}

-- a part of a list, from two
pub range_join : {A : Type 0} (xs : List A) (a b c : ℕ) → a ≤ b → b ≤ c → slice_range xs a c ≡ slice_range xs a b ++ slice_range xs b c
range_join xs a b c low high =
    let whole : c - a ≡ (b - a) + (c - b) = omega arith in
    let there : a + (b - a) ≡ b = omega arith in
    ap (λ (k : ℕ). take k (drop a xs)) whole ∙ take-add (b - a) (c - b) (drop a xs)
    ∙ ap (λ l. take (b - a) (drop a xs) ++ take (c - b) l) (drop-drop (b - a) a xs ∙ ap (λ (k : ℕ). drop k xs) there)

pub reached_farther : (one other : List Symbol) (a b c : Point) → IsReached one other a b → IsReached one other b c → IsReached one other a c
reached_farther one other a b c f g = record { one_rises = omega arith; other_rises = omega arith; one_within = g.one_within; other_within = g.other_within }

pub same_farther : (one other : List Symbol) (a b c : Point) → AreSame one other a b → AreSame one other b c → AreSame one other a c
same_farther one other a b c f g = record {
  reached = reached_farther one other a b c f.reached g.reached;
  same = range_join one a.one b.one c.one f.reached.one_rises g.reached.one_rises ∙ ap₂ (λ l m. l ++ m) f.same g.same ∙ sym (range_join other a.other b.other c.other f.reached.other_rises g.reached.other_rises);
}

pub here : (one other : List Symbol) (a b : Point) → IsReached one other a b → IsReached one other b b
here one other a b r = record { one_rises = omega arith; other_rises = omega arith; one_within = r.one_within; other_within = r.other_within }

pub none_between : (one other : List Symbol) (a b : Point) → IsReached one other a b → AreSame one other b b
none_between one other a b r = record { reached = here one other a b r; same = nothing one b.one ∙ sym (nothing other b.other) }
  where
    nothing : (xs : List Symbol) (k : ℕ) → slice_range xs k k ≡ []
    nothing xs k = let e : k - k ≡ 0 = omega arith in rw e refl

-- the stretches up to a point are those up to a later one, where the copies are the same between the two
pub reported_farther : (one other : List Symbol) (from a b : Point) (stretches : List Stretch) → DifferIn one other from stretches a → AreSame one other a b → DifferIn one other from stretches b
reported_farther one other from a b [] reported same = same_farther one other from a b reported same
reported_farther one other from a b (s ∷ stretches) reported same = (reported.0, reported.1, reported_farther one other s.to a b stretches reported.2 same)

-- and up to the end of a stretch that begins there
pub reported_stretch : (one other : List Symbol) (from : Point) (next : Stretch) (stretches : List Stretch) → DifferIn one other from stretches next.from → Differ one other next → DifferIn one other from (stretches ++ next ∷ []) next.to
reported_stretch one other from next [] reported differ = (reported, differ, none_between one other next.from next.to differ.reached)
reported_stretch one other from next (s ∷ stretches) reported differ = (reported.0, reported.1, reported_stretch one other s.to next stretches reported.2 differ)

-- ---- a stretch that is closed

pub closed_same : (one other : List Symbol) (from to : Point) (stretches : List Stretch) → DifferIn one other start stretches from → IsReached one other from to → of_one one from to ≡ of_other other from to → DifferIn one other start stretches to
closed_same one other from to stretches reported reached same = reported_farther one other start from to stretches reported (record { reached = reached; same = same })

pub closed : (one other : List Symbol) (from to : Point) (stretches after : List Stretch) → DifferIn one other start stretches from → is_whole one other from ≡ true → is_whole one other to ≡ true → IsReached one other from to
    → of_one one from to ≢ of_other other from to → BeginsApart one other from to.one → after ≡ stretches ++ (record { from = from; to = to }) ∷ [] → DifferIn one other start after to
closed one other from to stretches after reported whole whole_to reached differ begins is =
    let next : Stretch = record { from = from; to = to } in
    subst (λ (l : List Stretch). DifferIn one other start l to) (sym is) (reported_stretch one other start next stretches reported (record { reached = reached; whole = whole; whole_to = whole_to; differ = differ; begins = begins }))

-- two copies that are one have no stretch, and others those of a walk
pub no_stretches : (one other : List Symbol) (stretches : List Stretch) → stretches ≡ [] → one ≡ other → AreStretches one other stretches
no_stretches one other stretches none same = rw none (record { differ = all_same one other same; apart = tt; none = λ e. refl })
  where
    all_same : (one other : List Symbol) → one ≡ other → AreSame one other start (ends one other)
    all_same one other same = record {
      reached = record { one_rises = omega arith; other_rises = omega arith; one_within = omega arith; other_within = omega arith };
      same = ap (λ (l : List Symbol). slice_range l 0 (length l)) same;
    }

-- ---- stretches are apart

pub end_later : (a b : ℕ) (stretches : List Stretch) → a ≤ b → EndBefore a stretches → EndBefore b stretches
end_later a b [] le before = tt
end_later a b (s ∷ stretches) le before = (omega (arith, before.0), end_later a b stretches le before.1)

end_with : (place : ℕ) (stretches : List Stretch) (next : Stretch) → EndBefore place stretches → next.to.one < place → EndBefore place (stretches ++ next ∷ [])
end_with place [] next before lt = (lt, tt)
end_with place (s ∷ stretches) next before lt = (before.0, end_with place stretches next before.1 lt)

apart_with : (stretches : List Stretch) (next : Stretch) → AreApart stretches → EndBefore next.from.one stretches → AreApart (stretches ++ next ∷ [])
apart_with [] next apart before = (tt, tt)
apart_with (s ∷ []) next apart before = (before.0, (tt, tt))
apart_with (s ∷ t ∷ stretches) next apart before = (apart.0, apart_with (t ∷ stretches) next apart.1 before.1)

-- what stretches are once one more is written
module _ (stretches after : List Stretch) (next : Stretch) (is : after ≡ stretches ++ next ∷ []) where
  pub apart_after : AreApart stretches → EndBefore next.from.one stretches → AreApart after
  apart_after apart before = rw is (apart_with stretches next apart before)

  pub end_after : next.from.one ≤ next.to.one → EndBefore next.from.one stretches → EndBefore (next.to.one + 1) after
  end_after le before =
      let less : next.from.one ≤ next.to.one + 1 = omega arith in
      let last : next.to.one < next.to.one + 1 = omega arith in
      rw is (end_with (next.to.one + 1) stretches next (end_later next.from.one (next.to.one + 1) stretches less before) last)
