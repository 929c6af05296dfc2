-- A walk over two copies, from point to point.
use Rattle.std.specs.Prelude.{◌≡◌, ◌≢◌, ◌<◌, ◌⊎◌, ℕ, ◌+◌, true, List, [], ◌∷◌, length}
use Rattle.desk_ops.specs.declared.op.Symbol.{Symbol}
use Rattle.feed_sites.specs.declared.stretch.Point.{Point}
use Rattle.feed_sites.specs.declared.stretch.Stretch.{Stretch}
use Rattle.feed_sites.specs.declared.stretches.Front.{Front}
use Rattle.feed_sites.specs.Stretches.{AreApart, AreSame, BeginsApart, DifferIn, IsReached, is_whole, of_one}
use Rattle.feed_sites.specs.Stretches.{of_other, start}

-- no prefix of what two copies have behind a point is the same
abbrev pub IsParted : List Symbol → List Symbol → Point → Type 0
IsParted one other from = (point : Point) → IsReached one other from point → from.one < point.one
    → of_one one from point ≢ of_other other from point

-- from one point to another the copies have one symbol, and it is the same
pub record IsAlong (one other : List Symbol) (from to : Point) : Type 0 where
  pub farther : to.one ≡ from.one + 1
  pub same : AreSame one other from to

-- a step goes on in one of the copies at least, and in both where they have the same symbol
pub record IsStep (one other : List Symbol) (from to : Point) : Type 0 where
  pub reached : IsReached one other from to
  pub farther : from.one + from.other < to.one + to.other
  pub along : IsAlong one other from to ⊎ IsParted one other from

-- the copies are the same between a point where words are whole and another, and no word that is whole ends in between,
-- up to a place
pub record IsAlike (one other : List Symbol) (front : Front) (point : Point) (limit : ℕ) : Type 0 where
  pub same : AreSame one other front.open point
  pub last : front.last ≡ front.open
  pub apart : (p : Point) → is_whole one other p ≡ true → IsReached one other front.open p → front.open.one < p.one
      → p.one < limit → of_one one front.open p ≢ of_other other front.open p

-- stretches end before a place of the first copy
abbrev pub EndBefore : ℕ → List Stretch → Type 0
EndBefore place [] = Unit {0}
EndBefore place (stretch ∷ stretches) = (stretch.to.one < place) × EndBefore place stretches

-- how far a walk that has come to a point has compared the copies: the stretches are those up to `open`, and `last` is
-- the last point at which words are whole; up to the limit no words behind `open` are the same in both
pub record HasReported (one other : List Symbol) (stretches : List Stretch) (front : Front) (point : Point) (limit : ℕ)
    : Type 0 where
  pub reported : DifferIn one other start stretches front.open
  pub apart : AreApart stretches
  pub behind : EndBefore front.open.one stretches
  pub open_whole : is_whole one other front.open ≡ true
  pub last_whole : is_whole one other front.last ≡ true
  pub last_reached : IsReached one other front.open front.last
  pub point_reached : IsReached one other front.last point
  pub begun : IsAlike one other front point limit ⊎ BeginsApart one other front.open (length one)
