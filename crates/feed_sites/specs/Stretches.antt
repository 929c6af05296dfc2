-- The words of two copies that differ.
use Rattle.std.specs.Prelude.{◌≡◌, ◌≢◌, ◌≤◌, ◌<◌, ◌||◌, ◌&&◌, ◌==◌, ℕ, ◌-◌, Bool, true, false, List, [], ◌∷◌, length}
use Rattle.std.specs.Prelude.{Option, Some, None}
use Rattle.std.specs.List.{slice_get, slice_range}
use Rattle.desk_ops.specs.declared.op.Symbol.{Symbol}
use Rattle.desk_ops.specs.Op.{is_line_feed, is_space}
use Rattle.feed_sites.specs.declared.stretch.Point.{Point}
use Rattle.feed_sites.specs.declared.stretch.Stretch.{Stretch}

-- a space or a line feed ends a word
abbrev pub ends_word : Option Symbol → Bool
ends_word None = false
ends_word (Some s) = is_space s || is_line_feed s

-- a word begins at the start of a copy, and behind each space or line feed
abbrev pub begins_word : List Symbol → ℕ → Bool
begins_word copy place = (place == 0) || ends_word (slice_get copy (place - 1))

-- a point is a place in each of two copies; this is where both begin
abbrev pub start : Point
start = record { one = 0; other = 0 }

-- where both end
abbrev pub ends : List Symbol → List Symbol → Point
ends one other = record { one = length one; other = length other }

-- words are whole at a point where a word begins in both copies, and at the end of both
abbrev pub is_whole : List Symbol → List Symbol → Point → Bool
is_whole one other point =
    (begins_word one point.one && begins_word other point.other)
    || ((point.one == length one) && (point.other == length other))

-- the one point comes before the other, or is it, and this lies in both copies
pub record IsReached (one other : List Symbol) (from to : Point) : Type 0 where
  pub one_rises : from.one ≤ to.one
  pub other_rises : from.other ≤ to.other
  pub one_within : to.one ≤ length one
  pub other_within : to.other ≤ length other

-- the symbols of two copies between two points
abbrev pub of_one : List Symbol → Point → Point → List Symbol
of_one one from to = slice_range one from.one to.one

abbrev pub of_other : List Symbol → Point → Point → List Symbol
of_other other from to = slice_range other from.other to.other

-- between two points the copies are the same
pub record AreSame (one other : List Symbol) (from to : Point) : Type 0 where
  pub reached : IsReached one other from to
  pub same : of_one one from to ≡ of_other other from to

-- behind a point of two copies, up to a place of the first, no words that are whole are the same in both
abbrev pub BeginsApart : List Symbol → List Symbol → Point → ℕ → Type 0
BeginsApart one other from place =
    (point : Point) → is_whole one other point ≡ true → IsReached one other from point → from.one < point.one
    → point.one ≤ place → of_one one from point ≢ of_other other from point

-- between two points they differ, words are whole at both, and what is between does not begin with words that both
-- have alike
pub record Differ (one other : List Symbol) (stretch : Stretch) : Type 0 where
  pub reached : IsReached one other stretch.from stretch.to
  pub whole : is_whole one other stretch.from ≡ true
  pub whole_to : is_whole one other stretch.to ≡ true
  pub differ : of_one one stretch.from stretch.to ≢ of_other other stretch.from stretch.to
  pub begins : BeginsApart one other stretch.from stretch.to.one

-- from one point to another the copies differ in these stretches alone, in their order
abbrev pub DifferIn : List Symbol → List Symbol → Point → List Stretch → Point → Type 0
DifferIn one other from [] to = AreSame one other from to
DifferIn one other from (stretch ∷ stretches) to =
    AreSame one other from stretch.from × Differ one other stretch × DifferIn one other stretch.to stretches to

-- the first of some stretches begins behind a place of the first copy, if there are any
abbrev pub IsBehind : ℕ → List Stretch → Type 0
IsBehind place [] = Unit {0}
IsBehind place (stretch ∷ stretches) = place < stretch.from.one

-- between each two stretches there are words that are the same
abbrev pub AreApart : List Stretch → Type 0
AreApart [] = Unit {0}
AreApart (stretch ∷ stretches) = IsBehind stretch.to.one stretches × AreApart stretches

-- the words in which two copies differ: in none where the copies are one
pub record AreStretches (one other : List Symbol) (stretches : List Stretch) : Type 0 where
  pub differ : DifferIn one other start stretches (ends one other)
  pub apart : AreApart stretches
  pub none : one ≡ other → stretches ≡ []
