-- What is said of two sets of operations.
use Rattle.std.specs.Prelude.{◌≡◌, ◌↔◌, ◌==◌, ◌||◌, ℕ, nat_lt, if◌then◌else◌, Bool, true, List, [], ◌++◌}
use Rattle.desk_ops.specs.OpSet.{OpSet, max_ops, size, union}
use Rattle.desk_ops.specs.Shown.{copy_of}
use Rattle.feed_readings.specs.Lines.{reported_of}
use Rattle.feed_edit.specs.declared.stamps.SiteStamp.{SiteStamp}
use Rattle.feed_sites.specs.Alone.{AreAlone}
use Rattle.feed_sites.specs.Counters.{alone_line}
use Rattle.feed_sites.specs.Stretches.{AreStretches}
use Rattle.feed_sites.specs.Words.{stretches_lines}
use Rattle.feed_sites.specs.declared.stretch.Stretch.{Stretch}

-- the lines of what each of two sets holds alone, with the names of their feeds
abbrev pub ReportsAlone : List ℕ → List ℕ → OpSet → OpSet → List ℕ → Type 0
ReportsAlone one other first second lines =
    (ones others : List SiteStamp) × AreAlone first second ones × AreAlone second first others
    × (lines ≡ alone_line one ones ++ alone_line other others)

-- the lines of the words in which their copies differ
abbrev pub ReportsWords : OpSet → OpSet → List ℕ → Type 0
ReportsWords first second lines =
    (stretches : List Stretch) × AreStretches (copy_of first) (copy_of second) stretches
    × (lines ≡ stretches_lines (copy_of first) (copy_of second) stretches)

-- the second brings the first nothing new, or both are more than a replica holds
abbrev pub joins_nothing : OpSet → OpSet → Bool
joins_nothing first second = size (union first second) == size first || nat_lt max_ops (size (union first second))

-- the lines of the readings that would be open, if the second joined the first
abbrev pub readings_lines : OpSet → OpSet → List ℕ
readings_lines first second = if joins_nothing first second then [] else reported_of first second

abbrev pub IsText : List ℕ → List ℕ → OpSet → OpSet → List ℕ → Type 0
IsText one other first second reported =
    (lines words : List ℕ) × ReportsAlone one other first second lines × ReportsWords first second words
    × (reported ≡ lines ++ words ++ readings_lines first second)

-- what is said of two sets, and whether they are one
pub record Reports (one other : List ℕ) (first second : OpSet) (reported : List ℕ) (same : Bool) : Type 0 where
  pub text : IsText one other first second reported
  pub are_one : (same ≡ true) ↔ (first ≡ second)
