-- What holds of the differences that are reported.
use Rattle.std.specs.Prelude.{◌≡◌, ◌↔◌, ℕ, Bool, true, List, [], ◌++◌}
use Rattle.desk_ops.specs.OpSet.{OpSet}
use Rattle.desk_ops.specs.Shown.{copy_of}
use Rattle.feed_sites.specs.Counters.{alone_line}
use Rattle.feed_sites.specs.Reported.{Reports, ReportsWords}

-- of a set and itself it is said that they are one, and that neither has anything alone
abbrev pub EqualSetsAreReportedSo : Type 0
EqualSetsAreReportedSo =
    (one other : List ℕ) (set : OpSet) (reported : List ℕ) (same : Bool) → Reports one other set set reported same
    → (same ≡ true) × (reported ≡ alone_line one [] ++ alone_line other [])

-- there are lines of words exactly where the copies are not one
abbrev pub EqualCopiesHaveNoWords : Type 0
EqualCopiesHaveNoWords = (first second : OpSet) (lines : List ℕ) → ReportsWords first second lines → (lines ≡ [])
    ↔ (copy_of first ≡ copy_of second)
