-- What holds of the text of FEED.last, and of greatest counters.
use Rattle.std.specs.Prelude.{◌≡◌, ◌≢◌, ◌≤◌, ◌⊎◌, ℕ, true, List, Option, Some}
use Rattle.desk_ops.specs.declared.op.Op.{Op}
use Rattle.desk_ops.specs.declared.op.Stamp.{Stamp}
use Rattle.desk_ops.specs.Op.{stamp_of}
use Rattle.desk_ops.specs.OpSet.{OpSet, has_op}
use Rattle.feed_stored.specs.Greatest.{greatest_of}
use Rattle.feed_stored.specs.Text.{IsNumbered, IsTextOf, Records, Rises, counter_of, last_text, with_stamp}

-- a text is that of one list of stamps alone, and for each site it has what the list has
pub record TextsAreOfOneList : Type 0 where
  pub one : (bytes : List ℕ) (first second : List Stamp) → IsTextOf bytes first → IsTextOf bytes second → first ≡ second
  pub has : (stamps : List Stamp) (site counter : ℕ) → Rises 0 stamps → counter_of stamps site ≡ Some counter
      → Records (last_text stamps) site counter
  pub only : (stamps : List Stamp) (site counter : ℕ) → Rises 0 stamps → Records (last_text stamps) site counter
      → counter_of stamps site ≡ Some counter

-- a stamp in place of its site's leaves a list of rising sites, which has it for its site, and for each other what it
-- had
pub record StampsTakeTheirPlace : Type 0 where
  pub rises : (stamps : List Stamp) (new : Stamp) → Rises 0 stamps → IsNumbered new → Rises 0 (with_stamp stamps new)
  pub own : (stamps : List Stamp) (new : Stamp) → counter_of (with_stamp stamps new) new.site ≡ Some new.counter
  pub others : (stamps : List Stamp) (new : Stamp) (site : ℕ) → site ≢ new.site
      → counter_of (with_stamp stamps new) site ≡ counter_of stamps site

-- no operation that a site bears has a greater counter, and one has it where it is not 0
pub record GreatestIsReached : Type 0 where
  pub within : (set : OpSet) (site : ℕ) (op : Op) → has_op set op ≡ true → (stamp_of op).site ≡ site
      → (stamp_of op).counter ≤ greatest_of set site
  pub reached : (set : OpSet) (site : ℕ) → (greatest_of set site ≡ 0)
      ⊎ ((op : Op) × (has_op set op ≡ true) × ((stamp_of op).site ≡ site)
      × ((stamp_of op).counter ≡ greatest_of set site))
