-- What holds of the lines of sites.
use Rattle.std.specs.Prelude.{◌≡◌, ◌≤◌, ◌<◌, ◌↔◌, ℕ, true, false, [], length, sum_by}
use Rattle.desk_ops.specs.declared.op.Op.{Op}
use Rattle.desk_ops.specs.Op.{stamp_of}
use Rattle.desk_ops.specs.OpSet.{OpSet, has_op, in_order}
use Rattle.desk_ops.specs.Held.{is_borne_in}
use Rattle.desk_ops.specs.Shown.{copy_of}
use Rattle.desk_ops.specs.Faults.{faults_of}
use Rattle.feed_history.specs.Rooms.{is_nothing, made_by, made_of, site_line, sites, sites_at_fault, sites_shown}
use Rattle.feed_history.specs.Rooms.{stamp_by, times}

-- each operation's site is a number of 16 bits
abbrev pub AreNumbered : OpSet → Type 0
AreNumbered set = (op : Op) → has_op set op ≡ true → (stamp_of op).site < 65536

-- the counts of the last line are the sums of those of the sites
pub record AreSums (set : OpSet) : Type 0 where
  pub inserts : sum_by (λ site. (made_by set site).inserts) sites ≡ (made_of (in_order set)).inserts
  pub deletes : sum_by (λ site. (made_by set site).deletes) sites ≡ (made_of (in_order set)).deletes
  pub sets : sum_by (λ site. (made_by set site).sets) sites ≡ (made_of (in_order set)).sets
  pub shown : sum_by (λ site. times site (sites_shown set)) sites ≡ length (copy_of set)
  pub faults : sum_by (λ site. times site (sites_at_fault set)) sites ≡ length (faults_of set)

abbrev pub SumsAreCounts : Type 0
SumsAreCounts = (set : OpSet) → AreNumbered set → AreSums set

-- Each operation of a site is from the least of its counters to the greatest, operations bear these, and there are gaps
-- exactly where some counter between is borne by none.
pub record IsSpan (set : OpSet) (site : ℕ) : Type 0 where
  pub within : (op : Op) → has_op set op ≡ true → (stamp_of op).site ≡ site
      → ((made_by set site).least ≤ (stamp_of op).counter) × ((stamp_of op).counter ≤ (made_by set site).greatest)
  pub borne : (op : Op) → has_op set op ≡ true → (stamp_of op).site ≡ site
      → (is_borne_in set (stamp_by site (made_by set site).least) ≡ true)
      × (is_borne_in set (stamp_by site (made_by set site).greatest) ≡ true)
  pub gaps : ((made_by set site).gaps ≡ true) ↔ ((counter : ℕ) × ((made_by set site).least < counter)
      × (counter < (made_by set site).greatest) × (is_borne_in set (stamp_by site counter) ≡ false))

abbrev pub SpansAreBetween : Type 0
SpansAreBetween = (set : OpSet) (site : ℕ) → IsSpan set site

-- A site that bears no operation has no line, and what one that bears some made is not nothing, so it has a line.
pub record HasLine (set : OpSet) (site : ℕ) : Type 0 where
  pub none : ((op : Op) → has_op set op ≡ true → (stamp_of op).site ≡ site → ⊥) → site_line set site ≡ []
  pub some : (op : Op) → has_op set op ≡ true → (stamp_of op).site ≡ site → is_nothing (made_by set site) ≡ false

abbrev pub LinesAreOfThese : Type 0
LinesAreOfThese = (set : OpSet) (site : ℕ) → HasLine set site
