-- The rooms of a copy, as text: what each site made, and what the copy shows of it.
use Rattle.std.specs.Prelude.{◌≡◌, ℕ, ◌+◌, ◌==◌, Bool, true, false, ◌&&◌, ◌||◌, if◌then◌else◌, nat_lt, List, [], ◌∷◌}
use Rattle.std.specs.Prelude.{◌++◌, length, map, filter, count_by, flat_map, codes, Option}
use Rattle.std.specs.List.{range_with_len}
use Rattle.std.specs.Fmt.{decimal}
use Rattle.std.specs.Io.KnownBytes.{Appends}
use Rattle.desk_ops.specs.declared.op.Stamp.{Stamp}
use Rattle.desk_ops.specs.declared.op.Op.{Op}
use Rattle.desk_ops.specs.declared.op.Op.TheVariants.{Insert, Delete, Set}
use Rattle.desk_ops.specs.declared.fault.CopyFault.{CopyFault}
use Rattle.desk_ops.specs.Op.{Insertion, stamp_of}
use Rattle.desk_ops.specs.OpSet.{OpSet, in_order}
use Rattle.desk_ops.specs.Held.{greatest_counter}
use Rattle.desk_ops.specs.Shown.{copy_of, shown_of}
use Rattle.desk_ops.specs.Faults.{faults_of}
use Rattle.desk_ops.specs.Words.{stamp_words}
use Rattle.feed_files.specs.Files.{Shelf}
use Rattle.feed_stored.specs.Sending.{WritesPrefix}
use Rattle.feed_edit.specs.Exporting.{IsClosedBy, IsSetOf}
use Rattle.feed_edit.specs.declared.fault.ExportFault.{ExportFault}
use Rattle.feed_edit.specs.declared.fault.ExportFault.TheVariants as exports
use Rattle.feed_history.specs.declared.rooms_made.Made.{Made}

-- ---- what some operations are

abbrev pub is_insert : Op → Bool
is_insert (Insert stamp parent symbol) = true
is_insert (Delete stamp target) = false
is_insert (Set stamp key value) = false

abbrev pub is_delete : Op → Bool
is_delete (Insert stamp parent symbol) = false
is_delete (Delete stamp target) = true
is_delete (Set stamp key value) = false

abbrev pub is_set : Op → Bool
is_set (Insert stamp parent symbol) = false
is_set (Delete stamp target) = false
is_set (Set stamp key value) = true

-- the counter of the first, or 0; of operations in order it is the least
abbrev pub first_counter : List Op → ℕ
first_counter [] = 0
first_counter (op ∷ ops) = (stamp_of op).counter

-- whether a counter is left out between one and the next
abbrev pub has_gaps : List Op → Bool
has_gaps [] = false
has_gaps (op ∷ ops) = nat_lt ((stamp_of op).counter + 1) (first_counter ops) || has_gaps ops

-- of operations in order: their least and greatest counter, whether there are gaps, and how many are of each kind
abbrev pub made_of : List Op → Made
made_of ops = record {
  least = first_counter ops;
  greatest = greatest_counter ops;
  gaps = has_gaps ops;
  inserts = count_by is_insert ops;
  deletes = count_by is_delete ops;
  sets = count_by is_set ops;
}

-- ---- what a site made, and what the copy shows of it

-- whether the site bears the operation
abbrev pub is_by : ℕ → Op → Bool
is_by site op = (stamp_of op).site == site

-- what a site made
abbrev pub made_by : OpSet → ℕ → Made
made_by set site = made_of (filter (is_by site) (in_order set))

-- the site of each symbol that the copy shows
abbrev pub sites_shown : OpSet → List ℕ
sites_shown set = map (λ (x : Insertion). x.stamp.site) (shown_of set)

-- the site of each copy fault
abbrev pub fault_site : CopyFault → ℕ
fault_site fault = fault.stamp.site

abbrev pub sites_at_fault : OpSet → List ℕ
sites_at_fault set = map fault_site (faults_of set)

-- how often a site is among some
abbrev pub times : ℕ → List ℕ → ℕ
times site sites = count_by (λ other. other == site) sites

-- ---- the text

abbrev pub stamp_by : ℕ → ℕ → Stamp
stamp_by site counter = record { counter = counter; site = site }

abbrev pub gaps_words : Bool → List ℕ
gaps_words gaps = if gaps then codes " with gaps" else []

abbrev pub span_words : ℕ → Made → List ℕ
span_words site made = codes "site " ++ decimal site ++ codes " from " ++ stamp_words (stamp_by site made.least)
    ++ codes " to " ++ stamp_words (stamp_by site made.greatest) ++ gaps_words made.gaps

abbrev pub kinds_words : Made → List ℕ
kinds_words made = codes ": inserts " ++ decimal made.inserts ++ codes ", deletes " ++ decimal made.deletes
    ++ codes ", sets " ++ decimal made.sets

abbrev pub shown_words : (shown faults : ℕ) → List ℕ
shown_words shown faults = codes ", shown " ++ decimal shown ++ codes ", faults " ++ decimal faults ++ 10 ∷ []

abbrev pub counts_words : Made → (shown faults : ℕ) → List ℕ
counts_words made shown faults = kinds_words made ++ shown_words shown faults

-- whether no operation was made
abbrev pub is_nothing : Made → Bool
is_nothing made = (made.inserts == 0) && (made.deletes == 0) && (made.sets == 0)

-- no line where there is no operation
abbrev pub line_of : ℕ → Made → (shown faults : ℕ) → List ℕ
line_of site made shown faults = if is_nothing made then [] else span_words site made ++ counts_words made shown faults

-- the line of a site
abbrev pub site_line : OpSet → ℕ → List ℕ
site_line set site = line_of site (made_by set site) (times site (sites_shown set)) (times site (sites_at_fault set))

-- each number of 16 bits, rising
unfoldable pub sites : List ℕ
sites = range_with_len 0 65536

-- the line of each site
abbrev pub site_lines : OpSet → List ℕ
site_lines set = flat_map (site_line set) sites

-- the counts of all operations, and of what the copy shows
abbrev pub copy_words : List Op → (shown faults : ℕ) → List ℕ
copy_words ops shown faults = codes "copy" ++ counts_words (made_of ops) shown faults

abbrev pub rooms_text : OpSet → List ℕ
rooms_text set = site_lines set ++ copy_words (in_order set) (length (copy_of set)) (length (faults_of set))

-- ---- the run

-- what was written is the text of the rooms of the set that the name stands for
abbrev pub IsRoomsOf : List ℕ → Shelf → Option (List ℕ) → Option (List ℕ) → Type 0
IsRoomsOf name first before after = (set : OpSet) × IsSetOf name first set × Appends before after (rooms_text set)

-- why not all of the text was written, and what was: nothing, or under Write a prefix; `NoMemory` only once the feed
-- was opened
abbrev pub IsNoRoomsOf : List ℕ → Shelf → Shelf → Option (List ℕ) → Option (List ℕ) → ExportFault → Type 0
IsNoRoomsOf name first last before after (exports.Feed why) = (after ≡ before) × IsClosedBy name first last why
IsNoRoomsOf name first last before after exports.Write = (set : OpSet) × IsSetOf name first set
    × WritesPrefix before after (rooms_text set) × (last.failures ≡ first.failures)
IsNoRoomsOf name first last before after exports.NoMemory = (after ≡ before) × (set : OpSet) × IsSetOf name first set
    × (last.failures ≡ first.failures)
