-- Feeds of files, merged into a stored feed.
use Rattle.std.specs.Prelude.{All, ◌≡◌, ◌≢◌, ◌==◌, ◌&&◌, ℕ, ◌-◌, Bool, true, false, List, [], ◌∷◌, ◌++◌, Option, Ok}
use Rattle.std.specs.Prelude.{Err, codes, length}
use Rattle.desk_ops.specs.declared.op.Op.{Op}
use Rattle.desk_ops.specs.OpSet.{OpSet, max_ops, no_ops, size, with_all}
use Rattle.desk_ops.specs.Faults.{faults_of}
use Rattle.desk_ops.specs.Op.{IsLawful}
use Rattle.desk_codec.specs.Fault.{IsFirstFault}
use Rattle.desk_codec.specs.Feed.{IsFeed}
use Rattle.desk_codec.specs.Runs.{set_feed}
use Rattle.desk_held.specs.Joining.{IsStopped}
use Rattle.desk_held.specs.declared.join.Stopped.{Stopped}
use Rattle.script_answers.specs.Reply.{Counted, Faults}
use Rattle.script_answers.specs.Text.{text}
use Rattle.feed_files.specs.Files.{Counts, IsCounted, IsNowHeld, Kept, Names, Reads, Shelf, Stays}
use Rattle.feed_stored.specs.Fault.{AskMemory, IsUnopened, IsUnread, IsUntaken}
use Rattle.feed_stored.specs.Stored.{IsStoredAs, Opens, as_read}
use Rattle.feed_stored.specs.declared.fault.OpenFault.{OpenFault}
use Rattle.feed_stored.specs.declared.fault.OpenFault.TheVariants as openings
use Rattle.desk_replica.specs.State as replica
use Rattle.feed_readings.specs.Before.{IsJoin}
use Rattle.text_copy.specs.Plain.{plain_text}
use Rattle.feed_readings.specs.Lines.{reported_of}
use Rattle.feed_readings.specs.Merged.{readings_of}
use Rattle.feed_edit.specs.Forks.{AddsFork, AreFound, AreNewlyForked, IsAllowed}
use Rattle.feed_edit.specs.declared.forks.Known.{Known}
use Rattle.feed_edit.specs.declared.merging.Joined.{Joined}
use Rattle.feed_edit.specs.declared.merging.Joined.TheVariants as joins
use Rattle.feed_edit.specs.declared.merging.Taken.{Taken}
use Rattle.feed_edit.specs.Keeping.{IsKept, IsUnkept}
use Rattle.feed_edit.specs.declared.stamps.SiteStamp.{SiteStamp}
use Rattle.feed_edit.specs.declared.fault.FeedTrouble.{FeedTrouble}
use Rattle.feed_edit.specs.declared.fault.FeedTrouble.TheVariants as troubles
use Rattle.feed_edit.specs.declared.fault.TakeFault.{TakeFault}
use Rattle.feed_edit.specs.declared.fault.TakeFault.TheVariants as takes
use Rattle.feed_edit.specs.declared.fault.MergeFault.{MergeFault}
use Rattle.feed_edit.specs.declared.fault.MergeFault.TheVariants as merges

-- ---- the feeds of other files

-- a name stands for the feed of these operations
abbrev pub IsFeedOf : Kept → List Op → Type 0
IsFeedOf kept ops = (bytes : List ℕ) × Reads kept (Ok bytes) × IsFeed bytes ops

-- each name stands for the feed of its list
abbrev pub AreFeeds : Names → List (List ℕ) → List (List Op) → Type 0
AreFeeds kept [] [] = Unit {0}
AreFeeds kept (name ∷ names) (ops ∷ lists) = IsFeedOf (kept name) ops × AreFeeds kept names lists
AreFeeds kept [] (ops ∷ lists) = ⊥
AreFeeds kept (name ∷ names) [] = ⊥

-- a set with the operations of lists, one list after the other
abbrev pub with_lists : OpSet → List (List Op) → OpSet
with_lists set [] = set
with_lists set (ops ∷ lists) = with_lists (with_all set ops) lists

-- ---- what is answered

-- how many operations of a list are new to a set
abbrev pub news : OpSet → List Op → ℕ
news set ops = size (with_all set ops) - size set

-- a line: the name of the file as it is shown, and what of its feed was new and known
abbrev pub counted_line : List ℕ → ℕ → ℕ → List ℕ
counted_line name new known = plain_text name ++ codes " " ++ text (Counted new known) ++ 10 ∷ []

-- with it the open readings of the set and of what the list makes alone
abbrev pub line_of : List ℕ → OpSet → List Op → List ℕ
line_of name set ops = counted_line name (news set ops) (length ops - news set ops)
    ++ reported_of set (with_all no_ops ops)

-- the lines of all
abbrev pub lines_of : OpSet → List (List ℕ) → List (List Op) → List ℕ
lines_of set [] lists = []
lines_of set (name ∷ names) [] = []
lines_of set (name ∷ names) (ops ∷ lists) = line_of name set ops ++ lines_of (with_all set ops) names lists

-- no reading is open where a list of operations joins a set
abbrev pub is_clean : OpSet → List Op → Bool
is_clean set ops = length (readings_of set (with_all no_ops ops)) == 0

-- nor where any of several lists joins it, one list after the other
abbrev pub are_clean : OpSet → List (List Op) → Bool
are_clean set [] = true
are_clean set (ops ∷ lists) = is_clean set ops && are_clean (with_all set ops) lists

-- the line of the faults of the copy
abbrev pub faults_line : OpSet → List ℕ
faults_line set = text (Faults (faults_of set)) ++ 10 ∷ []

-- the set and the lines after the feed of a name, from those before, and whether no reading is open
abbrev pub Joins : Names → List ℕ → OpSet → OpSet → List ℕ → List ℕ → Bool → Type 0
Joins kept name old after reported_before reported clean =
    (ops : List Op) × IsFeedOf (kept name) ops × (after ≡ with_all old ops)
    × (reported ≡ reported_before ++ line_of name old ops) × (clean ≡ is_clean old ops)

-- the feed of a name was joined to a set: its operations, what was kept of the set before, and the counts
pub record IsTaken {A : Type 0} (kept : Names) (name : List ℕ) (old after : OpSet) (taken : Taken A) : Type 0 where
  pub feed : IsFeedOf (kept name) taken.ops.items
  pub lawful : All IsLawful taken.ops.items
  pub joined : IsJoin old taken.ops.items taken.before after
  pub counted : replica.IsCounted old after taken.ops.items taken.count

-- the set with the operations of the feed of a name
abbrev pub IsGained : Names → List ℕ → OpSet → OpSet → Type 0
IsGained kept name old after = (ops : List Op) × IsFeedOf (kept name) ops × (after ≡ with_all old ops)

-- the feed of a name was joined, and its lines are written where no stamp is forked that is not known; or these are
abbrev pub JoinsKnown : {A : Type 0} → Known A → Names → List ℕ → OpSet → OpSet → List ℕ → List ℕ → Joined A → Type 0
JoinsKnown known kept name old after reported_before reported (joins.Written clean) =
    Joins kept name old after reported_before reported clean × AreFound known old after []
JoinsKnown known kept name old after reported_before reported (joins.Forks stamps) = IsGained kept name old after
    × AreFound known old after stamps.items × (stamps.items ≢ [])

-- the set and the lines after the feeds of all names, and whether no reading was open in any join
abbrev pub IsJoined : Names → List (List ℕ) → OpSet → OpSet → List ℕ → Bool → Type 0
IsJoined kept names old after reported clean =
    (lists : List (List Op)) × AreFeeds kept names lists × (after ≡ with_lists old lists)
    × (reported ≡ lines_of old names lists) × (clean ≡ are_clean old lists)

-- ---- a merge

-- the name was taken, and then a feed of this set was read under it, or no file was there
abbrev pub IsOpened : List ℕ → Shelf → Shelf → Option (List ℕ) → OpSet → Type 0
IsOpened name first held read set = IsNowHeld name first held × Reads (held.kept name) (as_read read) × Opens read set

-- The set is that of the stored feed with the operations of all other feeds, and unless forks are asked for it forks
-- nothing new. The lines were written, and its feed stands under the name; and it is known whether no reading was open
-- in any join.
abbrev pub IsMerged : List ℕ → List (List ℕ) → Bool → Shelf → Shelf → Option (List ℕ) → Option (List ℕ) → Bool → Type 0
IsMerged name others forks first last before after clean =
    (held : Shelf) × (read : Option (List ℕ)) × (old : OpSet) × IsOpened name first held read old
    × (set : OpSet) × (reported : List ℕ) × IsJoined held.kept others old set reported clean × IsAllowed forks old set
    × IsKept name set (reported ++ faults_line set) read held last before after

-- no stamp is forked in the set that is stored that the set which was stored did not fork
abbrev pub StoresNoNewFork : List ℕ → Shelf → Shelf → Type 0
StoresNoNewFork name first last =
    (held : Shelf) × (read : Option (List ℕ)) × (old : OpSet) × IsOpened name first held read old
    × (set : OpSet) × IsStoredAs name (set_feed set) read held last × (AddsFork old set → ⊥)

-- ---- why it stopped

-- the read of a file gave these bytes, and the device did not fail
abbrev pub GaveBytes : List ℕ → Shelf → Shelf → List ℕ → Type 0
GaveBytes name before after bytes = Reads (before.kept name) (Ok bytes) × (after.failures ≡ before.failures)

-- a set was full before all of a list was in it
abbrev pub IsFull : OpSet → List Op → Type 0
IsFull set ops = (after : OpSet) × (stop : Stopped) × IsStopped set after ops stop × (size after ≡ max_ops)

-- why the feed of a file does not come into a set: `NoMemory` only where its bytes were read, and are such that memory
-- is asked for
abbrev pub Refuses : OpSet → List ℕ → Shelf → Shelf → FeedTrouble → Type 0
Refuses set name before after (troubles.File why) = Reads (before.kept name) (Err why) × IsCounted why before after
Refuses set name before after (troubles.Feed fault) = (bytes : List ℕ) × GaveBytes name before after bytes
    × IsFirstFault bytes fault
Refuses set name before after troubles.Full = (ops : List Op) × IsFeedOf (before.kept name) ops
    × (after.failures ≡ before.failures) × IsFull set ops
Refuses set name before after troubles.NoMemory = (bytes : List ℕ) × GaveBytes name before after bytes × AskMemory bytes

-- the feeds of the first names were joined, so many, and fork nothing new unless forks are asked for; and this is the
-- next name
abbrev pub IsNext : List (List ℕ) → Bool → OpSet → Shelf → ℕ → OpSet → List ℕ → Type 0
IsNext names forks old before at set name =
    (prefix tail : List (List ℕ)) × (names ≡ prefix ++ name ∷ tail) × (length prefix ≡ at) × (reported : List ℕ)
    × (clean : Bool) × IsJoined before.kept prefix old set reported clean × IsAllowed forks old set

-- the next feed was refused: no file has changed, nor has the device failed, before that one was read
abbrev pub StopsAt : List (List ℕ) → Bool → OpSet → Shelf → Shelf → ℕ → FeedTrouble → Type 0
StopsAt names forks old before after at why = (set : OpSet) × (name : List ℕ)
    × IsNext names forks old before at set name × Refuses set name before after why

-- with the next feed these stamps are forked, which the old set does not fork, and forks are not asked for: no file
-- has changed, nor has the device failed
abbrev pub ForksAt : List (List ℕ) → Bool → OpSet → Shelf → Shelf → ℕ → List SiteStamp → Type 0
ForksAt names forks old before after at stamps =
    (forks ≡ false) × (after ≡ before) × (set : OpSet) × (name : List ℕ) × IsNext names forks old before at set name
    × (ops : List Op) × IsFeedOf (before.kept name) ops × AreNewlyForked old (with_all set ops) stamps × (stamps ≢ [])

-- why feeds were not all joined to a set
abbrev pub StopsJoining : {A : Type 0} → List (List ℕ) → Bool → OpSet → Shelf → Shelf → MergeFault A → Type 0
StopsJoining names forks old before after (merges.Take why) = ⊥
StopsJoining names forks old before after (merges.Other at why) = Stays before after
    × StopsAt names forks old before after at why
StopsJoining names forks old before after (merges.Forks at stamps) = ForksAt names forks old before after at stamps
StopsJoining names forks old before after (merges.Keep why) = ⊥

-- what was read of a stored feed was not opened
abbrev pub IsShut : List ℕ → Shelf → Shelf → OpenFault → Type 0
IsShut name held last fault = Stays held last × (read : Option (List ℕ)) × Reads (held.kept name) (as_read read)
    × Counts (as_read read) held last × IsUnopened read fault

-- why the stored feed does not come in: it was not read, or not opened; out of memory only where its bytes were read
abbrev pub IsBarredBy : List ℕ → Shelf → Shelf → FeedTrouble → Type 0
IsBarredBy name held last (troubles.File why) = IsUnread name held last why
IsBarredBy name held last (troubles.Feed fault) = IsShut name held last (openings.Feed fault)
IsBarredBy name held last troubles.Full = (stop : Stopped) × IsShut name held last (openings.Opening stop)
IsBarredBy name held last troubles.NoMemory = IsShut name held last openings.NoMemory

-- why a stored feed was not taken: its name was not, or it does not come in
abbrev pub IsBarred : List ℕ → Shelf → Shelf → TakeFault → Type 0
IsBarred name first last (takes.Untaken why) = IsUntaken name first last why
IsBarred name first last (takes.Feed why) = (held : Shelf) × IsNowHeld name first held × IsBarredBy name held last why

-- Why a merge stopped, and what it left. Until all was joined nothing was written and no file has changed.
abbrev pub IsUnmerged : {A : Type 0} → List ℕ → List (List ℕ) → Bool → Shelf → Shelf → Option (List ℕ) → Option (List ℕ)
    → MergeFault A → Type 0
IsUnmerged name others forks first last before after (merges.Take why) = (after ≡ before) × IsBarred name first last why
IsUnmerged name others forks first last before after (merges.Other at why) =
    (after ≡ before) × (held : Shelf) × (read : Option (List ℕ)) × (old : OpSet) × IsOpened name first held read old
    × Stays held last × StopsAt others forks old held last at why
IsUnmerged name others forks first last before after (merges.Forks at stamps) =
    (after ≡ before) × (held : Shelf) × (read : Option (List ℕ)) × (old : OpSet) × IsOpened name first held read old
    × ForksAt others forks old held last at stamps
IsUnmerged name others forks first last before after (merges.Keep why) =
    (held : Shelf) × (read : Option (List ℕ)) × (old : OpSet) × IsOpened name first held read old
    × (set : OpSet) × (reported : List ℕ) × (clean : Bool) × IsJoined held.kept others old set reported clean
    × IsAllowed forks old set × IsUnkept name (reported ++ faults_line set) held last before after why
