-- Stamps that are forked by a merge: two operations bear them, one here and one there.
use Rattle.std.specs.Prelude.{◌≡◌, ◌↔◌, ◌⊎◌, ℕ, Bool, true, false, not, ◌&&◌, if◌then◌else◌, List, [], ◌∷◌, ◌++◌, None}
use Rattle.std.specs.Prelude.{codes}
use Rattle.std.specs.List.{list_any}
use Rattle.std.specs.List.Sorted.{IsStrictlySortedBy}
use Rattle.desk_ops.specs.declared.fault.CopyFault.{CopyFault}
use Rattle.desk_ops.specs.declared.fault.FaultKind.{FaultKind}
use Rattle.desk_ops.specs.declared.fault.FaultKind.TheVariants.{Forked, Void, Waiting}
use Rattle.desk_ops.specs.declared.op.Stamp.{Stamp}
use Rattle.desk_ops.specs.Held.{is_forked_in}
use Rattle.desk_ops.specs.Lists.{Among}
use Rattle.desk_ops.specs.OpSet.{OpSet}
use Rattle.text_copy.specs.Plain.{plain_text}
use Rattle.feed_edit.specs.Counters.{counters_words}
use Rattle.feed_edit.specs.Stamps.{same_stamp, site_cmp, site_stamp_of, stamp_at}
use Rattle.feed_edit.specs.declared.counters.Naming.TheVariants as namings
use Rattle.feed_edit.specs.declared.forks.Known.{Known}
use Rattle.feed_edit.specs.declared.stamps.SiteStamp.{SiteStamp}

-- the new set forks the stamp, and the old one does not
abbrev pub IsNewlyForked : OpSet → OpSet → Stamp → Type 0
IsNewlyForked old new stamp = (is_forked_in old stamp ≡ false) × (is_forked_in new stamp ≡ true)

-- the new set forks a stamp that the old one does not
abbrev pub AddsFork : OpSet → OpSet → Type 0
AddsFork old new = (stamp : Stamp) × IsNewlyForked old new stamp

-- all such stamps, by site and then by counter, each once
pub record AreNewlyForked (old new : OpSet) (stamps : List SiteStamp) : Type 0 where
  pub rise : IsStrictlySortedBy site_cmp stamps
  pub all : (stamp : SiteStamp) → Among stamp stamps ↔ IsNewlyForked old new (stamp_at stamp)

-- the line of a feed: its name as it is shown, and the numbers that were used both here and there
abbrev pub forks_line : List ℕ → List SiteStamp → List ℕ
forks_line name stamps =
    plain_text name ++ codes ":" ++ counters_words namings.Long None stamps ++ codes " here and there" ++ 10 ∷ []

-- ---- what is known of them

-- the set forks the stamp, and it is not among these
abbrev pub IsForkedBeside : List SiteStamp → OpSet → SiteStamp → Type 0
IsForkedBeside known set stamp = (is_forked_in set (stamp_at stamp) ≡ true) × (Among stamp known → ⊥)

-- all such stamps, by site and then by counter, each once
pub record AreForkedBeside (known : List SiteStamp) (set : OpSet) (stamps : List SiteStamp) : Type 0 where
  pub rise : IsStrictlySortedBy site_cmp stamps
  pub all : (stamp : SiteStamp) → Among stamp stamps ↔ IsForkedBeside known set stamp

-- unless forks are asked for, the new set forks no stamp that the old one does not
abbrev pub IsAllowed : Bool → OpSet → OpSet → Type 0
IsAllowed forks old new = forks ≡ false → AddsFork old new → ⊥

-- the stamps that the set forks, unless forks are asked for: then none are looked for
pub record IsKnown {A : Type 0} (set : OpSet) (known : Known A) : Type 0 where
  pub rise : IsStrictlySortedBy site_cmp known.stamps.items
  pub forked : known.forks ≡ false → AreForkedBeside [] set known.stamps.items

-- unless forks are asked for, these are the stamps that the new set forks and that are not known; they are not looked
-- for where it is the old one
abbrev pub AreFound : {A : Type 0} → Known A → OpSet → OpSet → List SiteStamp → Type 0
AreFound known old new stamps =
    ((stamps ≡ []) × ((known.forks ≡ true) ⊎ (new ≡ old)))
    ⊎ ((known.forks ≡ false) × AreForkedBeside known.stamps.items new stamps)

-- ---- among the faults of a copy

-- the fault of a forked stamp
abbrev pub fork_at : SiteStamp → CopyFault
fork_at stamp = record { stamp = stamp_at stamp; kind = Forked }

abbrev pub is_fork : FaultKind → Bool
is_fork Forked = true
is_fork Void = false
is_fork Waiting = false

-- the stamp of a fault, if that is a fork and not known
abbrev pub fresh_fork : List SiteStamp → CopyFault → List SiteStamp
fresh_fork known fault =
    if is_fork fault.kind && not (list_any (same_stamp (site_stamp_of fault.stamp)) known)
    then site_stamp_of fault.stamp ∷ [] else []

abbrev pub fresh_forks : List SiteStamp → List CopyFault → List SiteStamp
fresh_forks known [] = []
fresh_forks known (fault ∷ faults) = fresh_fork known fault ++ fresh_forks known faults

-- all stamps of forks that are not known, by site and then by counter, each once
pub record AreFreshForks (known : List SiteStamp) (faults : List CopyFault) (stamps : List SiteStamp) : Type 0 where
  pub rise : IsStrictlySortedBy site_cmp stamps
  pub all : (stamp : SiteStamp) → Among stamp stamps ↔ (Among (fork_at stamp) faults × (Among stamp known → ⊥))
