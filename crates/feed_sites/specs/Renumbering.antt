-- A stored feed whose number another room used too, renumbered.
use Rattle.std.specs.Prelude.{◌≡◌, ◌⊎◌, ◌<◌, ℕ, true, List, [], ◌∷◌, ◌++◌, Option, None, Some, codes}
use Rattle.std.specs.Fmt.{decimal}
use Rattle.std.specs.Io.KnownBytes.{Appends}
use Rattle.desk_ops.specs.OpSet.{OpSet, size}
use Rattle.feed_files.specs.Files.{Shelf, Stays}
use Rattle.feed_stored.specs.Fault.{IsNotStored}
use Rattle.feed_stored.specs.Sending.{WritesPrefix}
use Rattle.feed_edit.specs.Exporting.{IsClosedBy, IsSetOf}
use Rattle.feed_edit.specs.Keeping.{IsKept}
use Rattle.feed_edit.specs.Merging.{IsBarred, IsOpened}
use Rattle.feed_edit.specs.declared.fault.KeepFault.{KeepFault}
use Rattle.feed_edit.specs.declared.fault.KeepFault.TheVariants as keeps
use Rattle.feed_sites.specs.Reported.{ReportsWords}
use Rattle.feed_sites.specs.Moving.{set_renumbered}
use Rattle.feed_sites.specs.Refusing.{IsRefused, MayMove}
use Rattle.feed_sites.specs.declared.fault.RenumberFault.{RenumberFault}
use Rattle.feed_sites.specs.declared.fault.RenumberFault.TheVariants as faults

-- ---- what is written

-- how many operations were moved
abbrev pub renumbered_line : ℕ → List ℕ
renumbered_line count = codes "ok renumbered " ++ decimal count ++ 10 ∷ []

-- the line, and the words in which the copy reads otherwise
abbrev pub Reports : OpSet → OpSet → OpSet → List ℕ → Type 0
Reports feed now moved reported = (words : List ℕ) × ReportsWords feed now words
    × (reported ≡ renumbered_line (size moved) ++ words)

-- ---- a stored feed

-- both feeds were opened: that of the name, which was taken first, and the other, which is only read
pub record AreOpened (name other : List ℕ) (first held : Shelf) (read : Option (List ℕ)) (feed others : OpSet) : Type 0
  where
    pub taken : IsOpened name first held read feed
    pub there : IsSetOf other held others

-- where nothing is moved the line alone was written, and no file has changed; else the line and the words were, and the
-- feed of the new set is stored
abbrev pub IsDone : List ℕ → OpSet → OpSet → OpSet → Option (List ℕ) → Shelf → Shelf → Option (List ℕ) → Option (List ℕ)
    → Type 0
IsDone name feed now moved read held last before after =
    ((size moved ≡ 0) × Appends before after (renumbered_line 0) × (last ≡ held))
    ⊎ ((0 < size moved) × (reported : List ℕ) × Reports feed now moved reported
    × IsKept name now reported read held last before after)

-- why the line alone was not written: under Write a prefix was
abbrev pub IsUnwritten : Option (List ℕ) → Option (List ℕ) → KeepFault → Type 0
IsUnwritten before after keeps.Write = WritesPrefix before after (renumbered_line 0)
IsUnwritten before after (keeps.Unstored why) = ⊥
IsUnwritten before after keeps.NoMemory = after ≡ before

-- why the line, and where operations are moved the words, were not written, or the new set not stored
abbrev pub IsUndone : List ℕ → OpSet → OpSet → OpSet → Shelf → Shelf → Option (List ℕ) → Option (List ℕ) → KeepFault
    → Type 0
IsUndone name feed now moved held last before after keeps.Write =
    (last ≡ held) × (((size moved ≡ 0) × WritesPrefix before after (renumbered_line 0))
    ⊎ ((0 < size moved) × (reported : List ℕ) × Reports feed now moved reported × WritesPrefix before after reported))
IsUndone name feed now moved held last before after (keeps.Unstored why) =
    (0 < size moved) × (reported : List ℕ) × Reports feed now moved reported × Appends before after reported
    × IsNotStored name held last why
IsUndone name feed now moved held last before after keeps.NoMemory = (last ≡ held) × (after ≡ before)

-- the operations that collide, and all that is behind them, were moved
abbrev pub IsRenumbered : List ℕ → List ℕ → ℕ → Shelf → Shelf → Option (List ℕ) → Option (List ℕ) → Type 0
IsRenumbered name other site first last before after =
    (held : Shelf) × (read : Option (List ℕ)) × (feed others moved : OpSet)
    × AreOpened name other first held read feed others
    × MayMove site feed others moved
    × IsDone name feed (set_renumbered site moved feed) moved read held last before after

-- why the two feeds were not opened
abbrev pub IsUnopened : List ℕ → List ℕ → Shelf → Shelf → RenumberFault → Type 0
IsUnopened name other first last (faults.Take why) = IsBarred name first last why
IsUnopened name other first last (faults.Other why) =
    (held : Shelf) × (read : Option (List ℕ)) × (feed : OpSet) × IsOpened name first held read feed × Stays held last
    × IsClosedBy other held last why
IsUnopened name other first last (faults.Number why) = ⊥
IsUnopened name other first last (faults.Keep why) = ⊥

-- Why a feed was not renumbered, and what that left: until all was made nothing was written, and no file has changed.
abbrev pub IsUnrenumbered : List ℕ → List ℕ → ℕ → Shelf → Shelf → Option (List ℕ) → Option (List ℕ) → RenumberFault
    → Type 0
IsUnrenumbered name other site first last before after (faults.Take why) =
    (after ≡ before) × IsUnopened name other first last (faults.Take why)
IsUnrenumbered name other site first last before after (faults.Other why) =
    (after ≡ before) × IsUnopened name other first last (faults.Other why)
IsUnrenumbered name other site first last before after (faults.Number why) =
    (after ≡ before) × (read : Option (List ℕ)) × (feed others : OpSet)
    × AreOpened name other first last read feed others × IsRefused site feed others why
IsUnrenumbered name other site first last before after (faults.Keep why) =
    (held : Shelf) × (read : Option (List ℕ)) × (feed others moved : OpSet)
    × AreOpened name other first held read feed others
    × MayMove site feed others moved
    × IsUndone name feed (set_renumbered site moved feed) moved held last before after why
