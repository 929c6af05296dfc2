-- A text in the copy of a stored feed, made another at its one place, at one of its places, or at all of them.
use Rattle.std.specs.Prelude.{◌≡◌, ◌≢◌, ◌⊎◌, ℕ, ◌+◌, ◌<◌, Bool, List, [], ◌∷◌, ◌++◌, length, take, drop}
use Rattle.std.specs.Prelude.{Option, Ok, Err}
use Rattle.desk_ops.specs.declared.op.Symbol.{Symbol}
use Rattle.desk_ops.specs.OpSet.{OpSet, max_ops}
use Rattle.desk_ops.specs.Shown.{copy_of}
use Rattle.text_copy.specs.Reading.{reading}
use Rattle.text_copy.specs.declared.fault.TextFault.{TextFault}
use Rattle.text_copy.specs.declared.fault.TextFault.TheVariants as texts
use Rattle.feed_files.specs.Files.{Shelf}
use Rattle.feed_edit.specs.Editing.{IsRevised, IsSparing, IsUnrevised}
use Rattle.feed_edit.specs.Keeping.{IsKept, IsUnkept, edited_line}
use Rattle.feed_edit.specs.Merging.{IsBarred}
use Rattle.feed_edit.specs.Room.{IsBarredHere, IsOpenedHere}
use Rattle.feed_stored.specs.Room.{IsMarked}
use Rattle.feed_edit.specs.declared.fault.RevisionFault.{RevisionFault}
use Rattle.feed_edit.specs.declared.fault.RevisionFault.TheVariants as revisions
use Rattle.feed_edit.specs.Reporting.{IsReported, taken}
use Rattle.feed_edit.specs.declared.room.Room.{Room}
use Rattle.feed_edit.specs.declared.texts.Exchange.{Exchange}
use Rattle.feed_edit.specs.declared.texts.Where.{Where}
use Rattle.feed_edit.specs.declared.replace_fault.ExchangeFault.{ExchangeFault}
use Rattle.feed_edit.specs.declared.replace_fault.ExchangeFault.TheVariants as exchanges
use Rattle.feed_edit.specs.declared.replace_fault.ReplaceFault.{ReplaceFault}
use Rattle.feed_edit.specs.declared.replace_fault.ReplaceFault.TheVariants as faults

-- ---- the two texts

-- they are read as these; where all is plain, without marks
abbrev pub AreRead : Exchange → List Symbol → List Symbol → Type 0
AreRead exchange old new = (reading exchange.plain (exchange.from).now ≡ Ok old)
    × (reading exchange.plain (exchange.to).now ≡ Ok new)

-- why they are not: the first fault of the one, or, where that is read, of the other; or memory ran out
abbrev pub AreUnread : Exchange → ExchangeFault → Type 0
AreUnread exchange (exchanges.Old why) = reading exchange.plain (exchange.from).now ≡ Err why
AreUnread exchange (exchanges.New why) = ((old : List Symbol) × (reading exchange.plain (exchange.from).now ≡ Ok old))
    × (reading exchange.plain (exchange.to).now ≡ Err why)
AreUnread exchange exchanges.NoMemory = Unit {0}

-- the fault of a text that is not read: the one that names the text, unless memory ran out
abbrev pub fault_of : TextFault → ExchangeFault → ExchangeFault
fault_of (texts.At line column cause) named = named
fault_of texts.NoMemory named = exchanges.NoMemory

-- ---- in a copy

-- a copy with a text in place of so many symbols from a place on
abbrev pub replaced : ℕ → ℕ → List Symbol → List Symbol → List Symbol
replaced place count new copy = take place copy ++ new ++ drop (place + count) copy

-- at each of these places, which ascend and do not overlap; the last one first, so that the others stay where they are
abbrev pub replaced_at : List ℕ → ℕ → List Symbol → List Symbol → List Symbol
replaced_at [] count new copy = copy
replaced_at (place ∷ places) count new copy = replaced place count new (replaced_at places count new copy)

-- the one text has a place that is taken in a copy, and this is the copy with the other at each place taken
abbrev pub IsExchanged : Where → List Symbol → List Symbol → List Symbol → List Symbol → Type 0
IsExchanged at old new copy text = (taken at old copy ≢ [])
    × (text ≡ replaced_at (taken at old copy) (length old) new copy)

-- The one text has a place that is taken in the copy of the old set. In that of the new set the other is at each place
-- taken instead, by so many inserts and so many deletes of the site: no more than both copies have symbols between what
-- they begin and end with alike, and none where the copy stays.
abbrev pub Replaces : ℕ → Where → List Symbol → List Symbol → OpSet → OpSet → ℕ → ℕ → Type 0
Replaces site at old new was set inserted deleted = (text : List Symbol) × IsExchanged at old new (copy_of was) text
    × IsRevised site was set text inserted deleted
    × IsSparing (copy_of was) text (inserted + deleted) × (copy_of was ≡ text → set ≡ was)

-- Why the copy of a set was not made a text by a site: the text is longer than the copy of any set; or an edit was
-- refused, or memory ran out.
abbrev pub IsUnmade : ℕ → OpSet → List Symbol → RevisionFault → Type 0
IsUnmade site was text why = ((why ≡ revisions.Full) × (max_ops < length text))
    ⊎ ((now : OpSet) × IsUnrevised site was now text why
    × (copy_of was ≡ text → why ≡ revisions.NoMemory) × (why ≢ revisions.Value))

-- ---- a replacement

-- The set is that of the stored feed, which was let in, with operations of the site that make the one text the other at
-- each place taken. The line was written, its feed stands under the name, and FEED.last has its greatest counter, or is
-- as it was.
abbrev pub IsReplaced : Room → Exchange → Shelf → Shelf → Option (List ℕ) → Option (List ℕ) → Type 0
IsReplaced room exchange first last before after =
    (old new : List Symbol) × AreRead exchange old new × (opened : Shelf) × (read : Option (List ℕ)) × (was : OpSet)
    × IsOpenedHere room first opened read was
    × (set : OpSet) × (inserted deleted : ℕ) × Replaces room.site exchange.at old new was set inserted deleted
    × (stored : Shelf) × IsKept (room.feed).now set (edited_line inserted deleted) read opened stored before after
    × IsMarked (room.feed).now room.site set stored last

-- Why a replacement stopped, and what it left. Until the copy was changed the files are as they were when the feed was
-- let in, and nothing was written but the places.
abbrev pub IsUnreplaced : Room → Exchange → Shelf → Shelf → Option (List ℕ) → Option (List ℕ) → ReplaceFault
    → Type 0
IsUnreplaced room exchange first last before after (faults.Exchange why) = (after ≡ before) × (last ≡ first)
    × AreUnread exchange why
IsUnreplaced room exchange first last before after (faults.Take why) =
    (after ≡ before) × (old new : List Symbol) × AreRead exchange old new × IsBarred (room.feed).now first last why
IsUnreplaced room exchange first last before after (faults.Last why) =
    (after ≡ before) × (old new : List Symbol) × AreRead exchange old new × IsBarredHere room first last why
IsUnreplaced room exchange first last before after (faults.Place why) =
    (old new : List Symbol) × AreRead exchange old new × (read : Option (List ℕ)) × (was : OpSet)
    × IsOpenedHere room first last read was × IsReported exchange.at old (copy_of was) before after why
IsUnreplaced room exchange first last before after (faults.Revision why) =
    (after ≡ before) × (old new : List Symbol) × AreRead exchange old new × (read : Option (List ℕ)) × (was : OpSet)
    × IsOpenedHere room first last read was
    × (text : List Symbol) × IsExchanged exchange.at old new (copy_of was) text × IsUnmade room.site was text why
IsUnreplaced room exchange first last before after (faults.Keep why) =
    (old new : List Symbol) × AreRead exchange old new × (opened : Shelf) × (read : Option (List ℕ)) × (was : OpSet)
    × IsOpenedHere room first opened read was
    × (set : OpSet) × (inserted deleted : ℕ) × Replaces room.site exchange.at old new was set inserted deleted
    × IsUnkept (room.feed).now (edited_line inserted deleted) opened last before after why
