-- The copy of a stored feed, made a text that is read.
use Rattle.std.specs.Prelude.{◌≡◌, ◌≢◌, ◌≤◌, ◌<◌, ◌⊎◌, ◌||◌, ◌&&◌, ℕ, ◌+◌, nat_le, nat_lt, Bool, true, false, List, []}
use Rattle.std.specs.Prelude.{◌∷◌, Option, IfSome, Ok, Err, length}
use Rattle.std.specs.Io.KnownBytes.{Appends, Consumes, IsAtEnd}
use Rattle.desk_ops.specs.declared.op.Symbol.{Symbol}
use Rattle.desk_ops.specs.OpSet.{OpSet}
use Rattle.desk_ops.specs.Shown.{copy_of}
use Rattle.text_copy.specs.Reading.{reading}
use Rattle.feed_files.specs.Files.{Shelf}
use Rattle.feed_files.specs.Input.{HasTaken, IsInput, IsReadTo}
use Rattle.feed_files.specs.declared.input.ReaderFault.TheVariants as readers
use Rattle.feed_edit.specs.Editing.{IsRevised, IsUnrevised}
use Rattle.feed_edit.specs.Keeping.{IsKept, IsUnkept, edited_line}
use Rattle.feed_edit.specs.Merging.{IsBarred, IsOpened}
use Rattle.feed_edit.specs.Room.{IsBarredHere, IsOpenedHere}
use Rattle.feed_stored.specs.Room.{IsMarked}
use Rattle.feed_edit.specs.declared.room.Room.{Room}
use Rattle.feed_edit.specs.declared.importing.ImportMode.{ImportMode}
use Rattle.feed_edit.specs.declared.fault.InputFault.{InputFault}
use Rattle.feed_edit.specs.declared.fault.InputFault.TheVariants as inputs
use Rattle.feed_edit.specs.declared.fault.RevisionFault.TheVariants as revisions
use Rattle.feed_edit.specs.declared.fault.ImportFault.{ImportFault}
use Rattle.feed_edit.specs.declared.fault.ImportFault.TheVariants as imports

-- ---- the text

-- the most bytes of a text
abbrev pub max_text : ℕ
max_text = 8388608

-- all that a reader has left, where that is known; and no more than a text may have
abbrev pub FitsText : Option (List ℕ) → List ℕ → Type 0
FitsText input bytes = (length bytes ≤ max_text) × IsInput input bytes

-- all that a reader has left is read as this copy; where all is plain, without marks
abbrev pub IsReadAs : Bool → Option (List ℕ) → List Symbol → Type 0
IsReadAs plain input text = (bytes : List ℕ) × FitsText input bytes × (reading plain bytes ≡ Ok text)

-- why what a reader has left is not read as a copy
abbrev pub IsNoText : Bool → Option (List ℕ) → InputFault → Type 0
IsNoText plain input inputs.Read = Unit {0}
IsNoText plain input inputs.TooLong = IfSome input (λ known. max_text < length known)
IsNoText plain input (inputs.Text why) = (bytes : List ℕ) × FitsText input bytes × (reading plain bytes ≡ Err why)
IsNoText plain input inputs.NoMemory = Unit {0}

-- the reader was read to its end, and had no more than a text may have
abbrev pub IsReadOut : Option (List ℕ) → Option (List ℕ) → Type 0
IsReadOut before after = (read : List ℕ) × Consumes before after read × (length read ≤ max_text) × IsAtEnd after

-- How far a reader was read that gave no copy: up to where it failed, or beyond what a text may have; to its end, where
-- the text is refused. Where memory ran out, on the way, with some bytes read and no more than a text may have, or at
-- its end.
abbrev pub IsLeft : Option (List ℕ) → Option (List ℕ) → InputFault → Type 0
IsLeft before after inputs.Read = IsReadTo max_text before after readers.Failed
IsLeft before after inputs.TooLong = IsReadTo max_text before after readers.TooLong
IsLeft before after (inputs.Text why) = IsReadOut before after
IsLeft before after inputs.NoMemory = HasTaken max_text before after ⊎ IsReadOut before after

-- ---- most of a copy

abbrev pub is_none : List Symbol → Bool
is_none [] = true
is_none (symbol ∷ text) = false

-- a copy of so many symbols is to become this text, so many of them deleted: it has some and the text none; or it has
-- 200 or more, and more than half of them go
abbrev pub is_wiped : ℕ → List Symbol → ℕ → Bool
is_wiped of text deleted = (nat_lt 0 of && is_none text) || (nat_le 200 of && nat_lt of (deleted + deleted))

-- unless that is asked for, not most of a copy is deleted
abbrev pub IsSpared : Bool → OpSet → List Symbol → ℕ → Type 0
IsSpared all old text deleted = all ≡ false → is_wiped (length (copy_of old)) text deleted ≡ false

-- to make the copy of a set the text, so many of its symbols, which are so many, are deleted: most of them, and that
-- is not asked for
abbrev pub IsWiping : ℕ → Bool → OpSet → List Symbol → ℕ → ℕ → Type 0
IsWiping site all old text deleted of =
    (all ≡ false) × (of ≡ length (copy_of old)) × (is_wiped of text deleted ≡ true) × (set : OpSet) × (inserted : ℕ)
    × IsRevised site old set text inserted deleted

-- why the copy of a set is not made a text: an edit was refused, or most of it would be deleted
abbrev pub IsUnspared : ℕ → Bool → OpSet → List Symbol → ImportFault → Type 0
IsUnspared site all old text (imports.Take why) = ⊥
IsUnspared site all old text (imports.Last why) = ⊥
IsUnspared site all old text (imports.Input why) = ⊥
IsUnspared site all old text (imports.Revision why) = (now : OpSet) × IsUnrevised site old now text why
    × (why ≢ revisions.Value)
IsUnspared site all old text (imports.Wipes deleted of) = IsWiping site all old text deleted of
IsUnspared site all old text (imports.Keep why) = ⊥

-- the copy of a set is now what a reader had, by operations of a site
abbrev pub TakesText : ℕ → Bool → Bool → Option (List ℕ) → OpSet → OpSet → ℕ → ℕ → Type 0
TakesText site plain all input old now inserted deleted =
    (text : List Symbol) × IsReadAs plain input text × IsRevised site old now text inserted deleted
    × IsSpared all old text deleted

-- why the copy of a set is not made what a reader has
abbrev pub RefusesText : ℕ → Bool → Bool → Option (List ℕ) → OpSet → ImportFault → Type 0
RefusesText site plain all input old (imports.Take why) = ⊥
RefusesText site plain all input old (imports.Last why) = ⊥
RefusesText site plain all input old (imports.Input why) = IsNoText plain input why
RefusesText site plain all input old (imports.Revision why) = (text : List Symbol) × IsReadAs plain input text
    × (now : OpSet) × IsUnrevised site old now text why × (why ≢ revisions.Value)
RefusesText site plain all input old (imports.Wipes deleted of) = (text : List Symbol) × IsReadAs plain input text
    × IsWiping site all old text deleted of
RefusesText site plain all input old (imports.Keep why) = ⊥

-- ---- an import

-- The set is that of the stored feed, which was let in, with operations of the site that make its copy the text. The
-- line was written, its feed stands under the name, and FEED.last has its greatest counter, or is as it was.
abbrev pub IsImported : Room → ImportMode → Shelf → Shelf → Option (List ℕ) → Option (List ℕ) → Option (List ℕ)
    → Type 0
IsImported room mode first last input before after =
    (opened : Shelf) × (read : Option (List ℕ)) × (old : OpSet) × IsOpenedHere room first opened read old
    × (set : OpSet) × (inserted deleted : ℕ) × TakesText room.site mode.plain mode.all input old set inserted deleted
    × (stored : Shelf) × IsKept (room.feed).now set (edited_line inserted deleted) read opened stored before after
    × IsMarked (room.feed).now room.site set stored last

-- unless that is asked for, not most of the copy of the stored feed was deleted to make it the text
abbrev pub SparesCopy : List ℕ → Bool → Shelf → Option (List ℕ) → Option (List ℕ) → Option (List ℕ) → Type 0
SparesCopy name plain first input before after =
    (held : Shelf) × (read : Option (List ℕ)) × (old : OpSet) × IsOpened name first held read old
    × (text : List Symbol) × IsReadAs plain input text × (inserted deleted : ℕ)
    × Appends before after (edited_line inserted deleted) × (is_wiped (length (copy_of old)) text deleted ≡ false)

-- Why an import stopped, and what it left. Until the copy was made the text nothing was written, and the files are as
-- they were when the feed was let in. No edit is refused for its value, since what is read is lawful.
abbrev pub IsUnimported : Room → ImportMode → Shelf → Shelf → Option (List ℕ) → Option (List ℕ) → Option (List ℕ)
    → ImportFault → Type 0
IsUnimported room mode first last input before after (imports.Take why) =
    (after ≡ before) × IsBarred (room.feed).now first last why
IsUnimported room mode first last input before after (imports.Last why) =
    (after ≡ before) × IsBarredHere room first last why
IsUnimported room mode first last input before after (imports.Input why) =
    (after ≡ before) × (read : Option (List ℕ)) × (old : OpSet) × IsOpenedHere room first last read old
    × IsNoText mode.plain input why
IsUnimported room mode first last input before after (imports.Revision why) =
    (after ≡ before) × (read : Option (List ℕ)) × (old : OpSet) × IsOpenedHere room first last read old
    × (text : List Symbol) × IsReadAs mode.plain input text × (now : OpSet) × IsUnrevised room.site old now text why
    × (why ≢ revisions.Value)
IsUnimported room mode first last input before after (imports.Wipes deleted of) =
    (after ≡ before) × (read : Option (List ℕ)) × (old : OpSet) × IsOpenedHere room first last read old
    × (text : List Symbol) × IsReadAs mode.plain input text × IsWiping room.site mode.all old text deleted of
IsUnimported room mode first last input before after (imports.Keep why) =
    (opened : Shelf) × (read : Option (List ℕ)) × (old : OpSet) × IsOpenedHere room first opened read old
    × (set : OpSet) × (inserted deleted : ℕ) × TakesText room.site mode.plain mode.all input old set inserted deleted
    × IsUnkept (room.feed).now (edited_line inserted deleted) opened last before after why

-- how far the reader of an import that stopped was read: not at all, where the feed was not taken or not let in; as no
-- text was read; or to its end, where the text was read
abbrev pub LeavesOff : Option (List ℕ) → Option (List ℕ) → ImportFault → Type 0
LeavesOff before after (imports.Take why) = after ≡ before
LeavesOff before after (imports.Last why) = after ≡ before
LeavesOff before after (imports.Input why) = IsLeft before after why
LeavesOff before after (imports.Revision why) = IsReadOut before after
LeavesOff before after (imports.Wipes deleted of) = IsReadOut before after
LeavesOff before after (imports.Keep why) = IsReadOut before after
