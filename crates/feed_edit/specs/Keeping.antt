-- What was done is written, and the feed stored.
use Rattle.std.specs.Prelude.{◌≡◌, ℕ, List, [], ◌∷◌, ◌++◌, Option, codes}
use Rattle.std.specs.Fmt.{decimal}
use Rattle.std.specs.Io.KnownBytes.{Appends}
use Rattle.desk_ops.specs.OpSet.{OpSet}
use Rattle.desk_codec.specs.Runs.{set_feed}
use Rattle.feed_files.specs.Files.{Shelf}
use Rattle.feed_stored.specs.Fault.{IsNotStored}
use Rattle.feed_stored.specs.Sending.{WritesPrefix}
use Rattle.feed_stored.specs.Stored.{IsStoredAs}
use Rattle.feed_edit.specs.declared.fault.KeepFault.{KeepFault}
use Rattle.feed_edit.specs.declared.fault.KeepFault.TheVariants as keeps

-- the line of what was inserted and deleted
abbrev pub edited_line : ℕ → ℕ → List ℕ
edited_line inserted deleted = codes "ok inserted " ++ decimal inserted ++ codes " deleted " ++ decimal deleted
    ++ 10 ∷ []

-- a text was written, and the feed of the set stored
abbrev pub IsKept : List ℕ → OpSet → List ℕ → Option (List ℕ) → Shelf → Shelf → Option (List ℕ) → Option (List ℕ)
    → Type 0
IsKept name set text read held last before after = Appends before after text
    × IsStoredAs name (set_feed set) read held last

-- why it was not stored, and what was written: a prefix under Write, all of the text under Unstored, or nothing; out of
-- memory only where all files are as they were and the device has not failed
abbrev pub IsUnkept : List ℕ → List ℕ → Shelf → Shelf → Option (List ℕ) → Option (List ℕ) → KeepFault → Type 0
IsUnkept name text held last before after keeps.Write = (last ≡ held) × WritesPrefix before after text
IsUnkept name text held last before after (keeps.Unstored why) = Appends before after text
    × IsNotStored name held last why
IsUnkept name text held last before after keeps.NoMemory = (last ≡ held) × (after ≡ before)
