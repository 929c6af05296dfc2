-- The text of a file, read as a copy.
use Rattle.std.specs.Prelude.{◌≡◌, ◌⊎◌, ◌<◌, ◌≤◌, ℕ, Bool, List, length, Ok, Err}
use Rattle.desk_lines.specs.Words.{most_symbols}
use Rattle.desk_ops.specs.declared.op.Symbol.{Symbol}
use Rattle.feed_edit.specs.Importing.{max_text}
use Rattle.feed_edit.specs.declared.fault.FeedTrouble.{FeedTrouble}
use Rattle.feed_edit.specs.declared.fault.FeedTrouble.TheVariants as troubles
use Rattle.feed_files.specs.Files.{IsCounted, Reads, Shelf}
use Rattle.text_copy.specs.Reading.{reading}
use Rattle.view_preview.specs.declared.fault.SourcesFault.{SourcesFault}
use Rattle.view_preview.specs.declared.fault.SourcesFault.TheVariants as refusals

-- the name stands for these bytes, which are not too many
abbrev pub HasText : List ℕ → Shelf → List ℕ → Type 0
HasText name shelf text = Reads (shelf.kept name) (Ok text) × (length text ≤ max_text)

-- the name stands for this text, which is this copy
abbrev pub IsTextOf : Bool → List ℕ → Shelf → List ℕ → List Symbol → Type 0
IsTextOf plain name shelf text copy = HasText name shelf text × (reading plain text ≡ Ok copy)
    × (length copy ≤ most_symbols)

-- the file of the name is not read
abbrev pub IsUnread : List ℕ → Shelf → Shelf → FeedTrouble → Type 0
IsUnread name before after (troubles.File why) = Reads (before.kept name) (Err why) × IsCounted why before after
IsUnread name before after (troubles.Feed fault) = ⊥
IsUnread name before after troubles.Full = ⊥
IsUnread name before after troubles.NoMemory = ⊥

-- its bytes are too many, or the symbols of the copy that they are
abbrev pub IsTooLong : Bool → List ℕ → Type 0
IsTooLong plain text = (max_text < length text)
    ⊎ ((length text ≤ max_text) × (copy : List Symbol) × (reading plain text ≡ Ok copy) × (most_symbols < length copy))

-- why there is no such copy: the file is not read; or it is, and is too long, or is no copy, or memory ran out
abbrev pub IsNoText : Bool → List ℕ → Shelf → Shelf → SourcesFault → Type 0
IsNoText plain name before after (refusals.Feed why) = IsUnread name before after why
IsNoText plain name before after refusals.TooLong = (after ≡ before) × (text : List ℕ)
    × Reads (before.kept name) (Ok text) × IsTooLong plain text
IsNoText plain name before after (refusals.Text why) = (after ≡ before) × (text : List ℕ)
    × HasText name before text × (reading plain text ≡ Err why)
IsNoText plain name before after (refusals.Input why) = ⊥
IsNoText plain name before after refusals.NoMemory = (after ≡ before) × (text : List ℕ) × HasText name before text
