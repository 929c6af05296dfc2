-- The file of a room: what it gives, or what is wrong with it.
use Rattle.std.specs.Prelude.{◌≡◌, ◌⊎◌, ◌≤◌, ◌<◌, ℕ, ◌+◌, ◌==◌, Bool, true, false, ◌||◌, List, [], ◌∷◌, ◌++◌, codes}
use Rattle.std.specs.Prelude.{length, take, slice_index, if◌then◌else◌, Option, Some, None, option_and_then, option_map}
use Rattle.std.specs.Prelude.{map, eqb, string_bytes}
use Rattle.std.specs.List.{ends_with}
use Rattle.std.specs.Fmt.{decimal}
use Rattle.std.specs.Str.{bytes_eq}
use Rattle.toml.specs.Data.{Members}
use Rattle.desk_wedge.specs.Keys.{document}
use Rattle.feed_check.specs.Strange.{IsNone, line_at}
use Rattle.feed_check.specs.RoomFlaws.{flaw_of, flaw_words}
use Rattle.feed_check.specs.RoomOptions.{Given, given, key_name, options_of}
use Rattle.feed_check.specs.declared.room.RoomFile.{RoomFile}
use Rattle.feed_check.specs.declared.room.RoomFile.TheVariants as rooms

abbrev pub room_name : List ℕ
room_name = codes "copydesk.toml"

-- the file has this name, in whatever folder it is
abbrev pub is_room_name : List ℕ → Bool
is_room_name name = bytes_eq name room_name || ends_with eqb name (codes "/copydesk.toml")

-- the most bytes of it
abbrev pub max_room : ℕ
max_room = 8192

-- what is wrong with a document whose last line is this
abbrev pub wrong_with : ℕ → Option Members → Option (List ℕ)
wrong_with line found = option_and_then (λ members. option_map (flaw_words line) (flaw_of members)) found

-- what is wrong with the document that the lines are up to the one that ends at a place, if they are one
abbrev pub wrong_at : List ℕ → ℕ → Option (List ℕ)
wrong_at bytes place =
    if slice_index bytes place == 10 then wrong_with (line_at bytes place) (document (take (place + 1) bytes)) else None

-- what is wrong with all the lines
abbrev pub wrong_in_all : List ℕ → Option (List ℕ)
wrong_in_all bytes = wrong_with (line_at bytes (length bytes)) (document bytes)

-- up to the first line up to which something is wrong, this is
abbrev pub IsFirstWrong : List ℕ → List ℕ → Type 0
IsFirstWrong bytes words =
    ((place : ℕ) × (place < length bytes) × (wrong_at bytes place ≡ Some words)
    × ((before : ℕ) → before < place → wrong_at bytes before ≡ None))
    ⊎ (((place : ℕ) → place < length bytes → wrong_at bytes place ≡ None) × (wrong_in_all bytes ≡ Some words))

abbrev pub large_words : List ℕ
large_words = codes "it has more than 8192 bytes"

abbrev pub no_toml_words : ℕ → List ℕ
no_toml_words line = codes "line " ++ (decimal line ++ codes ": it is not TOML")

-- what a room's file gives; or what is wrong with it, in words
abbrev pub IsRoom : List ℕ → RoomFile → Type 0
IsRoom bytes (rooms.Taken options) = (length bytes ≤ max_room)
    × ((members : Members) × (document bytes ≡ Some members) × (flaw_of members ≡ None)
    × (map given options.items ≡ options_of members))
IsRoom bytes (rooms.Refused words) =
    ((max_room < length bytes) × (string_bytes words ≡ large_words))
    ⊎ ((length bytes ≤ max_room)
    × (((place : ℕ) × IsNone bytes place × (string_bytes words ≡ no_toml_words (line_at bytes place)))
    ⊎ IsFirstWrong bytes (string_bytes words)))

-- ---- in words

-- an option and its value
abbrev pub option_words : Given → List ℕ
option_words option = codes ", " ++ (key_name option.0 ++ (codes " " ++ option.1))

abbrev pub options_words : List Given → List ℕ
options_words [] = []
options_words (option ∷ options) = option_words option ++ options_words options

-- what is said of what a room's file gives, or of what is wrong with it, and whether it is in order
abbrev pub SaysRoom : RoomFile → List ℕ → Bool → Type 0
SaysRoom (rooms.Taken options) said well =
    (said ≡ codes "ok: room file" ++ options_words (map given options.items)) × (well ≡ true)
SaysRoom (rooms.Refused words) said well =
    (said ≡ codes "room file refused: " ++ string_bytes words) × (well ≡ false)

-- what is said of the bytes of a room's file
abbrev pub SaysRoomFile : List ℕ → List ℕ → Bool → Type 0
SaysRoomFile bytes said well = (room : RoomFile) × IsRoom bytes room × SaysRoom room said well
