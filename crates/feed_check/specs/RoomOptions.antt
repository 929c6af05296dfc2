-- The options that a room's file gives.
use Rattle.std.specs.Prelude.{ℕ, List, [], ◌∷◌, ◌++◌, if◌then◌else◌, codes, Option, Some, None, option_and_then}
use Rattle.std.specs.Prelude.{string_bytes}
use Rattle.std.specs.Fmt.{decimal}
use Rattle.std.specs.Str.{bytes_eq}
use Rattle.toml.specs.Data.{Data, Members, as_str, as_table, get_member}
use Rattle.desk_wedge.specs.Keys.{number_of}
use Rattle.desk_ops.specs.Op.{is_value}
use Rattle.desk_ops.specs.Words.{key_words}
use Rattle.desk_ops.specs.declared.op.Key.{Key}
use Rattle.desk_ops.specs.declared.op.Key.TheVariants as keys
use Rattle.feed_check.specs.declared.room_options.RoomKey.{RoomKey}
use Rattle.feed_check.specs.declared.room_options.RoomKey.TheVariants as rooms
use Rattle.feed_check.specs.declared.room_options.RoomOption.{RoomOption}

-- what the file and the command line call an option
abbrev pub key_name : RoomKey → List ℕ
key_name rooms.Site = codes "site"
key_name rooms.Case = codes "case"
key_name rooms.Wedge = codes "wedge"
key_name rooms.Set = codes "set"

-- ---- what may stand at a key

-- the number of a site
abbrev pub site_of : Data → Option ℕ
site_of = number_of 1 65535

abbrev pub unless_empty : List ℕ → Option (List ℕ)
unless_empty [] = None
unless_empty text = Some text

-- the name of a file: a text that is not empty
abbrev pub file_of : Data → Option (List ℕ)
file_of held = option_and_then unless_empty (as_str held)

-- a number that a setting may have
abbrev pub value_in : Key → ℕ → Option ℕ
value_in key n = if is_value key n then Some n else None

abbrev pub value_of : Key → Data → Option ℕ
value_of key held = option_and_then (value_in key) (number_of 0 65535 held)

-- ---- the options

-- an option of the command line and its value
abbrev pub Given : Type 0
Given = RoomKey × List ℕ

abbrev pub given : RoomOption → Given
given option = (option.key, string_bytes option.value)

-- the option of what was read, if it was
abbrev pub option_for : {V : Type 0} → RoomKey → (V → List ℕ) → Option V → List Given
option_for key text None = []
option_for key text (Some v) = (key, text v) ∷ []

-- the text of a setting: `measure=150`
abbrev pub setting_text : Key → ℕ → List ℕ
setting_text key n = key_words key ++ codes "=" ++ decimal n

abbrev pub site_options : Members → List Given
site_options members =
    option_for rooms.Site (λ n. decimal n) (option_and_then site_of (get_member (codes "site") members))

abbrev pub file_options : RoomKey → Members → List Given
file_options key members = option_for key (λ t. t) (option_and_then file_of (get_member (key_name key) members))

abbrev pub setting_options : Key → Members → List Given
setting_options key sets =
    option_for rooms.Set (setting_text key) (option_and_then (value_of key) (get_member (key_words key) sets))

abbrev pub options_of_sets : Option Members → List Given
options_of_sets None = []
options_of_sets (Some sets) =
    setting_options keys.Measure sets ++ (setting_options keys.Tight sets ++ (setting_options keys.Loose sets
    ++ (setting_options keys.Case sets ++ setting_options keys.Wedge sets)))

-- the table of settings
abbrev pub sets_in : Members → Option Members
sets_in members = option_and_then as_table (get_member (codes "set") members)

-- the options of a document: its site, its case, its wedge and its settings
abbrev pub options_of : Members → List Given
options_of members =
    site_options members ++ (file_options rooms.Case members ++ (file_options rooms.Wedge members
    ++ options_of_sets (sets_in members)))
