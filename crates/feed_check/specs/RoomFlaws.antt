-- What is wrong with the document of a room's file.
use Rattle.std.specs.Prelude.{ℕ, ◌-◌, ◌+◌, ◌==◌, Bool, true, false, ◌||◌, ◌&&◌, List, [], ◌∷◌, ◌++◌, codes, length}
use Rattle.std.specs.Prelude.{take, if◌then◌else◌, Option, Some, None, option_and_then, option_map, is_some}
use Rattle.std.specs.Option.{option_or}
use Rattle.std.specs.Fmt.{decimal}
use Rattle.std.specs.Str.{bytes_eq}
use Rattle.toml.specs.Data.{Data, Members, no_members, member, as_table}
use Rattle.desk_ops.specs.Words.{key_words}
use Rattle.desk_ops.specs.declared.op.Key.{Key}
use Rattle.desk_ops.specs.declared.op.Key.TheVariants as keys
use Rattle.feed_check.specs.RoomOptions.{file_of, site_of, value_of}
use Rattle.feed_check.specs.declared.room_flaws.Flaw.{Flaw}

-- a flaw: whether it is inside the table of settings, its key, and whether a room's file has such a key
pub record FlawAt : Type 0 where
  pub inside : Bool
  pub key : List ℕ
  pub known : Bool

abbrev pub flaw_at : Flaw → FlawAt
flaw_at flaw = record { inside = flaw.inside; key = flaw.key.now; known = flaw.known }

-- the setting of this name
abbrev pub key_named : List ℕ → Option Key
key_named name =
    if bytes_eq name (codes "measure") then Some keys.Measure
    else if bytes_eq name (codes "tight") then Some keys.Tight
    else if bytes_eq name (codes "loose") then Some keys.Loose
    else if bytes_eq name (codes "case") then Some keys.Case
    else if bytes_eq name (codes "wedge") then Some keys.Wedge
    else None

abbrev pub flaw_if : Bool → FlawAt → Option FlawAt
flaw_if fine flaw = if fine then None else Some flaw

-- a key that a room's file has, unless what stands there is fine
abbrev pub known_unless : Bool → Bool → List ℕ → Option FlawAt
known_unless fine inside name = flaw_if fine (record { inside = inside; key = name; known = true })

abbrev pub unknown : Bool → List ℕ → Option FlawAt
unknown inside name = Some (record { inside = inside; key = name; known = false })

-- what is wrong with what stands at a key of the settings
abbrev pub flaw_of_key : Option Key → List ℕ → Data → Option FlawAt
flaw_of_key None name held = unknown true name
flaw_of_key (Some key) name held = known_unless (is_some (value_of key held)) true name

abbrev pub setting_flaw : List ℕ → Data → Option FlawAt
setting_flaw name held = flaw_of_key (key_named name) name held

-- what is wrong with the first member of which something is
abbrev pub first_flaw : (List ℕ → Data → Option FlawAt) → Members → Option FlawAt
first_flaw flaw no_members = None
first_flaw flaw (member name held members) = option_or (flaw name held) (first_flaw flaw members)

abbrev pub sets_flaw : Option Members → Option FlawAt
sets_flaw None = known_unless false false (codes "set")
sets_flaw (Some sets) = first_flaw setting_flaw sets

-- what is wrong with what stands at a key of the file
abbrev pub flaw_in : List ℕ → Data → Option FlawAt
flaw_in name held =
    if bytes_eq name (codes "site") then known_unless (is_some (site_of held)) false name
    else if bytes_eq name (codes "case") then known_unless (is_some (file_of held)) false name
    else if bytes_eq name (codes "wedge") then known_unless (is_some (file_of held)) false name
    else if bytes_eq name (codes "set") then sets_flaw (as_table held)
    else unknown false name

-- what is wrong with a document
abbrev pub flaw_of : Members → Option FlawAt
flaw_of members = first_flaw flaw_in members

-- ---- in words

abbrev pub place_words : Bool → List ℕ
place_words true = codes "set."
place_words false = []

abbrev pub why_words : Bool → List ℕ
why_words true = codes "` is of another type or value"
why_words false = codes "` is no key of it"

-- a flaw in a line
abbrev pub flaw_words : ℕ → FlawAt → List ℕ
flaw_words line flaw =
    codes "line " ++ (decimal line ++ (codes ": `" ++ (place_words flaw.inside ++ (flaw.key ++ why_words flaw.known))))
