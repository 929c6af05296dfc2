-- What is typed, and what a room's file adds.
use Rattle.std.specs.Prelude.{◌≡◌, true, All, List, [], ◌∷◌, codes}
use Rattle.program_desk.specs.Completed.{Word, added, completed, is_settled, named, typed}
use Rattle.feed_check.specs.RoomOptions.{Given}
use Rattle.feed_check.specs.declared.room_options.RoomKey.{RoomKey}
use Rattle.feed_check.specs.declared.room_options.RoomKey.TheVariants as rooms

-- No word is added for an option that is typed, and may be given once alone.
abbrev pub TypedGoesFirst : Type 0
TypedGoesFirst = (options : List Given) (name : Word) (words : List Word) (key : RoomKey)
    → is_settled key words ≡ true → All (λ word. ¬ (named word ≡ typed key)) (added name words options)

-- ---- rows

abbrev pub some_options : List Given
some_options = (rooms.Site, codes "3") ∷ (rooms.Case, codes "c.toml") ∷ (rooms.Wedge, codes "w.toml")
    ∷ (rooms.Set, codes "loose=200") ∷ []

-- a site for a desk, and nothing else
abbrev pub Desk : Type 0
Desk = completed some_options (codes "desk" ∷ codes "a.feed" ∷ [])
    ≡ codes "desk" ∷ codes "--site=3" ∷ codes "a.feed" ∷ []

-- a case that is typed, so a wedge and a setting for a proof, before the setting that is typed
abbrev pub Proof : Type 0
Proof = completed some_options
    (codes "proof" ∷ codes "a.feed" ∷ codes "--case=d.toml" ∷ codes "--set" ∷ codes "loose=90" ∷ [])
    ≡ codes "proof" ∷ codes "--wedge=w.toml" ∷ codes "--set=loose=200" ∷ codes "a.feed" ∷ codes "--case=d.toml"
    ∷ codes "--set" ∷ codes "loose=90" ∷ []

-- behind `--` no option is typed
abbrev pub Dashes : Type 0
Dashes = completed some_options (codes "replace" ∷ codes "a.feed" ∷ codes "--" ∷ codes "--site" ∷ codes "b" ∷ [])
    ≡ codes "replace" ∷ codes "--site=3" ∷ codes "a.feed" ∷ codes "--" ∷ codes "--site" ∷ codes "b" ∷ []

-- nothing for a new number, and nothing for a search
abbrev pub Nothing : Type 0
Nothing = (completed some_options (codes "renumber" ∷ codes "a" ∷ codes "b" ∷ []) ≡ codes "renumber" ∷ codes "a"
    ∷ codes "b" ∷ [])
    × (completed some_options (codes "find" ∷ codes "a" ∷ codes "b" ∷ []) ≡ codes "find" ∷ codes "a" ∷ codes "b" ∷ [])

abbrev pub WorkedRooms : Type 0
WorkedRooms = Desk × Proof × Dashes × Nothing
