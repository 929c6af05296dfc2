-- Bytes of no kind, with the line where they are no document.
use Rattle.std.specs.Prelude.{◌≡◌, ◌⊎◌, ◌≤◌, ℕ, ◌+◌, ◌==◌, if◌then◌else◌, List, [], ◌∷◌, ◌++◌, codes, length, take}
use Rattle.std.specs.Prelude.{Some, None}
use Rattle.std.specs.Fmt.{decimal}
use Rattle.toml.specs.Data.{Members}
use Rattle.desk_wedge.specs.Keys.{document}

abbrev pub strange_words : List ℕ
strange_words = codes "neither a feed, a ribbon, a case nor a wedge"

abbrev pub line_words : ℕ → List ℕ
line_words line = codes ": no TOML at line " ++ decimal line

abbrev pub line_feeds : List ℕ → ℕ
line_feeds [] = 0
line_feeds (b ∷ bytes) = (if b == 10 then 1 else 0) + line_feeds bytes

-- the line of a place, from 1
abbrev pub line_at : List ℕ → ℕ → ℕ
line_at bytes place = line_feeds (take place bytes) + 1

-- bytes are a document
abbrev pub IsDocument : List ℕ → Type 0
IsDocument bytes = (members : Members) × (document bytes ≡ Some members)

-- bytes are none, and this is a place in them
abbrev pub IsNone : List ℕ → ℕ → Type 0
IsNone bytes place = (document bytes ≡ None) × (place ≤ length bytes)

-- what is said of bytes of no kind: where they are no document, the line of a place in them too
abbrev pub SaysStrange : List ℕ → List ℕ → Type 0
SaysStrange bytes said =
    (IsDocument bytes × (said ≡ strange_words))
    ⊎ ((place : ℕ) × IsNone bytes place × (said ≡ strange_words ++ line_words (line_at bytes place)))
