-- Lines that were written on standard error, whole or in part.
use Rattle.std.specs.Prelude.{◌≡◌, ◌≤◌, ℕ, Bool, EachIndex, List, ◌++◌, MatchBool, Option, slice_index}
use Rattle.std.specs.Io.KnownBytes.{Appends}
use Rattle.feed_stored.specs.Sending.{WritesPrefix}

-- the lines were written; or, where standard error failed, a prefix of them
abbrev pub Tells : Bool → Option (List ℕ) → Option (List ℕ) → List ℕ → Type 0
Tells whole before after lines = MatchBool whole (Appends before after lines) (WritesPrefix before after lines)

-- what was written so far goes on by more text, whatever it was
abbrev pub GoesOn : Bool → Bool → Option (List ℕ) → Option (List ℕ) → List ℕ → Type 0
GoesOn begun whole middle after more = (before : Option (List ℕ)) → (lines : List ℕ)
    → Tells begun before middle lines → Tells whole before after (lines ++ more)

-- each byte of a name is a printable character of ASCII
abbrev pub IsPrintable : List ℕ → Type 0
IsPrintable name = EachIndex name (λ k. (32 ≤ slice_index name k) × (slice_index name k ≤ 126))

-- a name as a terminal shows it: a printable one as it is
abbrev pub IsShown : List ℕ → List ℕ → Type 0
IsShown name shown = IsPrintable name → shown ≡ name

-- a line on a file: its name as a terminal shows it, and words on it
abbrev pub IsNamed : List ℕ → List ℕ → List ℕ → Type 0
IsNamed name words line = (shown : List ℕ) × IsShown name shown × (line ≡ shown ++ words)
