-- Bytes that were written in part.
use Rattle.std.specs.Prelude.{◌≡◌, ℕ, List, ◌++◌, Option}
use Rattle.std.specs.Io.KnownBytes.{Appends}

-- a prefix of a text was written
abbrev pub WritesPrefix : Option (List ℕ) → Option (List ℕ) → List ℕ → Type 0
WritesPrefix before after text = (done : List ℕ) × (rest : List ℕ) × Appends before after done × (text ≡ done ++ rest)
