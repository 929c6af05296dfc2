-- How far a run takes what its reader gives.
use Rattle.std.specs.Prelude.{ℕ, ◌*◌, ◌≤◌, List, Option, length}
use Rattle.std.specs.Io.KnownBytes.{Consumes}

-- the most calls of `read` in a run
abbrev pub max_reads : ℕ
max_reads = 268435456

-- the most bytes that one of them gives
abbrev pub max_chunk : ℕ
max_chunk = 8192

-- so many calls of `read` gave all that was taken, and each at least one byte
abbrev pub IsTakenIn : ℕ → Option (List ℕ) → Option (List ℕ) → Type 0
IsTakenIn calls before after = (bytes : List ℕ) × Consumes before after bytes × (calls ≤ length bytes)
    × (length bytes ≤ calls * max_chunk)

-- no more calls than these gave all that was taken
abbrev pub IsTakenWithin : ℕ → Option (List ℕ) → Option (List ℕ) → Type 0
IsTakenWithin most before after = (calls : ℕ) × (calls ≤ most) × IsTakenIn calls before after
