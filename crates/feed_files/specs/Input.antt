-- A reader that is read to its end, so many bytes at most.
use Rattle.std.specs.Prelude.{◌≡◌, ◌<◌, ◌≤◌, ℕ, List, Option, IfSome, length}
use Rattle.std.specs.Io.KnownBytes.{Consumes}
use Rattle.feed_files.specs.declared.input.ReaderFault.{ReaderFault}
use Rattle.feed_files.specs.declared.input.ReaderFault.TheVariants as faults

-- all that a reader has left, where that is known
abbrev pub IsInput : Option (List ℕ) → List ℕ → Type 0
IsInput input bytes = IfSome input (λ known. bytes ≡ known)

-- why a reader was not read to its end
abbrev pub IsNotWhole : ℕ → Option (List ℕ) → ReaderFault → Type 0
IsNotWhole most input faults.Failed = Unit {0}
IsNotWhole most input faults.TooLong = IfSome input (λ known. most < length known)
IsNotWhole most input faults.NoMemory = Unit {0}

-- some bytes were read, and no more than there may be
abbrev pub HasTaken : ℕ → Option (List ℕ) → Option (List ℕ) → Type 0
HasTaken most before after = (read : List ℕ) × Consumes before after read × (0 < length read) × (length read ≤ most)

-- Where a read failed, no more had been read before it than there may be; where the reader has too many, more had; and
-- where memory ran out, some bytes had.
abbrev pub IsReadTo : ℕ → Option (List ℕ) → Option (List ℕ) → ReaderFault → Type 0
IsReadTo most before after faults.Failed = (read : List ℕ) × Consumes before after read × (length read ≤ most)
IsReadTo most before after faults.TooLong = (read : List ℕ) × Consumes before after read × (most < length read)
IsReadTo most before after faults.NoMemory = HasTaken most before after
