-- Files in memory, by their changes, newest first.
use Rattle.std.specs.Prelude.{◌≡◌, ◌≤◌, ◌<◌, ◌⊎◌, ℕ, ◌+◌, ◌-◌, ◌&&◌, List, [], ◌∷◌, Option, Some, None, Result, IsErrOf}
use Rattle.std.specs.Prelude.{String, Vec, if◌then◌else◌, length, max, min, nat_eq, nat_lt, string_bytes, vec_capacity}
use Rattle.std.specs.Prelude.{vec_len}
use Rattle.std.specs.Str.{bytes_eq}
use Rattle.feed_files.specs.declared.files.FileRefusal.{FileRefusal}
use Rattle.feed_files.specs.declared.files.FileRefusal.TheVariants as refusals
use Rattle.feed_files.specs.declared.trial.FileChange.{FileChange}
use Rattle.feed_files.specs.declared.trial.FileChange.TheVariants.{Put, Move}
use Rattle.feed_files.specs.declared.trial.HeldName.{HeldName}
use Rattle.feed_files.specs.declared.trial.AtEnd.TheVariants as ends
use Rattle.feed_files.specs.declared.trial.TrialFiles.{TrialFiles}
use Rattle.feed_files.specs.declared.trial.TrialWriter.{TrialWriter}
use Rattle.feed_files.specs.Files.{Kept, Unknown, Nowhere, Absent, Holds, Names, Hold, Free, Shelf, Touched, Untouched}
use Rattle.feed_files.specs.Files.{max_file, shelf}

-- one more, of a count that stays at its greatest value
abbrev pub one_more : ℕ → ℕ
one_more count = min (count + 1) 18446744073709551615

-- how many bytes a reader gives: as many as are left and fit, up to a step, which is one at least
abbrev pub most_given : ℕ → List ℕ → List ℕ → ℕ
most_given step left buf = min (min (length buf) (max step 1)) (length left)

-- how many bytes a writer takes: as many as it has room for, while it takes calls
abbrev pub most_taken : ℕ → ℕ → List ℕ → ℕ
most_taken calls room buf = if nat_eq calls 0 then 0 else min (length buf) room

-- how many calls a writer still takes after one, of which one that finds no room is not counted
abbrev pub calls_left : ℕ → ℕ → List ℕ → ℕ
calls_left calls room buf = if nat_eq room 0 && nat_lt 0 (length buf) then calls else calls - 1

-- a writer's calls have ended, or its room and there is something to write
abbrev pub HasEnded : {A : Type 0} → TrialWriter A → List ℕ → Type 0
HasEnded writer buf = (writer.calls ≡ 0) ⊎ ((writer.room ≡ 0) × (0 < length buf))

-- it has ended and fails there, or what it keeps takes more memory
abbrev pub HasFailed : {A : Type 0} → TrialWriter A → List ℕ → Type 0
HasFailed writer buf =
    ((writer.at_end ≡ ends.Fails) × HasEnded writer buf)
    ⊎ (vec_capacity writer.written < vec_len writer.written + most_taken writer.calls writer.room buf)

-- the bytes of a file: it was put there, or took the name of one that was
abbrev pub bytes_in : {A : Type 0} → List (FileChange A) → List ℕ → Option (List ℕ)
bytes_in [] name = None
bytes_in (Put put bytes
    ∷ older) name = if bytes_eq (string_bytes put) name then Some bytes.items else bytes_in older name
bytes_in (Move from to ∷ older) name =
    if bytes_eq (string_bytes to) name then bytes_in older (string_bytes from) else
    (if bytes_eq (string_bytes from) name then None else bytes_in older name)

abbrev pub kept_of : Option (List ℕ) → Kept
kept_of None = Absent
kept_of (Some bytes) = Holds bytes

abbrev pub kept_in : {A : Type 0} → List (FileChange A) → Names
kept_in changes name = kept_of (bytes_in changes name)

-- a file was put there
abbrev pub IsPut : {A : Type 0} → List ℕ → List ℕ → List (FileChange A) → List (FileChange A) → Type 0
IsPut {A} name bytes before after = (put : String A) × (kept : Vec ℕ A) × (string_bytes put ≡ name)
    × (kept.items ≡ bytes) × (after ≡ Put put kept ∷ before)

-- what is held, by the name and whether it was touched
abbrev pub held_in : {A : Type 0} → Option (HeldName A) → Hold
held_in None = Free
held_in (Some held) = if held.is_touched then Touched (string_bytes held.name) else Untouched (string_bytes held.name)

-- what is known of files in memory
abbrev pub shelf_in : {A : Type 0} → TrialFiles A → Shelf
shelf_in files = shelf (kept_in files.changes.items) files.failures (held_in files.held)

-- the next call is the one that fails
abbrev pub IsDue : {A : Type 0} → TrialFiles A → Type 0
IsDue files = one_more files.calls ≡ files.failing_call

-- one call was made, which failed where it was to; where the device failed one failure was counted
pub record IsTurn {A T : Type 0} (result : Result T FileRefusal) (before after : TrialFiles A) : Type 0 where
  pub calls : after.calls ≡ one_more before.calls
  pub failing : after.failing_call ≡ before.failing_call
  pub due : IsDue before → IsErrOf result refusals.Device
  pub once : IsErrOf result refusals.Device → after.failures ≡ one_more before.failures

-- the bytes of a name take memory, and are no more than may be read
abbrev pub TakesMemory : Kept → Type 0
TakesMemory Unknown = Unit {0}
TakesMemory Nowhere = ⊥
TakesMemory Absent = ⊥
TakesMemory (Holds kept) = (0 < length kept) × (length kept ≤ max_file)
