-- What files hold by name, when they may answer that the device failed, and what their calls leave.
use Rattle.std.specs.Prelude.{◌≡◌, ◌≢◌, ◌≤◌, ℕ, ◌<◌, ◌⊎◌, ◌++◌, List, Result, Ok, Err, codes, length}
use Rattle.feed_files.specs.declared.files.FileRefusal.{FileRefusal}
use Rattle.feed_files.specs.declared.files.FileRefusal.TheVariants as refusals

-- what a name stands for: Unknown where that is not known of the files, Nowhere where no file can have it, as in a
-- folder that is not there. A name that is known is the only one of its file, and of no folder.
pub data Kept : Type 0 where
  Unknown : Kept
  Nowhere : Kept
  Absent : Kept
  Holds : List ℕ → Kept

-- what each name stands for
abbrev pub Names : Type 0
Names = List ℕ → Kept

-- what is held for one run alone: no name; a name, since when this run has asked for no writing and no renaming; or a
-- name, since when it has
pub data Hold : Type 0 where
  Free : Hold
  Untouched : List ℕ → Hold
  Touched : List ℕ → Hold

-- what is held after a writing or a renaming was asked for
abbrev pub touched : Hold → Hold
touched Free = Free
touched (Untouched name) = Touched name
touched (Touched name) = Touched name

-- the same name is held, or none; a writing or a renaming may have been asked for
abbrev pub HoldsOn : Hold → Hold → Type 0
HoldsOn before after = (after ≡ before) ⊎ (after ≡ touched before)

-- what each name stands for, how often the device has failed, and what is held for one run alone
pub record Shelf : Type 0 where
  pub kept : Names
  pub failures : ℕ
  pub held : Hold

abbrev pub shelf : Names → ℕ → Hold → Shelf
shelf kept failures held = record { kept = kept; failures = failures; held = held }

-- a count rose, or can rise no more
abbrev pub HasRisen : ℕ → ℕ → Type 0
HasRisen before after = (before < after) ⊎ (before ≡ 18446744073709551615)

-- the device failed, by the count of its failures
abbrev pub HasFailed : Shelf → Shelf → Type 0
HasFailed before after = HasRisen before.failures after.failures

-- no file has changed, the count has not fallen, and what is held is as it was: no writing and no renaming was asked
-- for while a name is held
abbrev pub Stays : Shelf → Shelf → Type 0
Stays before after = (after.kept ≡ before.kept) × (before.failures ≤ after.failures) × (after.held ≡ before.held)

-- a refusal is of the device exactly where the count says that it failed, while it can
abbrev pub IsCounted : FileRefusal → Shelf → Shelf → Type 0
IsCounted refusals.Missing before after = after.failures ≡ before.failures
IsCounted refusals.Device before after = HasFailed before after × (before.failures ≤ after.failures)
IsCounted refusals.Large before after = after.failures ≡ before.failures
IsCounted refusals.NoMemory before after = after.failures ≡ before.failures

-- so does a call, and where it succeeds the device did not fail
abbrev pub Counts : {V : Type 0} → Result V FileRefusal → Shelf → Shelf → Type 0
Counts (Ok v) before after = after.failures ≡ before.failures
Counts (Err why) before after = IsCounted why before after

-- the most bytes of a file that is read
abbrev pub max_file : ℕ
max_file = 67108864

-- what a read answered, its value seen as bytes
abbrev pub bytes_read : {V : Type 0} → (V → List ℕ) → Result V FileRefusal → Result (List ℕ) FileRefusal
bytes_read view (Ok v) = Ok (view v)
bytes_read view (Err why) = Err why

-- what may be read of a name: its bytes, that it is not there, that it is too large, or that the device or memory
-- failed. Where no file can be nothing is wanted of memory.
abbrev pub Reads : Kept → Result (List ℕ) FileRefusal → Type 0
Reads Unknown read = Unit {0}
Reads Nowhere (Ok bytes) = ⊥
Reads Nowhere (Err refusals.Missing) = Unit {0}
Reads Nowhere (Err refusals.Device) = Unit {0}
Reads Nowhere (Err refusals.Large) = ⊥
Reads Nowhere (Err refusals.NoMemory) = ⊥
Reads Absent (Ok bytes) = ⊥
Reads Absent (Err refusals.Missing) = Unit {0}
Reads Absent (Err refusals.Device) = Unit {0}
Reads Absent (Err refusals.Large) = ⊥
Reads Absent (Err refusals.NoMemory) = Unit {0}
Reads (Holds kept) (Ok bytes) = (bytes ≡ kept) × (length kept ≤ max_file)
Reads (Holds kept) (Err refusals.Missing) = ⊥
Reads (Holds kept) (Err refusals.Device) = Unit {0}
Reads (Holds kept) (Err refusals.Large) = max_file < length kept
Reads (Holds kept) (Err refusals.NoMemory) = Unit {0}

-- the name stands for these bytes, as far as that is known of the files
abbrev pub Has : Kept → List ℕ → Type 0
Has Unknown bytes = Unit {0}
Has Nowhere bytes = ⊥
Has Absent bytes = ⊥
Has (Holds kept) bytes = kept ≡ bytes

-- the name stands for no file, as far as that is known of the files
abbrev pub IsGone : Kept → Type 0
IsGone Unknown = Unit {0}
IsGone Nowhere = Unit {0}
IsGone Absent = Unit {0}
IsGone (Holds kept) = ⊥

-- no file can have the name, as far as that is known of the files
abbrev pub IsNowhere : Kept → Type 0
IsNowhere Unknown = Unit {0}
IsNowhere Nowhere = Unit {0}
IsNowhere Absent = ⊥
IsNowhere (Holds kept) = ⊥

-- a file can have the name, as far as that is known of the files
abbrev pub CanBe : Kept → Type 0
CanBe Unknown = Unit {0}
CanBe Nowhere = ⊥
CanBe Absent = Unit {0}
CanBe (Holds kept) = Unit {0}

-- the name may stand for a file, as far as that is known of the files
abbrev pub IsThere : Kept → Type 0
IsThere Unknown = Unit {0}
IsThere Nowhere = ⊥
IsThere Absent = ⊥
IsThere (Holds kept) = Unit {0}

-- a name that stands for these bytes now; what was known of it still is
abbrev pub IsWritten : List ℕ → Kept → Kept → Type 0
IsWritten bytes before after = Has after bytes × (after ≡ Unknown → before ≡ Unknown)

-- no other name stands for something else than before
abbrev pub Spares : List ℕ → Names → Names → Type 0
Spares name before after = (other : List ℕ) → other ≢ name → after other ≡ before other

-- a file has another name, in place of what had it
pub record IsRenamed (from to : List ℕ) (before after : Names) : Type 0 where
  pub there : IsThere (before from)
  pub taken : after to ≡ before from
  pub gone : from ≢ to → IsGone (after from)
  pub others : (other : List ℕ) → other ≢ from → other ≢ to → after other ≡ before other

-- the name under which a file is written before it takes its place
abbrev pub new_name : List ℕ → List ℕ
new_name name = name ++ codes ".new"

-- no name was held, and this one is now. What stands under it, and under the name of the writing, is what other runs
-- left until now, and nothing that this run wrote; no other name stands for something else.
pub record IsNowHeld (name : List ℕ) (before after : Shelf) : Type 0 where
  pub free : before.held ≡ Free
  pub held : after.held ≡ Untouched name
  pub failures : after.failures ≡ before.failures
  pub others : (other : List ℕ) → other ≢ name → other ≢ new_name name → after.kept other ≡ before.kept other

-- no name was held before, and this one is after
abbrev pub IsHeldAlone : List ℕ → Shelf → Shelf → Type 0
IsHeldAlone name before after = (before.held ≡ Free) × ((after.held ≡ Untouched name) ⊎ (after.held ≡ Touched name))

-- a file is not stored since a place is missing: the name, or that of the writing, can stand for no file
abbrev pub HasNoPlace : List ℕ → Names → Type 0
HasNoPlace name before = IsNowhere (before (new_name name)) ⊎ IsNowhere (before name)

-- a name stands for these bytes, no file is left under the name of the writing, and no other has changed
pub record IsReplaced (name bytes : List ℕ) (before after : Names) : Type 0 where
  pub has : Has (after name) bytes
  pub gone : IsGone (after (new_name name))
  pub others : (other : List ℕ) → other ≢ name → other ≢ new_name name → after other ≡ before other
