-- How a reader of pieces goes on.
use Rattle.std.specs.Prelude.{◌≡◌, ◌≢◌, ℕ, ◌+◌, ◌≤◌, ◌<◌, Bool, true, false, List, ◌++◌, length, Option, Some, None}
use Rattle.desk_codec.specs.declared.fault.FeedWhy.TheVariants as why
use Rattle.desk_codec.specs.declared.fault.FeedFault.{FeedFault}
use Rattle.desk_codec.specs.declared.form.FeedForm.{FeedForm}
use Rattle.desk_ops.specs.declared.op.Op.{Op}
use Rattle.desk_codec.specs.Fault.{GoesWrong}
use Rattle.desk_codec.specs.ItemReading.{GivesItem}
use Rattle.desk_codec.specs.Pieces.{Reader, place_of, IsUnended, Reads, MayHoldMore}

-- fewer than so many bytes more make nothing whole, and there is room for them
pub record Lacks (form : FeedForm) (kept : List ℕ) (missing : ℕ) : Type 0 where
  pub some : 0 < missing
  pub room : missing + length kept ≤ 342
  pub unended : (more : List ℕ) → length more < missing → IsUnended form (kept ++ more)

-- what is kept of a magic, or of an item after it
abbrev pub Keeps : Option FeedForm → ℕ → List ℕ → ℕ → Type 0
Keeps None place kept missing = (place ≡ 0) × (0 < missing) × (missing + length kept ≡ 4)
Keeps (Some form) place kept missing = (4 ≤ place) × Lacks form kept missing

-- the bytes that a reader keeps are among those that it took
pub record IsReader (r : Reader) (missing : ℕ) : Type 0 where
  pub within : length r.kept ≤ r.taken
  pub keeps : Keeps r.form (place_of r) r.kept missing

-- a reader stands before its magic, or after it between two items or inside one
abbrev pub Resumes : Option FeedForm → ℕ → List ℕ → Type 0
Resumes None place kept = (place ≡ 0) × (length kept < 4)
Resumes (Some form) place kept = (4 ≤ place) × IsUnended form kept

-- what was read of bytes, and is kept of them; without the operations where a growth was refused
abbrev pub ReadsSo : Option FeedForm → List ℕ → Option (List Op) → FeedForm → List ℕ → Type 0
ReadsSo before bytes (Some ops) form kept = Reads before bytes ops form kept
ReadsSo before bytes None form kept = MayHoldMore before bytes × ((ops : List Op) × Reads before bytes ops form kept)

-- after items at a place something is wrong that more bytes do not mend
abbrev pub StopsOn : FeedForm → ℕ → List ℕ → FeedFault → Type 0
StopsOn form place bytes fault = GoesWrong form place bytes fault × (fault.why ≢ why.Cut)

-- what is kept after a piece: the end of it, behind what was kept before or in place of that
abbrev pub kept_after : Bool → List ℕ → List ℕ → List ℕ
kept_after true kept rest = kept ++ rest
kept_after false kept rest = rest

-- an item stands at the start of bytes, and so many come after it
abbrev pub LeavesSo : FeedForm → List ℕ → Option (List Op) → Option (List Op) → ℕ → Type 0
LeavesSo form bytes before after n = (rest : List ℕ) × GivesItem form bytes before after rest × (length rest ≡ n)
