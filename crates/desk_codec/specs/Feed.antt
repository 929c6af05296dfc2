-- Feeds: a magic, and then the bytes of items, one after the other. The magic says which items stand there.
use Rattle.std.specs.Prelude.{◌≡◌, ℕ, ◌≤◌, List, [], ◌∷◌, ◌++◌, length, codes}
use Rattle.std.specs.List.{flat_map, AllByRecursion}
use Rattle.desk_ops.specs.declared.op.Stamp.{Stamp}
use Rattle.desk_ops.specs.declared.op.Symbol.{Symbol}
use Rattle.desk_ops.specs.declared.op.Op.{Op}
use Rattle.desk_codec.specs.declared.form.FeedForm.{FeedForm}
use Rattle.desk_codec.specs.declared.form.FeedForm.TheVariants.{Singles, Runs}
use Rattle.desk_codec.specs.Spelling.{spelling, IsHeld}
use Rattle.desk_codec.specs.Items.{Item, One, Run, run_ops, item_ops, item_spelling}

-- what a feed of single operations begins with
abbrev pub magic : List ℕ
magic = codes "MFD1"

-- what a feed of runs begins with
abbrev pub runs_magic : List ℕ
runs_magic = codes "MFD2"

-- what a feed of each form begins with
abbrev pub magic_of : FeedForm → List ℕ
magic_of Singles = magic
magic_of Runs = runs_magic

-- the bytes of a feed of single operations
abbrev pub feed : List Op → List ℕ
feed ops = magic ++ flat_map spelling ops

-- runs stand in the feeds of one form alone
abbrev pub HasRuns : FeedForm → Type 0
HasRuns Singles = ⊥
HasRuns Runs = Unit {0}

-- a run has 2 to 64 inserts
abbrev pub IsRunLength : ℕ → Type 0
IsRunLength count = (2 ≤ count) × (count ≤ 64)

-- a run of lawful inserts
pub record IsHeldRun (stamp parent : Stamp) (symbols : List Symbol) : Type 0 where
  pub count : IsRunLength (length symbols)
  pub each : AllByRecursion IsHeld (run_ops stamp parent symbols)

-- what stands in a feed of the form
abbrev pub Stands : FeedForm → Item → Type 0
Stands form (One op) = IsHeld op
Stands form (Run stamp parent symbols) = HasRuns form × IsHeldRun stamp parent symbols

-- the bytes are those of the items, one after the other
abbrev pub Spells : FeedForm → List ℕ → List Item → Type 0
Spells form bytes [] = bytes ≡ []
Spells form bytes (item ∷ items) =
    Stands form item × ((rest : List ℕ) × (bytes ≡ item_spelling item ++ rest) × Spells form rest items)

-- the operations of items, joined
abbrev pub ops_in : List Item → List Op
ops_in items = flat_map item_ops items

-- the feed grammar: the magic of a form, and then items, whose operations these are
pub record IsFeed (bytes : List ℕ) (ops : List Op) : Type 0 where
  pub form : FeedForm
  pub items : List Item
  pub rest : List ℕ
  pub prefix : bytes ≡ magic_of form ++ rest
  pub spells : Spells form rest items
  pub joined : ops ≡ ops_in items
