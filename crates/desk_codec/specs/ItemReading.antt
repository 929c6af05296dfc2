-- What reading an item gives, and why none is read.
use Rattle.std.specs.Prelude.{◌≡◌, ℕ, Option, List, ◌∷◌, ◌++◌, length, Err}
use Rattle.std.specs.List.{flat_map, AllByRecursion}
use Rattle.desk_ops.specs.declared.op.Stamp.{Stamp}
use Rattle.desk_ops.specs.declared.op.Symbol.{Symbol}
use Rattle.desk_ops.specs.declared.op.Op.{Op}
use Rattle.desk_ops.specs.declared.op.Unlawful.{Unlawful}
use Rattle.desk_codec.specs.declared.form.FeedForm.{FeedForm}
use Rattle.desk_codec.specs.Spelling.{stamp_spelling, IsStampValue, IsHeld}
use Rattle.desk_codec.specs.Items.{Item, run_ops, item_ops, symbol_spelling, item_spelling}
use Rattle.desk_codec.specs.Feed.{Stands, Spells, ops_in}
use Rattle.desk_codec.specs.Pieces.{IsUnended}
use Rattle.desk_codec.specs.Gathered.{Adds}
use Rattle.desk_codec.specs.Fault.{Mark, mark_bytes, IsMarkValue, run_cause}

-- an item stands at the start, whose operations come after those before
pub record GivesItem (form : FeedForm) (bytes : List ℕ) (before after : Option (List Op)) (rest : List ℕ) : Type 0 where
  pub item : Item
  pub stands : Stands form item
  pub is : Adds before after (item_ops item)
  pub prefix : bytes ≡ item_spelling item ++ rest

-- items stand at the start, whose operations come after those before
pub record GivesItems (form : FeedForm) (bytes : List ℕ) (before after : Option (List Op)) (rest : List ℕ) : Type 0
  where
    pub items : List Item
    pub prefix : List ℕ
    pub spells : Spells form prefix items
    pub is : Adds before after (ops_in items)
    pub split : bytes ≡ prefix ++ rest

-- items stand at the start, and no whole one after them
pub record GivesRest (form : FeedForm) (bytes : List ℕ) (before : Option (List Op)) (read : FeedForm)
    (after : Option (List Op)) (kept : List ℕ) : Type 0 where
  pub same : form ≡ read
  pub items : GivesItems form bytes before after kept
  pub unended : IsUnended form kept

-- a run's kind, its stamps and its count stand at the start
pub record RunPrefix (bytes : List ℕ) (stamp parent : Stamp) (count : ℕ) (rest : List ℕ) : Type 0 where
  pub prefix : bytes ≡ 4 ∷ stamp_spelling stamp ++ stamp_spelling parent ++ count ∷ rest
  pub stamp_value : IsStampValue stamp
  pub parent_value : IsStampValue parent

-- so many symbols stand at the start, and the inserts of a run of them are lawful, and come after the operations before
pub record GivesInserts (stamp parent : Stamp) (count : ℕ) (bytes : List ℕ) (before after : Option (List Op))
    (rest : List ℕ) : Type 0 where
  pub symbols : List Symbol
  pub many : length symbols ≡ count
  pub each : AllByRecursion IsHeld (run_ops stamp parent symbols)
  pub is : Adds before after (run_ops stamp parent symbols)
  pub prefix : bytes ≡ flat_map symbol_spelling symbols ++ rest

-- so many symbols' numbers stand at the start, and this is the first cause of the first insert of a run of them that
-- is not lawful
pub record HasUnlawful (stamp parent : Stamp) (count : ℕ) (bytes : List ℕ) (first : Unlawful) : Type 0 where
  pub marks : List Mark
  pub many : length marks ≡ count
  pub values : AllByRecursion IsMarkValue marks
  pub rest : List ℕ
  pub prefix : bytes ≡ flat_map mark_bytes marks ++ rest
  pub is : run_cause stamp parent marks ≡ Err first
