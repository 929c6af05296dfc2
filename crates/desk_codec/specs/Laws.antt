-- What holds of feeds, whoever writes or reads them.
use Rattle.std.specs.Prelude.{◌≡◌, ℕ, ◌+◌, ◌*◌, ◌<◌, ◌⊎◌, List, All, ◌++◌, length}
use Rattle.std.specs.List.{AllByRecursion}
use Rattle.desk_ops.specs.declared.op.Stamp.{Stamp}
use Rattle.desk_ops.specs.declared.op.Symbol.{Symbol}
use Rattle.desk_ops.specs.declared.op.Key.{Key}
use Rattle.desk_ops.specs.declared.op.Op.{Op}
use Rattle.desk_ops.specs.declared.op.Op.TheVariants.{Insert, Delete, Set}
use Rattle.desk_codec.specs.declared.fault.FeedFault.{FeedFault}
use Rattle.desk_codec.specs.declared.fault.FeedWhy.{FeedWhy}
use Rattle.desk_codec.specs.declared.form.FeedForm.{FeedForm}
use Rattle.desk_codec.specs.Fault.{IsWrong, IsFirstFault, item_fields, AreItemValues}
use Rattle.desk_codec.specs.Spelling.{spelling, IsHeld}
use Rattle.desk_codec.specs.Items.{Item, Run, item_spelling}
use Rattle.desk_codec.specs.Feed.{magic, feed, Stands, IsFeed}

-- an insert takes 26 bytes, a delete 21, and a setting 16; a run takes 22 bytes, and 5 for each of its inserts
pub record Sizes : Type 0 where
  pub insert : (stamp parent : Stamp) (symbol : Symbol) → length (spelling (Insert stamp parent symbol)) ≡ 26
  pub delete : (stamp target : Stamp) → length (spelling (Delete stamp target)) ≡ 21
  pub set : (stamp : Stamp) (key : Key) (value : ℕ) → length (spelling (Set stamp key value)) ≡ 16
  pub run : (stamp parent : Stamp) (symbols : List Symbol)
      → length (item_spelling (Run stamp parent symbols)) ≡ 22 + 5 * length symbols

-- the numbers of an item are values of their fields' types
abbrev pub IsItemValue : Item → Type 0
IsItemValue item = AreItemValues (item_fields item)

-- no item's bytes begin another's
abbrev pub PrefixFree : Type 0
PrefixFree = (a b : Item) (x y : List ℕ) → IsItemValue a → IsItemValue b → item_spelling a ++ x ≡ item_spelling b ++ y
    → (a ≡ b) × (x ≡ y)

-- bytes are the feed of at most one list
abbrev pub OneList : Type 0
OneList = (bytes : List ℕ) (a b : List Op) → IsFeed bytes a → IsFeed bytes b → a ≡ b

-- each list of operations has one feed of single operations
pub record OneFeed : Type 0 where
  pub written : (ops : List Op) → AllByRecursion IsHeld ops → IsFeed (feed ops) ops
  pub bytes : (rest : List ℕ) (ops : List Op) → IsFeed (magic ++ rest) ops → magic ++ rest ≡ feed ops
  pub held : (bytes : List ℕ) (ops : List Op) → IsFeed bytes ops → AllByRecursion IsHeld ops

-- at the start of bytes an item stands or one thing is wrong, and never both
pub record ItemOrFault : Type 0 where
  pub either : (form : FeedForm) (bytes : List ℕ) → All (λ b. b < 256) bytes → 0 < length bytes
      → ((item : Item) × Stands form item × ((rest : List ℕ) × (bytes ≡ item_spelling item ++ rest)))
      ⊎ ((w : FeedWhy) × IsWrong form bytes w)
  pub not_both : (form : FeedForm) (item : Item) (rest : List ℕ) (w : FeedWhy) → Stands form item
      → IsWrong form (item_spelling item ++ rest) w → ⊥
  pub one : (form : FeedForm) (bytes : List ℕ) (v w : FeedWhy) → IsWrong form bytes v → IsWrong form bytes w → v ≡ w

-- bytes are a feed or have a first fault, never both, and have one first fault
pub record FeedOrFault : Type 0 where
  pub either : (bytes : List ℕ) → All (λ b. b < 256) bytes → ((ops : List Op) × IsFeed bytes ops)
      ⊎ ((fault : FeedFault) × IsFirstFault bytes fault)
  pub not_both : (bytes : List ℕ) (ops : List Op) (fault : FeedFault) → IsFeed bytes ops → IsFirstFault bytes fault → ⊥
  pub one_fault : (bytes : List ℕ) (a b : FeedFault) → IsFirstFault bytes a → IsFirstFault bytes b → a ≡ b
