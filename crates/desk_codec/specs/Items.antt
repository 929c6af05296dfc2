-- What stands in a feed of runs: an operation, or a run of inserts.
use Rattle.std.specs.Prelude.{ℕ, ◌+◌, List, [], ◌∷◌, ◌++◌, length}
use Rattle.std.specs.Int.{to_be_bytes, w32}
use Rattle.std.specs.List.{flat_map}
use Rattle.desk_ops.specs.declared.op.Stamp.{Stamp}
use Rattle.desk_ops.specs.declared.op.Symbol.{Symbol}
use Rattle.desk_ops.specs.declared.op.Op.{Op}
use Rattle.desk_ops.specs.declared.op.Op.TheVariants.{Insert}
use Rattle.desk_ops.specs.Order.{style_code}
use Rattle.desk_codec.specs.Spelling.{stamp_spelling, spelling}

-- an operation alone, or a run: the first stamp, the parent of the first insert, and the symbols
pub data Item : Type 0 where
  One : Op → Item
  Run : Stamp → Stamp → List Symbol → Item

-- the next stamp of the same site
abbrev pub next_stamp : Stamp → Stamp
next_stamp stamp = record { counter = stamp.counter + 1; site = stamp.site }

-- the inserts of a run: each later one has the counter one greater, and the one before it as parent
abbrev pub run_ops : Stamp → Stamp → List Symbol → List Op
run_ops stamp parent [] = []
run_ops stamp parent (symbol ∷ symbols) = Insert stamp parent symbol ∷ run_ops (next_stamp stamp) stamp symbols

-- the operations that an item spells
abbrev pub item_ops : Item → List Op
item_ops (One op) = op ∷ []
item_ops (Run stamp parent symbols) = run_ops stamp parent symbols

-- a style and a character
abbrev pub symbol_spelling : Symbol → List ℕ
symbol_spelling symbol = style_code symbol.style ∷ to_be_bytes w32 symbol.ch

-- the bytes of an item; those of a run are 4, the stamp, the parent, the number of symbols, and the symbols
abbrev pub item_spelling : Item → List ℕ
item_spelling (One op) = spelling op
item_spelling (Run stamp parent symbols) = 4 ∷ stamp_spelling stamp ++ stamp_spelling parent
    ++ length symbols ∷ flat_map symbol_spelling symbols
