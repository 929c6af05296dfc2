-- The texts that operations insert and delete.
use Rattle.std.specs.Prelude.{ℕ, ◌-◌, Bool, not, ◌&&◌, ◌==◌, nat_lt, List, [], ◌∷◌, ◌++◌, length, take, drop}
use Rattle.std.specs.Prelude.{Option, Some, None, if◌then◌else◌}
use Rattle.desk_ops.specs.declared.op.Style.TheVariants.{Roman}
use Rattle.desk_ops.specs.declared.op.Symbol.{Symbol}
use Rattle.desk_ops.specs.declared.op.Op.{Op}
use Rattle.desk_ops.specs.declared.op.Op.TheVariants.{Insert, Delete, Set}
use Rattle.desk_ops.specs.Op.{space}
use Rattle.desk_ops.specs.Held.{bearing}
use Rattle.feed_history.specs.Rows.{first}
use Rattle.text_copy.specs.Places.{places_of}
use Rattle.text_copy.specs.Plain.{all_shown, is_directional}
use Rattle.text_copy.specs.Writing.{text_bytes}

-- of an insert its symbol
abbrev pub own_symbols : Op → List Symbol
own_symbols (Insert stamp parent symbol) = symbol ∷ []
own_symbols (Delete stamp target) = []
own_symbols (Set stamp key value) = []

abbrev pub inserted : List Op → List Symbol
inserted [] = []
inserted (op ∷ ops) = own_symbols op ++ inserted ops

abbrev pub symbols_of : Option Op → List Symbol
symbols_of None = []
symbols_of (Some op) = own_symbols op

-- of a delete the symbol of the first operation that bears its target among all, if that is an insert: of the
-- operations of one stamp the inserts come first
abbrev pub taken_symbols : List Op → Op → List Symbol
taken_symbols all (Insert stamp parent symbol) = []
taken_symbols all (Delete stamp target) = symbols_of (first (bearing all target))
taken_symbols all (Set stamp key value) = []

abbrev pub deleted : List Op → List Op → List Symbol
deleted all [] = []
deleted all (op ∷ ops) = taken_symbols all op ++ deleted all ops

-- a text stands at some place
abbrev pub contains : List Symbol → List Symbol → Bool
contains text symbols = not (length (places_of text symbols) == 0)

-- ---- as they are shown

abbrev pub point : Symbol
point = record { style = Roman; ch = 46 }

abbrev pub gap : List Symbol
gap = space ∷ point ∷ point ∷ space ∷ []

-- of more than 40 symbols the first 18 and the last
abbrev pub shortened : List Symbol → List Symbol
shortened symbols =
    if nat_lt 40 (length symbols) then take 18 symbols ++ gap ++ drop (length symbols - 18) symbols else symbols

-- it is shown as it is
abbrev pub is_kept : Symbol → Bool
is_kept s = not (s.ch == 10) && not (is_directional s.ch)

-- with marks for styles, as one line
abbrev pub shown_text : List Symbol → List ℕ
shown_text symbols = text_bytes (all_shown (shortened symbols))
