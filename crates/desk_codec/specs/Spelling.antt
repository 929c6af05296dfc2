-- The bytes of operations. Numbers are big endian.
use Rattle.std.specs.Prelude.{ℕ, ◌^◌, ◌<◌, ◌==◌, if◌then◌else◌, Option, Some, None, List, ◌∷◌, ◌++◌}
use Rattle.std.specs.Int.{to_be_bytes, w16, w32, w64}
use Rattle.std.specs.Char.{InScalarRange}
use Rattle.desk_ops.specs.declared.op.Stamp.{Stamp}
use Rattle.desk_ops.specs.declared.op.Op.{Op}
use Rattle.desk_ops.specs.declared.op.Op.TheVariants.{Insert, Delete, Set}
use Rattle.desk_ops.specs.Op.{IsLawful}
use Rattle.desk_ops.specs.Order.{style_code, key_code}

-- the byte that an operation begins with
abbrev pub kind_of : Op → ℕ
kind_of (Insert stamp parent symbol) = 1
kind_of (Delete stamp target) = 2
kind_of (Set stamp key value) = 3

-- how many bytes an operation of the kind takes; no other byte begins one
abbrev pub size_of_kind : ℕ → Option ℕ
size_of_kind kind = if kind == 1 then Some 26 else if kind == 2 then Some 21 else if kind == 3 then Some 16 else None

-- eight bytes of counter, and two of site
abbrev pub stamp_spelling : Stamp → List ℕ
stamp_spelling stamp = to_be_bytes w64 stamp.counter ++ to_be_bytes w16 stamp.site

-- what follows the kind: the stamp, and then the other fields in their order
abbrev pub fields_spelling : Op → List ℕ
fields_spelling (Insert stamp parent symbol) = stamp_spelling stamp ++ stamp_spelling parent
    ++ style_code symbol.style ∷ to_be_bytes w32 symbol.ch
fields_spelling (Delete stamp target) = stamp_spelling stamp ++ stamp_spelling target
fields_spelling (Set stamp key value) = stamp_spelling stamp ++ key_code key ∷ to_be_bytes w32 value

-- the bytes of an operation: its kind, and then its fields
abbrev pub spelling : Op → List ℕ
spelling op = kind_of op ∷ fields_spelling op

-- the numbers of a stamp and of an operation are values of their fields' types
abbrev pub IsStampValue : Stamp → Type 0
IsStampValue stamp = (stamp.counter < 2 ^ 64) × (stamp.site < 2 ^ 16)

abbrev pub IsValue : Op → Type 0
IsValue (Insert stamp parent symbol) = IsStampValue stamp × IsStampValue parent × InScalarRange symbol.ch
IsValue (Delete stamp target) = IsStampValue stamp × IsStampValue target
IsValue (Set stamp key value) = IsStampValue stamp × (value < 2 ^ 32)

-- what a feed holds: a lawful operation
pub record IsHeld (op : Op) : Type 0 where
  pub lawful : IsLawful op
  pub value : IsValue op
