-- Where a feed goes wrong: the first place from the left at which neither an item nor the end stands.
use Rattle.std.specs.Prelude.{◌≡◌, ℕ, ◌+◌, ◌*◌, ◌^◌, ◌<◌, ◌==◌, ◌||◌, ◌&&◌, not, Bool, false, nat_lt, nat_le}
use Rattle.std.specs.Prelude.{if◌then◌else◌, List, [], ◌∷◌, ◌++◌, length, map, Option, Some, None, Result, Ok, Err, ◌⊎◌}
use Rattle.std.specs.Int.{to_be_bytes, w32}
use Rattle.std.specs.List.{flat_map, AllByRecursion}
use Rattle.desk_ops.specs.declared.op.Stamp.{Stamp}
use Rattle.desk_ops.specs.declared.op.Style.{Style}
use Rattle.desk_ops.specs.declared.op.Style.TheVariants.{Roman, Italic, SmallCap}
use Rattle.desk_ops.specs.declared.op.Symbol.{Symbol}
use Rattle.desk_ops.specs.declared.op.Key.{Key}
use Rattle.desk_ops.specs.declared.op.Key.TheVariants.{Measure, Tight, Loose, Case, Wedge}
use Rattle.desk_ops.specs.declared.op.Op.{Op}
use Rattle.desk_ops.specs.declared.op.Op.TheVariants as ops
use Rattle.desk_ops.specs.declared.op.Unlawful.{Unlawful}
use Rattle.desk_ops.specs.declared.op.Unlawful.TheVariants as unlawful
use Rattle.desk_ops.specs.Op.{first_of, verdict}
use Rattle.desk_ops.specs.Stamp.{is_counter}
use Rattle.desk_ops.specs.Order.{style_code, key_code}
use Rattle.desk_codec.specs.declared.fields.Fields.{Fields}
use Rattle.desk_codec.specs.declared.fields.Fields.TheVariants.{Insert, Delete, Set}
use Rattle.desk_codec.specs.declared.fault.FeedWhy.{FeedWhy}
use Rattle.desk_codec.specs.declared.fault.FeedWhy.TheVariants as why
use Rattle.desk_codec.specs.declared.fault.FeedFault.{FeedFault}
use Rattle.desk_codec.specs.declared.form.FeedForm.{FeedForm}
use Rattle.desk_codec.specs.Spelling.{size_of_kind, stamp_spelling, IsStampValue}
use Rattle.desk_codec.specs.Items.{Item, One, Run, next_stamp}
use Rattle.desk_codec.specs.Feed.{magic_of, HasRuns, IsRunLength, Spells}

-- ---- fields, lawful or not

-- the fields that an operation's bytes have
abbrev pub fields_of : Op → Fields
fields_of (ops.Insert stamp parent symbol) = Insert stamp parent (style_code symbol.style) symbol.ch
fields_of (ops.Delete stamp target) = Delete stamp target
fields_of (ops.Set stamp key value) = Set stamp (key_code key) value

-- the bytes that have these fields, the kind before them
abbrev pub bytes_of : Fields → List ℕ
bytes_of (Insert stamp parent style ch) = 1 ∷ stamp_spelling stamp ++ stamp_spelling parent
    ++ style ∷ to_be_bytes w32 ch
bytes_of (Delete stamp target) = 2 ∷ stamp_spelling stamp ++ stamp_spelling target
bytes_of (Set stamp key value) = 3 ∷ stamp_spelling stamp ++ key ∷ to_be_bytes w32 value

-- the numbers are values of their fields' types
abbrev pub AreValues : Fields → Type 0
AreValues (Insert stamp parent style ch) = IsStampValue stamp × IsStampValue parent × (style < 2 ^ 8) × (ch < 2 ^ 32)
AreValues (Delete stamp target) = IsStampValue stamp × IsStampValue target
AreValues (Set stamp key value) = IsStampValue stamp × (key < 2 ^ 8) × (value < 2 ^ 32)

abbrev pub style_of : ℕ → Option Style
style_of n = if n == 0 then Some Roman else if n == 1 then Some Italic else if n == 2 then Some SmallCap else None

abbrev pub key_of : ℕ → Option Key
key_of n = if n == 1 then Some Measure else if n == 2 then Some Tight else if n == 3 then Some Loose else if n == 4
    then Some Case else if n == 5 then Some Wedge else None

-- a scalar value, which every character is
abbrev pub is_character : ℕ → Bool
is_character n = nat_lt n 0xD800 || (nat_le 0xE000 n && nat_lt n 0x110000)

-- the character 0, which no copy has
abbrev pub no_symbol : Symbol
no_symbol = record { style = Roman; ch = 0 }

-- the symbol of a style's and a character's number; numbers of no symbol count as one that no copy has
abbrev pub symbol_in : Option Style → ℕ → Symbol
symbol_in (Some style) ch = if is_character ch then record { style = style; ch = ch } else no_symbol
symbol_in None ch = no_symbol

-- a setting's first cause; a number of no key comes after the causes in the stamp
abbrev pub setting_cause : Stamp → Option Key → ℕ → Result (Unit {0}) Unlawful
setting_cause stamp (Some key) value = verdict (ops.Set stamp key value)
setting_cause stamp None value =
    first_of ((is_counter stamp.counter, unlawful.Counter) ∷ (not (stamp.site == 0), unlawful.Site) ∷
    (false, unlawful.Key) ∷ [])

-- the first cause why fields are those of no lawful operation
abbrev pub cause : Fields → Result (Unit {0}) Unlawful
cause (Insert stamp parent style ch) = verdict (ops.Insert stamp parent (symbol_in (style_of style) ch))
cause (Delete stamp target) = verdict (ops.Delete stamp target)
cause (Set stamp key value) = setting_cause stamp (key_of key) value

-- ---- the fields of items, lawful or not

-- the numbers of a style and a character, as a run has them
pub record Mark : Type 0 where
  pub style : ℕ
  pub ch : ℕ

-- the fields of an operation alone, or of a run
pub data ItemFields : Type 0 where
  OneOf : Fields → ItemFields
  RunOf : Stamp → Stamp → List Mark → ItemFields

abbrev pub mark_of : Symbol → Mark
mark_of symbol = record { style = style_code symbol.style; ch = symbol.ch }

-- the fields that an item's bytes have
abbrev pub item_fields : Item → ItemFields
item_fields (One op) = OneOf (fields_of op)
item_fields (Run stamp parent symbols) = RunOf stamp parent (map mark_of symbols)

abbrev pub mark_bytes : Mark → List ℕ
mark_bytes mark = mark.style ∷ to_be_bytes w32 mark.ch

-- the bytes that have these fields
abbrev pub item_bytes : ItemFields → List ℕ
item_bytes (OneOf fields) = bytes_of fields
item_bytes (RunOf stamp parent marks) = 4 ∷ stamp_spelling stamp ++ stamp_spelling parent
    ++ length marks ∷ flat_map mark_bytes marks

abbrev pub IsMarkValue : Mark → Type 0
IsMarkValue mark = (mark.style < 2 ^ 8) × (mark.ch < 2 ^ 32)

-- the numbers are values of their fields' types
abbrev pub AreItemValues : ItemFields → Type 0
AreItemValues (OneOf fields) = AreValues fields
AreItemValues (RunOf stamp parent marks) = IsStampValue stamp × IsStampValue parent × (length marks < 2 ^ 8)
    × AllByRecursion IsMarkValue marks

-- an item of such fields may stand in a feed of the form
abbrev pub MayStand : FeedForm → ItemFields → Type 0
MayStand form (OneOf fields) = Unit {0}
MayStand form (RunOf stamp parent marks) = HasRuns form × IsRunLength (length marks)

-- the cause, or else the later one
abbrev pub then_cause : Result (Unit {0}) Unlawful → Result (Unit {0}) Unlawful → Result (Unit {0}) Unlawful
then_cause (Ok done) later = later
then_cause (Err first) later = Err first

-- the first cause of the first insert of a run that is not lawful
abbrev pub run_cause : Stamp → Stamp → List Mark → Result (Unit {0}) Unlawful
run_cause stamp parent [] = Ok tt
run_cause stamp parent (mark ∷ marks) =
    then_cause (cause (Insert stamp parent mark.style mark.ch)) (run_cause (next_stamp stamp) stamp marks)

-- the first cause why fields are those of no lawful item
abbrev pub item_cause : ItemFields → Result (Unit {0}) Unlawful
item_cause (OneOf fields) = cause fields
item_cause (RunOf stamp parent marks) = run_cause stamp parent marks

-- ---- faults

-- the byte at the start begins no item of the form
pub record HasNoKind (form : FeedForm) (bytes : List ℕ) : Type 0 where
  pub kind : ℕ
  pub rest : List ℕ
  pub prefix : bytes ≡ kind ∷ rest
  pub none : size_of_kind kind ≡ None
  pub no_run : HasRuns form → kind ≡ 4 → ⊥

-- the prefix of a run: its kind, the twenty bytes of its two stamps, and its count
pub record BeginsRun (bytes : List ℕ) (count : ℕ) (rest : List ℕ) : Type 0 where
  pub stamps : List ℕ
  pub twenty : length stamps ≡ 20
  pub prefix : bytes ≡ 4 ∷ stamps ++ count ∷ rest

-- a run begins that has no such count
pub record IsNoRun (form : FeedForm) (bytes : List ℕ) : Type 0 where
  pub runs : HasRuns form
  pub count : ℕ
  pub rest : List ℕ
  pub prefix : BeginsRun bytes count rest
  pub out : IsRunLength count → ⊥

-- the byte at the start begins an operation, and the bytes end inside it
pub record IsCutOp (bytes : List ℕ) : Type 0 where
  pub kind : ℕ
  pub rest : List ℕ
  pub prefix : bytes ≡ kind ∷ rest
  pub size : ℕ
  pub some : size_of_kind kind ≡ Some size
  pub short : length bytes < size

-- a run begins, and the bytes end before its count
pub record IsCutPrefix (form : FeedForm) (bytes : List ℕ) : Type 0 where
  pub runs : HasRuns form
  pub rest : List ℕ
  pub prefix : bytes ≡ 4 ∷ rest
  pub short : length bytes < 22

-- a run begins, and the bytes end inside its symbols
pub record IsCutRun (form : FeedForm) (bytes : List ℕ) : Type 0 where
  pub runs : HasRuns form
  pub count : ℕ
  pub rest : List ℕ
  pub prefix : BeginsRun bytes count rest
  pub within : IsRunLength count
  pub short : length rest < 5 * count

-- an item begins, and the bytes end inside it
abbrev pub IsCut : FeedForm → List ℕ → Type 0
IsCut form bytes = IsCutOp bytes ⊎ (IsCutPrefix form bytes ⊎ IsCutRun form bytes)

-- the bytes of an item's fields stand at the start, and this is the first cause why they are not lawful
pub record IsUnlawful (form : FeedForm) (bytes : List ℕ) (first : Unlawful) : Type 0 where
  pub fields : ItemFields
  pub values : AreItemValues fields
  pub stands : MayStand form fields
  pub rest : List ℕ
  pub prefix : bytes ≡ item_bytes fields ++ rest
  pub is : item_cause fields ≡ Err first

-- what is wrong at the start of bytes in a feed of the form
abbrev pub IsWrong : FeedForm → List ℕ → FeedWhy → Type 0
IsWrong form bytes why.Magic = ⊥
IsWrong form bytes why.Kind = HasNoKind form bytes
IsWrong form bytes (why.Unlawful first) = IsUnlawful form bytes first
IsWrong form bytes why.Cut = IsCut form bytes
IsWrong form bytes why.Run = IsNoRun form bytes

-- Bytes read on from a place begin with items, and then something is wrong: that is the fault, at its place.
pub record GoesWrong (form : FeedForm) (place : ℕ) (bytes : List ℕ) (fault : FeedFault) : Type 0 where
  pub before : List Item
  pub prefix : List ℕ
  pub spells : Spells form prefix before
  pub rest : List ℕ
  pub split : bytes ≡ prefix ++ rest
  pub there : fault.at ≡ place + length prefix
  pub wrong : IsWrong form rest fault.why

-- no magic stands at the start
pub record HasNoMagic (bytes : List ℕ) (fault : FeedFault) : Type 0 where
  pub none : (form : FeedForm) (rest : List ℕ) → bytes ≡ magic_of form ++ rest → ⊥
  pub is : fault ≡ record { «at» = 0; why = why.Magic }

-- the first fault of bytes that are no feed
abbrev pub IsFirstFault : List ℕ → FeedFault → Type 0
IsFirstFault bytes fault = HasNoMagic bytes fault
    ⊎ ((form : FeedForm) × (rest : List ℕ) × (bytes ≡ magic_of form ++ rest) × GoesWrong form 4 rest fault)
