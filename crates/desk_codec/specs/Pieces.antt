-- Feeds in pieces: what a reader has, and what each piece that it is fed shows.
use Rattle.std.specs.Prelude.{◌≡◌, ◌≢◌, ℕ, ◌+◌, ◌-◌, ◌≤◌, ◌<◌, Bool, true, false, List, [], ◌++◌, length, Option, Some}
use Rattle.std.specs.Prelude.{None, ◌⊎◌}
use Rattle.desk_ops.specs.declared.op.Op.{Op}
use Rattle.desk_codec.specs.declared.fault.FeedWhy.TheVariants as why
use Rattle.desk_codec.specs.declared.fault.FeedFault.{FeedFault}
use Rattle.desk_codec.specs.declared.fault.ReadFault.{ReadFault}
use Rattle.desk_codec.specs.declared.fault.ReadFault.TheVariants.{Fault, Failed, NoMemory}
use Rattle.desk_codec.specs.declared.form.FeedForm.{FeedForm}
use Rattle.desk_codec.specs.Items.{Item}
use Rattle.desk_codec.specs.Feed.{magic_of, Spells, ops_in}
use Rattle.desk_codec.specs.Fault.{IsCut, GoesWrong, HasNoMagic}

-- what a reader of pieces is seen as
pub record Reader : Type 0 where
  pub form : Option FeedForm  -- the form whose magic it has read, if it has
  pub taken : ℕ  -- how many bytes it has taken, the kept ones among them
  pub kept : List ℕ  -- the bytes kept of a magic or item that is not whole yet
  pub failed : Bool  -- whether it answers Failed from now on

-- a reader that has taken nothing
abbrev pub fresh : Reader
fresh = record { form = None; taken = 0; kept = []; failed = false }

-- the reader, which answers Failed from now on
abbrev pub ended : Reader → Reader
ended r = record { form = r.form; taken = r.taken; kept = r.kept; failed = true }

-- the place of the first byte that it keeps, or else of the next byte
abbrev pub place_of : Reader → ℕ
place_of r = r.taken - length r.kept

-- what has to stand before the items of a feed: the magic of its form, where none was read yet
abbrev pub due : Option FeedForm → FeedForm → List ℕ
due None form = magic_of form
due (Some read) form = []

-- the form is the one whose magic was read, if one was
abbrev pub Agrees : Option FeedForm → FeedForm → Type 0
Agrees None form = Unit {0}
Agrees (Some read) form = read ≡ form

-- no item stands there and nothing is wrong yet: there is no byte, or an item begins that is not whole
abbrev pub IsUnended : FeedForm → List ℕ → Type 0
IsUnended form bytes = (bytes ≡ []) ⊎ IsCut form bytes

-- the feed begins with these bytes, which may become a magic
pub record AwaitsMagic (before : Option FeedForm) (bytes : List ℕ) (ops : List Op) (after : Option FeedForm)
    (kept : List ℕ) : Type 0 where
  pub prefix : before ≡ None
  pub still : after ≡ None
  pub short : length bytes < 4
  pub none : ops ≡ []
  pub all : kept ≡ bytes

-- The bytes are, after the magic, those of items, followed by bytes of no whole one; the operations are those of the
-- items.
pub record Reads (before : Option FeedForm) (bytes : List ℕ) (ops : List Op) (form : FeedForm) (kept : List ℕ) : Type 0
  where
    pub agrees : Agrees before form
    pub items : List Item
    pub prefix : List ℕ
    pub spells : Spells form prefix items
    pub joined : ops ≡ ops_in items
    pub split : bytes ≡ due before form ++ (prefix ++ kept)
    pub unended : IsUnended form kept

-- what is read of bytes, and what is kept of them
abbrev pub IsRead : Option FeedForm → List ℕ → List Op → Option FeedForm → List ℕ → Type 0
IsRead before bytes ops after kept = AwaitsMagic before bytes ops after kept
    ⊎ ((form : FeedForm) × (after ≡ Some form) × Reads before bytes ops form kept)

-- four bytes stand at the start of the feed, and are no magic
pub record IsNotMagic (before : Option FeedForm) (bytes : List ℕ) (fault : FeedFault) : Type 0 where
  pub prefix : before ≡ None
  pub long : 4 ≤ length bytes
  pub wrong : HasNoMagic bytes fault

-- After the magic and items stands no kind, a count of no run, or an item that is whole and not lawful: more bytes
-- mend none.
pub record GoesAstray (before : Option FeedForm) (place : ℕ) (bytes : List ℕ) (fault : FeedFault) : Type 0 where
  pub form : FeedForm
  pub agrees : Agrees before form
  pub body : List ℕ
  pub split : bytes ≡ due before form ++ body
  pub wrong : GoesWrong form (place + length (due before form)) body fault
  pub whole : fault.why ≢ why.Cut

-- the fault that the bytes at a place show first, whatever follows them
abbrev pub ShowsFirst : Option FeedForm → ℕ → List ℕ → FeedFault → Type 0
ShowsFirst before place bytes fault = IsNotMagic before bytes fault ⊎ GoesAstray before place bytes fault

-- A reader took a piece: the bytes kept before, followed by the piece, are those of the operations and the bytes kept
-- after.
pub record Takes (before : Reader) (piece : List ℕ) (ops : List Op) (after : Reader) : Type 0 where
  pub answers : before.failed ≡ false
  pub answers_on : after.failed ≡ false
  pub taken : after.taken ≡ before.taken + length piece
  pub read : IsRead before.form (before.kept ++ piece) ops after.form after.kept

-- a piece shows a fault: the bytes kept before, followed by the piece, show it first
pub record Shows (before : Reader) (piece : List ℕ) (fault : FeedFault) : Type 0 where
  pub answers : before.failed ≡ false
  pub first : ShowsFirst before.form (place_of before) (before.kept ++ piece) fault

-- the bytes have as many, after the magic, as the shortest item takes: such bytes alone take memory
pub record MayHoldMore (before : Option FeedForm) (bytes : List ℕ) : Type 0 where
  pub form : FeedForm
  pub body : List ℕ
  pub split : bytes ≡ due before form ++ body
  pub long : 16 ≤ length body

-- a piece that ran out of memory shows no fault, and was not taken
pub record LacksMemory (before : Reader) (piece : List ℕ) (after : Reader) : Type 0 where
  pub answers : before.failed ≡ false
  pub same : after ≡ before
  pub long : MayHoldMore before.form (before.kept ++ piece)
  pub none : (fault : FeedFault) → ShowsFirst before.form (place_of before) (before.kept ++ piece) fault → ⊥

-- why a piece was not taken, and what the reader is then
abbrev pub Refuses : Reader → List ℕ → ReadFault → Reader → Type 0
Refuses before piece (Fault fault) after = Shows before piece fault × (after ≡ ended before)
Refuses before piece Failed after = (before.failed ≡ true) × (after ≡ before)
Refuses before piece NoMemory after = LacksMemory before piece after

-- the pieces so far are a whole feed
pub record IsWhole (r : Reader) : Type 0 where
  pub answers : r.failed ≡ false
  pub begun : r.form ≢ None
  pub none : r.kept ≡ []

-- the pieces so far end inside the magic, or inside an item
pub record EndsInMagic (r : Reader) (fault : FeedFault) : Type 0 where
  pub prefix : r.form ≡ None
  pub is : fault ≡ record { «at» = 0; why = why.Magic }

pub record EndsInItem (r : Reader) (fault : FeedFault) : Type 0 where
  pub form : FeedForm
  pub begun : r.form ≡ Some form
  pub cut : IsCut form r.kept
  pub is : fault ≡ record { «at» = place_of r; why = why.Cut }

pub record EndsWrong (r : Reader) (fault : FeedFault) : Type 0 where
  pub answers : r.failed ≡ false
  pub why : EndsInMagic r fault ⊎ EndsInItem r fault

-- why the end of the pieces is refused
abbrev pub RefusesEnd : Reader → ReadFault → Type 0
RefusesEnd r (Fault fault) = EndsWrong r fault
RefusesEnd r Failed = r.failed ≡ true
RefusesEnd r NoMemory = ⊥
