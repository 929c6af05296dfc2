-- Text, read as a copy character by character.
use Rattle.std.specs.Prelude.{◌≡◌, ℕ, ◌+◌, Bool, ◌==◌, List, [], ◌∷◌, ◌++◌, take, length, Option, Some, None, Result}
use Rattle.std.specs.Prelude.{Ok, Err, if◌then◌else◌, option_to_list}
use Rattle.std.specs.Str.{chars}
use Rattle.std.specs.Str.Lossy.{utf8_valid_len}
use Rattle.desk_ops.specs.declared.op.Style.{Style}
use Rattle.desk_ops.specs.declared.op.Style.TheVariants.{Roman, Italic, SmallCap}
use Rattle.desk_ops.specs.declared.op.Symbol.{Symbol}
use Rattle.desk_ops.specs.Op.{is_symbol, space, line_feed, same_style}
use Rattle.text_copy.specs.declared.fault.Place.{Place}
use Rattle.text_copy.specs.declared.fault.Cause.{Cause}
use Rattle.text_copy.specs.declared.fault.Cause.TheVariants as causes
use Rattle.text_copy.specs.declared.fault.TextFault.{TextFault}
use Rattle.text_copy.specs.declared.fault.TextFault.TheVariants.{At, NoMemory}
use Rattle.text_copy.specs.declared.reader.State.{State}
use Rattle.text_copy.specs.declared.reader.State.TheVariants.{Within, Escape, Return}
use Rattle.text_copy.specs.Marks.{is_mark}

-- What a function returned, seen by view, is what reading gives, unless memory ran out.
abbrev pub Fails : {Y : Type 0} → TextFault → Result Y TextFault → Type 0
Fails NoMemory read = Unit {0}
Fails (At line column cause) read = read ≡ Err (At line column cause)

abbrev pub Gives : {X Y : Type 0} → (X → Y) → Result X TextFault → Result Y TextFault → Type 0
Gives view (Ok x) read = read ≡ Ok (view x)
Gives view (Err e) read = Fails e read

infixl 10 ◌>>=◌
abbrev pub ◌>>=◌ : {A B : Type 0} → Result A TextFault → (A → Result B TextFault) → Result B TextFault
(Ok x) >>= f = f x
(Err e) >>= f = Err e

abbrev pub fault : Place → Cause → TextFault
fault here cause = At here.line here.column cause

-- where a character leads, and the symbol that it ends
abbrev pub Step : Type 0
Step = Result (State × Option Symbol) TextFault

-- no style may be open at the end of a line
abbrev pub line_end : Style → Place → Step
line_end Roman here = Ok (Within Roman, Some line_feed)
line_end Italic here = Err (fault here causes.Unclosed)
line_end SmallCap here = Err (fault here causes.Unclosed)

-- a space is Roman in any style
abbrev pub symbol_of : Style → ℕ → Symbol
symbol_of style c = if c == 32 then space else record { style = style; ch = c }

-- a character that stands for itself
abbrev pub taken : Style → Place → ℕ → Step
taken style here c = if is_symbol (symbol_of style c) then Ok (Within style, Some (symbol_of style c)) else Err
    (fault here causes.Symbol)

-- a mark closes its own style, opens it in Roman, and may not stand in the other
abbrev pub turned : Style → Style → Place → Step
turned mark style here =
    if same_style style mark then Ok (Within Roman, None) else
    (if same_style style Roman then Ok (Within mark, None) else Err (fault here causes.Inside))

unfoldable pub marked : Style → Place → ℕ → Step
marked style here c =
    if c == 92 then Ok (Escape style here, None)
    else (if c == 95 then turned Italic style here else
    (if c == 94 then turned SmallCap style here else taken style here c))

-- a carriage return is dropped before a line feed, and else no symbol; where all is plain, marks stand for themselves
unfoldable pub step : Bool → State → Place → ℕ → Step
step plain (Within style) here c =
    if c == 10 then line_end style here
    else (if c == 13 then Ok (Return style here, None) else (if plain then taken style here c else marked style here c))
step plain (Escape style back) here c =
    if is_mark c then Ok (Within style, Some (record { style = style; ch = c })) else Err (fault back causes.Escape)
step plain (Return style back) here c = if c == 10 then line_end style back else Err (fault back causes.Symbol)

abbrev pub start : Place
start = record { line = 1; column = 1 }

-- the place behind a character
abbrev pub after : Place → ℕ → Place
after here c = if c == 10 then record { line = here.line + 1; column = 1 } else record
    { line = here.line; column = here.column + 1 }

-- at the end, where the bytes that follow, if the text is not whole, are no UTF-8
abbrev pub ends : Bool → State → Place → Result (Unit {0}) TextFault
ends whole (Within style) here =
    if whole then (if same_style style Roman then Ok tt else Err (fault here causes.Unclosed)) else Err
    (fault here causes.Encoding)
ends whole (Escape style back) here = Err (fault back causes.Escape)
ends whole (Return style back) here = Err (fault back causes.Symbol)

-- the symbols of characters, or the first fault
abbrev pub read_from : Bool → Bool → State → Place → List ℕ → Result (List Symbol) TextFault
read_from plain whole state here [] = do
  end ← ends whole state here
  Ok []
read_from plain whole state here (c ∷ cs) = do
  next ← step plain state here c
  more ← read_from plain whole next.0 (after here c) cs
  Ok (option_to_list next.1 ++ more)

-- the symbols of bytes: of the longest prefix that is UTF-8, which is to be all of them
abbrev pub reading : Bool → List ℕ → Result (List Symbol) TextFault
reading plain bytes =
    let valid = utf8_valid_len bytes in
    read_from plain (valid == length bytes) (Within Roman) start (chars (take valid bytes))
