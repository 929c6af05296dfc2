-- Words and numbers, read from left to right.
use Rattle.std.specs.Prelude.{◌≡◌, ℕ, ◌+◌, ◌-◌, ◌*◌, Bool, ◌==◌, ◌&&◌, nat_le, List, [], ◌∷◌, length, Option, Some}
use Rattle.std.specs.Prelude.{None, Result, Ok, Err, if◌then◌else◌}
use Rattle.std.specs.List.{before_first, after_first, position_or_len}
use Rattle.std.proofs.Common.{eqb}
use Rattle.script_answers.specs.declared.command.ParseError.{ParseError}
use Rattle.script_answers.specs.declared.command.ParseError.TheVariants.{NoMemory, Form}

infixl 10 ◌>>=◌
abbrev pub ◌>>=◌ : {A B : Type 0} → Option A → (A → Option B) → Option B
(Some x) >>= f = f x
None >>= f = None

-- What a function returned, seen by view, is what reading gives, unless memory ran out.
abbrev pub Fails : {Y : Type 0} → ParseError → Option Y → Type 0
Fails NoMemory read = Unit {0}
Fails Form read = read ≡ None

abbrev pub Gives : {X Y : Type 0} → (X → Y) → Result X ParseError → Option Y → Type 0
Gives view (Ok x) read = read ≡ Some (view x)
Gives view (Err e) read = Fails e read

-- What is left of a line: None once its last word was read.
abbrev pub Rest : Type 0
Rest = Option (List ℕ)

-- the next word ends before a space or with the line
unfoldable pub word_at : Rest → Option (List ℕ × Rest)
word_at None = None
word_at (Some bytes) =
    if position_or_len (λ b. eqb b 32) bytes == length bytes then Some (bytes, None)
    else Some (before_first (λ b. eqb b 32) bytes, Some (after_first (λ b. eqb b 32) bytes))

-- nothing may follow
abbrev pub at_end : {A : Type 0} → Rest → A → Option A
at_end None x = Some x
at_end (Some bytes) x = None

abbrev pub is_digit : ℕ → Bool
is_digit b = nat_le 48 b && nat_le b 57

-- n is the value of the digits before
abbrev pub value_from : ℕ → List ℕ → Option ℕ
value_from n [] = Some n
value_from n (b ∷ bytes) = if is_digit b then value_from (n * 10 + (b - 48)) bytes else None

abbrev pub at_most : ℕ → ℕ → Option ℕ
at_most max n = if nat_le n max then Some n else None

-- 1 to 10 digits
unfoldable pub number_of : List ℕ → Option ℕ
number_of word = if nat_le 1 (length word) && nat_le (length word) 10 then (value_from 0 word >>= at_most 4294967295)
    else None

unfoldable pub number_at : Rest → Option (ℕ × Rest)
number_at rest = do
  word ← word_at rest
  n ← number_of word.0
  Some (n, word.1)

-- 1 to 255 bytes
unfoldable pub file_at : Rest → Option (List ℕ × Rest)
file_at rest = do
  word ← word_at rest
  if nat_le 1 (length word.0) && nat_le (length word.0) 255 then Some word else None

-- the number after a second dot
abbrev pub dotted : List ℕ → Option ℕ
dotted [] = None
dotted (b ∷ bytes) = if b == 46 then number_of bytes else None

-- `F..T`
unfoldable pub range_of : List ℕ → Option (ℕ × ℕ)
range_of word = do
  from ← number_of (before_first (λ b. eqb b 46) word)
  to ← dotted (after_first (λ b. eqb b 46) word)
  Some (from, to)

unfoldable pub range_at : Rest → Option (Option (ℕ × ℕ))
range_at None = Some None
range_at (Some word) = do
  range ← range_of word
  Some (Some range)

-- a hexadecimal digit of either case
unfoldable pub nibble : ℕ → Option ℕ
nibble b =
    if is_digit b then Some (b - 48)
    else (if nat_le 97 b && nat_le b 102 then Some (b - 87)
    else (if nat_le 65 b && nat_le b 70 then Some (b - 55) else None))

abbrev pub pairs : List ℕ → Option (List ℕ)
pairs [] = Some []
pairs (a ∷ []) = None
pairs (a ∷ b ∷ bytes) = do
  high ← nibble a
  low ← nibble b
  more ← pairs bytes
  Some ((high * 16 + low) ∷ more)

-- one or more pairs
unfoldable pub hex_at : Rest → Option (List ℕ)
hex_at None = None
hex_at (Some word) = if length word == 0 then None else pairs word
