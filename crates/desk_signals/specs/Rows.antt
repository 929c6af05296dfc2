-- The rows of a ribbon and their signals.
use Rattle.std.specs.Prelude.{◌≡◌, ℕ, ◌+◌, ◌<◌, ◌≤◌, Bool, false, cond, if◌then◌else◌, not, ◌&&◌, ◌||◌, ◌==◌, nat_le}
use Rattle.std.specs.Prelude.{nat_lt, List, [], ◌∷◌, ◌++◌, length, take, drop, slice_index_or, Option, Some, None}
use Rattle.std.specs.List.{filter, list_any}
use Rattle.std.specs.List.Sorted.{IsPermutation}
use Rattle.desk_signals.specs.declared.Column.{Column}
use Rattle.desk_signals.specs.declared.Column.TheVariants as column
use Rattle.desk_signals.specs.Columns.{index}
use Rattle.desk_signals.specs.declared.Signal.{Signal}
use Rattle.desk_signals.specs.declared.Signal.TheVariants as signal
use Rattle.desk_signals.specs.declared.BadRow.{BadRow}
use Rattle.desk_signals.specs.declared.BadRow.TheVariants.{TwoLetters, TwoNumbers, FineAlone, WedgeWithLetter}
use Rattle.desk_signals.specs.declared.BadRow.TheVariants.{WedgeWithS, Repeated}
use Rattle.desk_signals.specs.declared.RibbonRow.{RibbonRow}
use Rattle.desk_signals.specs.declared.RibbonRow.TheVariants.{Cell, Coarse, FineOut}

-- the 31 signals, in signal order
abbrev pub the_signals : List Signal
the_signals = signal.A ∷ signal.B ∷ signal.C ∷ signal.D ∷ signal.E ∷ signal.F ∷ signal.G ∷ signal.H ∷ signal.I
    ∷ signal.J ∷ signal.K ∷ signal.L ∷ signal.M ∷ signal.N ∷ signal.One ∷ signal.Two ∷ signal.Three ∷ signal.Four
    ∷ signal.Five ∷ signal.Six ∷ signal.Seven ∷ signal.Eight ∷ signal.Nine ∷ signal.Ten ∷ signal.Eleven ∷ signal.Twelve
    ∷ signal.Thirteen ∷ signal.Fourteen ∷ signal.Fine ∷ signal.Coarse ∷ signal.S ∷ []

-- the signals of a column: its letter, none for O, and two for each of the columns after it
abbrev pub letters_of : Column → List Signal
letters_of column.O = []
letters_of column.NI = signal.I ∷ signal.N ∷ []
letters_of column.NL = signal.L ∷ signal.N ∷ []
letters_of c = take 1 (drop (index c) the_signals)

-- the signals of a row or position from 1 to 15: its number, and none for 15
abbrev pub number_of : ℕ → List Signal
number_of n = if nat_lt n 15 then take 1 (drop (n + 13) the_signals) else []

-- the signals of a row of the ribbon, in signal order
abbrev pub signals_of : RibbonRow → List Signal
signals_of (Cell column row s) = letters_of column ++ (number_of row ++ cond s (signal.S ∷ []) [])
signals_of (Coarse position) = number_of position ++ signal.Coarse ∷ []
signals_of (FineOut position) = number_of position ++ (signal.Fine ∷ signal.Coarse ∷ [])

-- The row's numbers are from 1 to 15, as those of each row of the program are.
abbrev pub IsRow : RibbonRow → Type 0
IsRow (Cell column row s) = (1 ≤ row) × (row ≤ 15)
IsRow (Coarse position) = (1 ≤ position) × (position ≤ 15)
IsRow (FineOut position) = (1 ≤ position) × (position ≤ 15)

-- The signals are the row's, in any order, each once. No other signals have a meaning.
abbrev pub Spells : List Signal → RibbonRow → Type 0
Spells signals row = IsPermutation (signals_of row) signals

-- the place of a signal among these, from 0
abbrev pub place : Signal → ℕ
place signal.A = 0
place signal.B = 1
place signal.C = 2
place signal.D = 3
place signal.E = 4
place signal.F = 5
place signal.G = 6
place signal.H = 7
place signal.I = 8
place signal.J = 9
place signal.K = 10
place signal.L = 11
place signal.M = 12
place signal.N = 13
place signal.One = 14
place signal.Two = 15
place signal.Three = 16
place signal.Four = 17
place signal.Five = 18
place signal.Six = 19
place signal.Seven = 20
place signal.Eight = 21
place signal.Nine = 22
place signal.Ten = 23
place signal.Eleven = 24
place signal.Twelve = 25
place signal.Thirteen = 26
place signal.Fourteen = 27
place signal.Fine = 28
place signal.Coarse = 29
place signal.S = 30

abbrev pub same : Signal → Signal → Bool
same x y = place x == place y

abbrev pub has : List Signal → Signal → Bool
has signals x = list_any (same x) signals

-- the letters, the first 14 signals
abbrev pub is_letter : Signal → Bool
is_letter x = nat_lt (place x) 14

abbrev pub letters : List Signal → List Signal
letters signals = filter is_letter signals

-- the numbers, the next 14
abbrev pub is_number : Signal → Bool
is_number x = nat_le 14 (place x) && nat_lt (place x) 28

abbrev pub numbers : List Signal → List Signal
numbers signals = filter is_number signals

-- exactly the letters N and I, or N and L
abbrev pub is_pair : List Signal → Bool
is_pair signals = length (letters signals) == 2 && has signals signal.N &&
    (has signals signal.I || has signals signal.L)

-- two or more letters that are not
abbrev pub two_letters : List Signal → Bool
two_letters signals = nat_lt 1 (length (letters signals)) && not (is_pair signals)

-- the numbers of the causes
abbrev pub cause_number : BadRow → ℕ
cause_number TwoLetters = 1
cause_number TwoNumbers = 2
cause_number FineAlone = 3
cause_number WedgeWithLetter = 4
cause_number WedgeWithS = 5
cause_number Repeated = 6

-- Two places hold the same signal.
abbrev pub Repeats : List Signal → Type 0
Repeats signals =
    (i : ℕ) × (j : ℕ) × (i < j) × (j < length signals)
    × ((x : Signal) → slice_index_or signals i x ≡ slice_index_or signals j x)

abbrev pub repeats : List Signal → Bool
repeats [] = false
repeats (x ∷ signals) = has signals x || repeats signals

-- the first cause among signals with the letters of one column and one number at most
abbrev pub wedge_fault : (fine coarse letter s : Bool) → Option BadRow
wedge_fault fine coarse letter s =
    if fine && not coarse then Some FineAlone
    else if coarse && letter then Some WedgeWithLetter
    else if coarse && s then Some WedgeWithS
    else None

-- why signals are no row, the first cause that holds
abbrev pub fault_of : List Signal → Option BadRow
fault_of signals =
    if repeats signals then Some Repeated
    else if two_letters signals then Some TwoLetters
    else if nat_lt 1 (length (numbers signals)) then Some TwoNumbers
    else wedge_fault (has signals signal.Fine) (has signals signal.Coarse) (nat_lt 0 (length (letters signals)))
    (has signals signal.S)
