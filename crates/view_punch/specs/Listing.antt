-- The sorts of a copy as text, by a case.
use Rattle.std.specs.Prelude.{ℕ, ◌+◌, ◌%◌, ◌==◌, ◌<◌, Bool, List, [], ◌∷◌, ◌++◌, length, codes, Option, Some, None}
use Rattle.std.specs.Prelude.{if◌then◌else◌}
use Rattle.std.specs.Fmt.{decimal}
use Rattle.desk_signals.specs.declared.Cell.{Cell}
use Rattle.desk_signals.specs.Words.{column_name}
use Rattle.desk_ops.specs.declared.op.Symbol.{Symbol}
use Rattle.desk_ops.specs.Op.{is_line_feed, is_space}
use Rattle.desk_case.specs.Case.{CaseValues}
use Rattle.view_proof.specs.Parts.{left, right}
use Rattle.view_proof.specs.Faults.{around_text, name_text}
use Rattle.view_punch.specs.declared.sorts.Sort.{Sort}
use Rattle.view_punch.specs.Places.{cell_for, lacks, places_of}

-- ---- what a case has for a sort

-- its symbol is one that the case lacks
abbrev pub is_missing : CaseValues → Sort → Bool
is_missing case sort = lacks case sort.symbol

-- how many of the sorts are missing
abbrev pub missing_of : CaseValues → List Sort → ℕ
missing_of case [] = 0
missing_of case (sort ∷ sorts) = (if is_missing case sort then 1 else 0) + missing_of case sorts

-- how many matrices are cast for the symbols of a copy: each but the line feeds
abbrev pub cast_of : List Symbol → ℕ
cast_of [] = 0
cast_of (symbol ∷ symbols) = (if is_line_feed symbol then 0 else 1) + cast_of symbols

-- ---- the head

-- how many sorts there are, how often they are wanted together, and how many the case lacks
abbrev pub head_text : List Symbol → CaseValues → List Sort → List ℕ
head_text copy case sorts =
    codes "SORTS " ++ decimal (length sorts) ++ codes " kinds, " ++ decimal (cast_of copy) ++ codes " wanted, "
    ++ decimal (missing_of case sorts) ++ codes " missing\n"

-- ---- missing sorts

-- a sort by the name of its symbol; the space has its own
abbrev pub sort_name : Symbol → List ℕ
sort_name symbol = if is_space symbol then codes "space" else name_text symbol

-- how often a sort is wanted, and where first
abbrev pub first_text : Sort → List ℕ
first_text sort = codes ", wanted " ++ decimal sort.wanted ++ codes ", first at place " ++ decimal sort.first
    ++ codes "\n  | "

-- a missing sort by its name, and that
abbrev pub title_text : Sort → List ℕ
title_text sort = codes "missing " ++ (sort_name sort.symbol ++ first_text sort)

-- what stands before a place by its number among those of its sort, from 0: the first of each ten begins a line
abbrev pub line_begin : ℕ → List ℕ
line_begin number = if number % 10 == 0 then codes "\n  at" else []

-- a place in its column
abbrev pub place_text : (number place : ℕ) → List ℕ
place_text number place = line_begin number ++ (codes " " ++ right 7 (decimal place))

-- places, ten to a line, of which the first has this number
abbrev pub place_lines : ℕ → List ℕ → List ℕ
place_lines number [] = []
place_lines number (place ∷ places) = place_text number place ++ place_lines (number + 1) places

-- a missing sort, what surrounds its first place, and all its places
abbrev pub missing_text : List Symbol → Sort → List ℕ
missing_text copy sort =
    title_text sort ++ (around_text copy sort.first ++ (place_lines 0 (places_of copy sort.symbol) ++ codes "\n"))

abbrev pub missing_lines : List Symbol → CaseValues → List Sort → List ℕ
missing_lines copy case [] = []
missing_lines copy case (sort ∷ sorts) =
    (if is_missing case sort then missing_text copy sort else []) ++ missing_lines copy case sorts

-- the first place of a sort is one of the copy
abbrev pub IsWithin : List Symbol → Sort → Type 0
IsWithin copy sort = sort.first < length copy

-- ---- the list

-- what stands above the list
abbrev pub columns_text : List ℕ
columns_text = codes "\n  cell   wanted  sort\n"

-- the column of a cell and its row, each to its side, or a dash where there is none
abbrev pub cell_text : Option Cell → List ℕ
cell_text None = codes "   -  "
cell_text (Some cell) = right 4 (column_name cell.column) ++ left 2 (decimal cell.row)

-- a sort by its cell, how often it is wanted, and its name
abbrev pub sort_line : CaseValues → Sort → List ℕ
sort_line case sort =
    cell_text (cell_for case sort.symbol)
    ++ (right 9 (decimal sort.wanted) ++ (codes "  " ++ (sort_name sort.symbol ++ codes "\n")))

abbrev pub sort_lines : CaseValues → List Sort → List ℕ
sort_lines case [] = []
sort_lines case (sort ∷ sorts) = sort_line case sort ++ sort_lines case sorts

-- the head, the missing sorts at their text, and all of them
abbrev pub sorts_text : List Symbol → CaseValues → List Sort → List ℕ
sorts_text copy case sorts =
    head_text copy case sorts ++ (missing_lines copy case sorts ++ (columns_text ++ sort_lines case sorts))
