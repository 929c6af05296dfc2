-- The columns of the matrix case, in their order.
use Rattle.std.specs.Prelude.{ℕ, List, [], ◌∷◌, Option, slice_get}
use Rattle.desk_signals.specs.declared.Column.{Column}
use Rattle.desk_signals.specs.declared.Column.TheVariants as column

-- A to O, and after them the two that a wide case adds
abbrev pub the_columns : List Column
the_columns = column.A ∷ column.B ∷ column.C ∷ column.D ∷ column.E ∷ column.F ∷ column.G ∷ column.H ∷ column.I
    ∷ column.J ∷ column.K ∷ column.L ∷ column.M ∷ column.N ∷ column.O ∷ column.NI ∷ column.NL ∷ []

-- the column with an index, from 0
abbrev pub column_at : ℕ → Option Column
column_at n = slice_get the_columns n

-- the index of a column among these
abbrev pub index : Column → ℕ
index column.A = 0
index column.B = 1
index column.C = 2
index column.D = 3
index column.E = 4
index column.F = 5
index column.G = 6
index column.H = 7
index column.I = 8
index column.J = 9
index column.K = 10
index column.L = 11
index column.M = 12
index column.N = 13
index column.O = 14
index column.NI = 15
index column.NL = 16
