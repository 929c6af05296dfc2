-- The lines of rows that are cast never fall.
use Rattle.std.proofs.Common.{◌≡◌, ℕ, suc, ◌≤◌, List, [], ◌∷◌, arith, refl}
use Rattle.std.specs.Prelude.{Bool, Result, Ok, Err, None}
use Rattle.desk_signals.specs.declared.Column.{Column}
use Rattle.desk_signals.specs.declared.RibbonRow.{RibbonRow}
use Rattle.desk_signals.specs.declared.RibbonRow.TheVariants as row
use Rattle.desk_case.specs.Case.{CaseValues}
use Rattle.desk_wedge.specs.Wedge.{WedgeValues}
use Rattle.desk_caster.specs.Caster.{Line, State, ◌>>=◌, cast, cast_row, cast_rows, finish}
use Rattle.desk_caster.specs.declared.CastFault.{CastFault}
use Rattle.view_ribbon.specs.Stretch.{coarse_through, line_of}

-- no row is of a line before that of the row before it, where so many Coarse rows come before them all
abbrev pub NeverFalls : ℕ → List RibbonRow → Type 0
NeverFalls before [] = Unit {0}
NeverFalls before (row ∷ []) = Unit {0}
NeverFalls before (row ∷ next ∷ rows) = (line_of before row ≤ line_of (coarse_through before row) next) × NeverFalls (coarse_through before row) (next ∷ rows)

-- what went well began well
began : {A B : Type 0} (x : Result A CastFault) (f : A → Result B CastFault) (b : B) → x >>= f ≡ Ok b → (a : A) × (x ≡ Ok a) × (f a ≡ Ok b)
began (Ok a) f b h = (a, refl, h)
began (Err e) f b h = absurd cc

-- behind an end of a line no line is in progress
at_end : (case : CaseValues) (wedge : WedgeValues) (place fine : ℕ) (before after : State) → cast_row case wedge place (row.FineOut fine) before ≡ Ok after → after.line ≡ None
at_end case wedge place fine before after h = cc

-- so no matrix is cast there
no_matrix : (case : CaseValues) (wedge : WedgeValues) (place : ℕ) (column : Column) (n : ℕ) (s : Bool) (before after : State) → before.line ≡ None → cast_row case wedge place (row.Cell column n s) before ≡ Ok after → ⊥
no_matrix case wedge place column n s before after none h = cc

step : (case : CaseValues) (wedge : WedgeValues) (place before : ℕ) (first next : RibbonRow) (rows : List RibbonRow) (middle after : State) → cast_rows case wedge (suc place) (next ∷ rows) ≡ Ok middle → cast_row case wedge place first middle ≡ Ok after
    → line_of before first ≤ line_of (coarse_through before first) next
step case wedge place before (row.FineOut fine) (row.FineOut f) rows middle after is h = omega arith
step case wedge place before (row.FineOut fine) (row.Coarse c) rows middle after is h = omega arith
step case wedge place before (row.FineOut fine) (row.Cell column n s) rows middle after is h = omega arith
step case wedge place before (row.Coarse coarse) (row.FineOut f) rows middle after is h = omega arith
step case wedge place before (row.Coarse coarse) (row.Coarse c) rows middle after is h = omega arith
step case wedge place before (row.Coarse coarse) (row.Cell column n s) rows middle after is h = omega arith
step case wedge place before (row.Cell column n s) (row.Coarse c) rows middle after is h = omega arith
step case wedge place before (row.Cell column n s) (row.Cell other m t) rows middle after is h = omega arith
step case wedge place before (row.Cell column n s) (row.FineOut fine) rows middle after is h =
    let b = began (cast_rows case wedge (suc (suc place)) rows) (cast_row case wedge (suc place) (row.FineOut fine)) middle is in
    absurd (no_matrix case wedge place column n s middle after (at_end case wedge (suc place) fine b.0 middle b.2) h)

rises : (case : CaseValues) (wedge : WedgeValues) (place before : ℕ) (rows : List RibbonRow) (after : State) → cast_rows case wedge place rows ≡ Ok after → NeverFalls before rows
rises case wedge place before [] after h = tt
rises case wedge place before (first ∷ []) after h = tt
rises case wedge place before (first ∷ next ∷ rows) after h =
    let b = began (cast_rows case wedge (suc place) (next ∷ rows)) (cast_row case wedge place first) after h in
    (step case wedge place before first next rows b.0 after b.1 b.2, rises case wedge (suc place) (coarse_through before first) (next ∷ rows) b.0 b.1)

pub cast_rises : (case : CaseValues) (wedge : WedgeValues) (rows : List RibbonRow) (sent : List Line) → cast case wedge rows ≡ Ok sent → NeverFalls 0 rows
cast_rises case wedge rows sent h =
    let b = began (cast_rows case wedge 0 rows) (λ (state : State). finish state.line state.sent) sent h in
    rises case wedge 0 0 rows b.0 b.1
