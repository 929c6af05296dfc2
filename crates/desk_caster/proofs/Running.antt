-- The caster after some of the rows, the last first.
use Rattle.std.proofs.Common.{◌≡◌, ℕ, zero, suc, ◌+◌, ◌<◌, ◌≤◌, Bool, List, [], ◌∷◌, true, length, drop, get_or, sym, ap, subst, ◌∙◌, arith, drop-cons}
use Rattle.std.specs.Prelude.{Option, Some, None, Result, Ok, Err}
use Rattle.desk_wedge.specs.Wedge.{WedgeValues}
use Rattle.desk_case.specs.Case.{CaseValues}
use Rattle.desk_signals.specs.declared.RibbonRow.{RibbonRow}
use Rattle.desk_signals.specs.declared.RibbonRow.TheVariants as row
use Rattle.desk_caster.specs.declared.CastFault.{CastFault}
use Rattle.desk_caster.specs.Caster.{State, Begun, Line, cast, finish, cast_row, cast_rows, cast_onto, start_line, has_matrix, ◌>>=◌}
use Rattle.desk_signals.specs.declared.Cell.{Cell}
use Rattle.desk_ops.proofs.Stamps.{by_cases}
use Rattle.desk_caster.specs.Bounds.{in_progress, in_line}
use Rattle.desk_caster.specs.Memory.{MayTakeMemory, takes_memory}

-- the caster has read the rows from a place on
pub record IsCast (case : CaseValues) (wedge : WedgeValues) (rows : List RibbonRow) (place : ℕ) (state : State) : Type 0 where
  pub within : place ≤ length rows
  pub cast : cast_rows case wedge place (drop place rows) ≡ Ok state
  pub line : in_progress state + place ≤ length rows

-- what the caster does at the row before
pub next : (case : CaseValues) (wedge : WedgeValues) (rows : List RibbonRow) (q k : ℕ) (r : RibbonRow) (state : State) → q ≡ suc k → k < length rows → r ≡ get_or rows k r →
    cast_rows case wedge q (drop q rows) ≡ Ok state → cast_rows case wedge k (drop k rows) ≡ cast_row case wedge k r state
next case wedge rows q k r state at lt is e =
    let f : cast_rows case wedge (suc k) (drop (suc k) rows) ≡ Ok state = subst (λ n. cast_rows case wedge n (drop n rows) ≡ Ok state) at e in
    let g : cast_rows case wedge k (drop k rows) ≡ cast_row case wedge k (get_or rows k r) state =
    ap (cast_rows case wedge k) (drop-cons rows k r lt) ∙ ap (λ x. x >>= cast_row case wedge k (get_or rows k r)) f in
    g ∙ ap (λ x. cast_row case wedge k x state) (sym is)

-- a fault goes outward
pub outward : (case : CaseValues) (wedge : WedgeValues) (p q i : ℕ) (rows : List RibbonRow) (e : CastFault) → q ≡ p + i →
    cast_rows case wedge q (drop i rows) ≡ Err e → cast_rows case wedge p rows ≡ Err e
outward case wedge p q zero rows e at h = let same : q ≡ p = omega arith in subst (λ n. cast_rows case wedge n rows ≡ Err e) same h
outward case wedge p q (suc i) [] e at h = cc
outward case wedge p q (suc i) (r ∷ rows) e at h =
    let same : q ≡ suc p + i = omega arith in
    ap (λ x. x >>= cast_row case wedge p r) (outward case wedge (suc p) q i rows e same h)

-- how many matrices are on the line in progress, or none after a fault
reached : Result State CastFault → ℕ
reached (Ok state) = in_progress state
reached (Err e) = 0

start_reaches : (place coarse : ℕ) (fine : Option ℕ) (line : Option Begun) (sent : List Line) → reached (start_line place coarse fine line sent) ≤ suc (in_line line)
unfolding reached
start_reaches place coarse None line sent = omega arith
start_reaches place coarse (Some fine) (Some line) sent = omega arith
start_reaches place coarse (Some fine) None sent = omega arith

onto_reaches : (case : CaseValues) (wedge : WedgeValues) (place : ℕ) (cell : Cell) (s : Bool) (fine : Option ℕ) (line : Option Begun) (sent : List Line) →
    reached (cast_onto case wedge place cell s fine line sent) ≤ suc (in_line line)
unfolding reached
onto_reaches case wedge place cell s fine None sent = omega arith
onto_reaches case wedge place cell s fine (Some line) sent =
    by_cases (has_matrix case cell)
    (λ h. rw h (omega arith))
    (λ h. rw h (omega arith))

row_reaches : (case : CaseValues) (wedge : WedgeValues) (place : ℕ) (r : RibbonRow) (state : State) → reached (cast_row case wedge place r state) ≤ suc (in_progress state)
unfolding reached
row_reaches case wedge place (row.FineOut f) state = omega arith
row_reaches case wedge place (row.Coarse c) state = start_reaches place c state.fine state.line state.sent
row_reaches case wedge place (row.Cell column n s) state = onto_reaches case wedge place (record { column = column; row = n }) s state.fine state.line state.sent

-- no row casts more than one matrix
grows_by_one : (case : CaseValues) (wedge : WedgeValues) (place : ℕ) (r : RibbonRow) (state after : State) →
    cast_row case wedge place r state ≡ Ok after → in_progress after ≤ suc (in_progress state)
unfolding reached
grows_by_one case wedge place r state after h = subst (λ x. reached x ≤ suc (in_progress state)) h (row_reaches case wedge place r state)

-- the caster goes on
pub kept : (case : CaseValues) (wedge : WedgeValues) (rows : List RibbonRow) (q k : ℕ) (r : RibbonRow) (state after : State) → IsCast case wedge rows q state → q ≡ suc k → r ≡ get_or rows k r →
    cast_row case wedge k r state ≡ Ok after → IsCast case wedge rows k after
kept case wedge rows q k r state after before at is h =
    let low = before.within in let line = before.line in let more = grows_by_one case wedge k r state after h in
    record {
      within = omega arith;
      cast = next case wedge rows q k r state at (omega arith) is before.cast ∙ h;
      line = omega arith;
    }

-- the caster stops
pub stopped : (case : CaseValues) (wedge : WedgeValues) (rows : List RibbonRow) (q k : ℕ) (r : RibbonRow) (state : State) (e : CastFault) → IsCast case wedge rows q state → q ≡ suc k → r ≡ get_or rows k r →
    cast_row case wedge k r state ≡ Err e → cast case wedge rows ≡ Err e
stopped case wedge rows q k r state e before at is h =
    let low = before.within in
    ap (λ x. x >>= (λ s. finish s.line s.sent)) (outward case wedge 0 k k rows e (omega arith) (next case wedge rows q k r state at (omega arith) is before.cast ∙ h))

-- a fault that was given on
reported_fault : {V : Type 0} (result : Result V CastFault) (e given wanted : CastFault) → result ≡ Err e → e ≡ given → result ≡ Err wanted → given ≡ wanted
reported_fault result e given wanted failed same is = let f : Err e ≡ Err wanted = sym failed ∙ is in cc

-- the caster came to a row at which it takes memory
pub grows : {V : Type 0} (case : CaseValues) (wedge : WedgeValues) (rows : List RibbonRow) (q k : ℕ) (r : RibbonRow) (state : State) (result : Result V CastFault) (e given wanted : CastFault) →
    IsCast case wedge rows q state → q ≡ suc k → r ≡ get_or rows k r → (given ≡ wanted → takes_memory case r state.line ≡ true) →
    result ≡ Err e → e ≡ given → result ≡ Err wanted → MayTakeMemory case wedge rows
grows case wedge rows q k r state result e given wanted before at is takes failed same reported =
    let low = before.within in
    record {
      place = k;
      row = r;
      read = drop (suc k) rows;
      there = drop-cons rows k r (omega arith) ∙ ap (λ x. x ∷ drop (suc k) rows) (sym is);
      state = state;
      reached = subst (λ n. cast_rows case wedge n (drop n rows) ≡ Ok state) at before.cast;
      takes = takes (reported_fault result e given wanted failed same reported);
    }
