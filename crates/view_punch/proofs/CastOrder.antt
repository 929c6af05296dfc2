-- The rows of two ribbons, one after the other, cast the lines of both.
use Rattle.std.proofs.Common.{◌≡◌, ℕ, suc, Bool, true, false, List, [], ◌∷◌, ◌++◌, refl, sym, ap, subst, ◌∙◌, inl, inr}
use Rattle.std.specs.Prelude.{Option, Some, None, Result, Ok, Err}
use Rattle.std.proofs.lemmas.List.{append-nil}
use Rattle.desk_wedge.specs.Wedge.{WedgeValues}
use Rattle.desk_case.specs.Case.{CaseValues}
use Rattle.desk_signals.specs.declared.Cell.{Cell}
use Rattle.desk_signals.specs.declared.RibbonRow.{RibbonRow}
use Rattle.desk_signals.specs.declared.RibbonRow.TheVariants as row
use Rattle.desk_caster.specs.declared.CastFault.{CastFault}
use Rattle.desk_caster.specs.declared.CastMatrix.{CastMatrix}
use Rattle.desk_caster.specs.Caster.{Begun, Line, State, all_sent, cast, cast_matrix, cast_onto, cast_row, cast_rows, finish, has_matrix, idle, sent_out, start_line, ◌>>=◌}
use Rattle.desk_ops.proofs.Stamps.{by_cases}
use Rattle.view_punch.specs.Laws.{AreCastInOrder}

-- the same line is in progress, wherever it started
abbrev SameLine : Option Begun → Option Begun → Type 0
SameLine None None = Unit {0}
SameLine None (Some y) = ⊥
SameLine (Some x) None = ⊥
SameLine (Some x) (Some y) = (y.coarse ≡ x.coarse) × (y.fine ≡ x.fine) × (y.matrices ≡ x.matrices)

-- the fine wedge has the same position; or none in the first caster, and there no line is in progress
abbrev SameFine : Option ℕ → Option Begun → Option ℕ → Type 0
SameFine None None other = Unit {0}
SameFine None (Some x) other = ⊥
SameFine (Some f) line other = other ≡ Some f

-- the second caster is as the first, but that it sent out these lines before
record IsAhead (n : List Line) (s t : State) : Type 0 where
  sent : t.sent ≡ s.sent ++ n
  line : SameLine s.line t.line
  fine : SameFine s.fine s.line t.fine

-- where the first goes on, the second does
abbrev GoesOn : List Line → Result State CastFault → Result State CastFault → Type 0
GoesOn n (Ok s) (Ok t) = IsAhead n s t
GoesOn n (Ok s) (Err e) = ⊥
GoesOn n (Err d) r = Unit {0}

bind : (n : List Line) (r q : Result State CastFault) (f g : State → Result State CastFault) → GoesOn n r q → ((s t : State) → IsAhead n s t → GoesOn n (f s) (g t)) → GoesOn n (r >>= f) (q >>= g)
bind n (Err d) q f g on step = tt
bind n (Ok s) (Err e) f g on step = absurd on
bind n (Ok s) (Ok t) f g on step = step s t on

same_out : (x y : Begun) → SameLine (Some x) (Some y) → sent_out y ≡ sent_out x
same_out x y same = let a = same.0 in let b = same.1 in let c = same.2 in rw (a, b, c) refl

sent_ahead : (n sent after : List Line) (line other : Option Begun) → after ≡ sent ++ n → SameLine line other → all_sent other after ≡ all_sent line sent ++ n
sent_ahead n sent after None None is same = is
sent_ahead n sent after None (Some y) is same = absurd same
sent_ahead n sent after (Some x) None is same = absurd same
sent_ahead n sent after (Some x) (Some y) is same = rw (same_out x y same, is) refl

out_goes : (n : List Line) (f : ℕ) (s t : State) → IsAhead n s t → IsAhead n (record { fine = Some f; line = None; sent = all_sent s.line s.sent }) (record { fine = Some f; line = None; sent = all_sent t.line t.sent })
out_goes n f s t on = record { sent = sent_ahead n s.sent t.sent s.line t.line on.sent on.line; line = tt; fine = refl }

some_same : (a b : ℕ) → Some a ≡ Some b → a ≡ b
some_same a b e = cc

none_some : (a : ℕ) → None ≡ Some a → ⊥
none_some a e = cc

coarse_goes : (n : List Line) (p q c : ℕ) (fine other : Option ℕ) (line another : Option Begun) (sent after : List Line) → after ≡ sent ++ n → SameLine line another → SameFine fine line other
    → GoesOn n (start_line p c fine line sent) (start_line q c other another after)
coarse_goes n p q c None other line another sent after is same wedge = tt
coarse_goes n p q c (Some f) other (Some x) another sent after is same wedge = tt
coarse_goes n p q c (Some f) other None (Some y) sent after is same wedge = absurd same
coarse_goes n p q c (Some f) None None None sent after is same wedge = absurd (none_some f wedge)
coarse_goes n p q c (Some f) (Some g) None None sent after is same wedge = record { sent = is; line = (refl, some_same g f wedge, refl); fine = wedge }

still_fine : (fine other : Option ℕ) (x y : Begun) → SameFine fine (Some x) other → SameFine fine (Some y) other
still_fine None other x y wedge = absurd wedge
still_fine (Some f) other x y wedge = wedge

cell_goes : (case : CaseValues) (wedge : WedgeValues) (n : List Line) (p q : ℕ) (cell : Cell) (s : Bool) (fine other : Option ℕ) (line another : Option Begun) (sent after : List Line)
    → after ≡ sent ++ n → SameLine line another → SameFine fine line other → GoesOn n (cast_onto case wedge p cell s fine line sent) (cast_onto case wedge q cell s other another after)
cell_goes case wedge n p q cell s fine other None another sent after is same wedges = tt
cell_goes case wedge n p q cell s fine other (Some x) None sent after is same wedges = absurd same
cell_goes case wedge n p q cell s fine other (Some x) (Some y) sent after is same wedges =
    by_cases (has_matrix case cell)
    (λ h. rw h (record {
      sent = is;
      line = (same.0, same.1, let a = same.0 in let b = same.1 in let c = same.2 in rw (a, b, c) refl);
      fine = still_fine fine other x _ wedges;
    }))
    (λ h. rw h tt)

row_goes : (case : CaseValues) (wedge : WedgeValues) (n : List Line) (p q : ℕ) (r : RibbonRow) (s t : State) → IsAhead n s t → GoesOn n (cast_row case wedge p r s) (cast_row case wedge q r t)
row_goes case wedge n p q (row.FineOut f) s t on = out_goes n f s t on
row_goes case wedge n p q (row.Coarse c) s t on = coarse_goes n p q c s.fine t.fine s.line t.line s.sent t.sent on.sent on.line on.fine
row_goes case wedge n p q (row.Cell column m b) s t on = cell_goes case wedge n p q (record { column = column; row = m }) b s.fine t.fine s.line t.line s.sent t.sent on.sent on.line on.fine

rows_go : (case : CaseValues) (wedge : WedgeValues) (n : List Line) (tail : List RibbonRow) → ((q : ℕ) → GoesOn n (Ok idle) (cast_rows case wedge q tail))
    → (p q : ℕ) (rows : List RibbonRow) → GoesOn n (cast_rows case wedge p rows) (cast_rows case wedge q (rows ++ tail))
rows_go case wedge n tail base p q [] = base q
rows_go case wedge n tail base p q (r ∷ rows) =
    bind n (cast_rows case wedge (suc p) rows) (cast_rows case wedge (suc q) (rows ++ tail)) (cast_row case wedge p r) (cast_row case wedge q r)
    (rows_go case wedge n tail base (suc p) (suc q) rows) (row_goes case wedge n p q r)

-- the lines that were sent out at the end, where no line is in progress
record IsDone (r : Result State CastFault) (m : List Line) : Type 0 where
  state : State
  is : r ≡ Ok state
  line : state.line ≡ None
  sent : state.sent ≡ m

ended : (line : Option Begun) (sent m : List Line) → finish line sent ≡ Ok m → (line ≡ None) × (sent ≡ m)
ended None sent m e = (refl, cc)
ended (Some x) sent m e = cc

done : (r : Result State CastFault) (m : List Line) → (r >>= (λ state. finish state.line state.sent)) ≡ Ok m → IsDone r m
done (Err e) m h = cc
done (Ok state) m h = let both = ended state.line state.sent m h in record { state = state; is = refl; line = both.0; sent = both.1 }

no_line : (line other : Option Begun) → line ≡ None → SameLine line other → other ≡ None
no_line None None e same = refl
no_line None (Some y) e same = absurd same
no_line (Some x) other e same = cc

none_in : (line : Option Begun) → line ≡ None → SameLine None line
none_in None e = tt
none_in (Some x) e = cc

from_idle : (n : List Line) (s : State) (r : Result State CastFault) → GoesOn [] (Ok s) r → s.line ≡ None → s.sent ≡ n → GoesOn n (Ok idle) r
from_idle n s (Err e) on none sent = absurd on
from_idle n s (Ok t) on none sent = record {
  sent = on.sent ∙ (append-nil s.sent ∙ sent);
  line = none_in t.line (no_line s.line t.line none on.line);
  fine = tt;
}

no_lines_before : (n : List Line) → IsAhead [] idle idle
no_lines_before n = record { sent = refl; line = tt; fine = tt }

-- wherever its rows stand, a ribbon is cast so
anywhere : (case : CaseValues) (wedge : WedgeValues) (b : List RibbonRow) (n : List Line) → cast case wedge b ≡ Ok n → (q : ℕ) → GoesOn n (Ok idle) (cast_rows case wedge q b)
anywhere case wedge b n h q =
    let end = done (cast_rows case wedge 0 b) n h in
    let on = subst (λ (l : List RibbonRow). GoesOn [] (cast_rows case wedge 0 b) (cast_rows case wedge q l)) (append-nil b) (rows_go case wedge [] [] (λ k. no_lines_before n) 0 q b) in
    from_idle n end.state (cast_rows case wedge q b) (subst (λ (r : Result State CastFault). GoesOn [] r (cast_rows case wedge q b)) end.is on) end.line end.sent

sent_all : (m n : List Line) (s : State) (r : Result State CastFault) → GoesOn n (Ok s) r → s.line ≡ None → s.sent ≡ m → (r >>= (λ state. finish state.line state.sent)) ≡ Ok (m ++ n)
sent_all m n s (Err e) on none sent = absurd on
sent_all m n s (Ok t) on none sent =
    let free = no_line s.line t.line none on.line in
    let all : t.sent ≡ m ++ n = on.sent ∙ ap (λ (l : List Line). l ++ n) sent in
    ap (λ (l : Option Begun). finish l t.sent) free ∙ ap Ok all

pub cast_in_order : AreCastInOrder
cast_in_order case wedge a b m n first second =
    let end = done (cast_rows case wedge 0 a) m first in
    let on = rows_go case wedge n b (anywhere case wedge b n second) 0 0 a in
    sent_all m n end.state (cast_rows case wedge 0 (a ++ b)) (subst (λ (r : Result State CastFault). GoesOn n r (cast_rows case wedge 0 (a ++ b))) end.is on) end.line end.sent
