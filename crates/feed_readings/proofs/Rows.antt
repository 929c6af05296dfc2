-- Each open piece is in a row, and no row has another.
use Rattle.std.proofs.Common.{◌≡◌, ◌∙◌, ℕ, ◌+◌, ◌≤◌, Bool, true, false, List, [], ◌∷◌, ◌++◌, length, refl, sym, ap, subst, inl, inr, ◌⊎◌, arith}
use Rattle.std.specs.Prelude.{Option, Some, None}
use Rattle.desk_ops.specs.Lists.{Among}
use Rattle.feed_readings.specs.declared.reading.Point.{Point}
use Rattle.feed_readings.specs.declared.reading.Reading.{Reading}
use Rattle.feed_readings.specs.declared.reading.Shown.{Shown}
use Rattle.feed_readings.specs.Cuts.{cut_of, cuts_from, with_cut}
use Rattle.feed_readings.specs.Pieces.{behind, ends, is_open, pieces, pieces_from, start}
use Rattle.feed_readings.specs.Readings.{ended, joined, open_readings, row_behind, rows}
use Rattle.feed_readings.specs.Laws.{AllElseIsSettled, IsReadIn, IsSettled}
use Rattle.feed_readings.proofs.Settling.{closed_settled}
use Rattle.feed_readings.proofs.Walked.{cut_stands}

-- pieces come one behind the other in the fourth list
abbrev ComeFrom : ℕ → List Reading → Type 0
ComeFrom low [] = Unit {0}
ComeFrom low (p ∷ ps) = (low ≤ p.from.both) × (p.from.both ≤ p.to.both) × ComeFrom p.to.both ps

pieces_come : (base one other : List Shown) (n low : ℕ) (list : List Shown) (from end : Point) → low ≤ from.both → from.both ≤ n → n + length list ≤ end.both → ComeFrom low (pieces_from from (cuts_from base one other n list) end)
pieces_come base one other n low [] from end a b c = (a, omega arith, tt)
pieces_come base one other n low (x ∷ xs) from end a b c =
    by (λ low from l m. pieces_come base one other (n + 1) low xs from end l m (omega arith)) (cut_of base one other n x) refl
  where
    by : ((low : ℕ) (from : Point) → low ≤ from.both → from.both ≤ n + 1 → ComeFrom low (pieces_from from (cuts_from base one other (n + 1) xs) end))
        → (o : Option Point) → cut_of base one other n x ≡ o → ComeFrom low (pieces_from from (with_cut o (cuts_from base one other (n + 1) xs)) end)
    by more None e = more low from a (omega arith)
    by more (Some cut) e =
        let place : cut.both ≡ n = (cut_stands base one other n x cut e).place in
        (a, omega arith, more cut.both (behind cut) (omega arith) (omega arith))

-- a reading with all that a row has
abbrev Holds : List Reading → Reading → Type 0
Holds readings row = (reading : Reading) × Among reading readings × (reading.from.both ≤ row.from.both) × (row.to.both ≤ reading.to.both)

behind_ended : (ends rest : List Reading) (r : Reading) → Among r rest → Among r (ends ++ rest)
behind_ended [] rest r m = m
behind_ended (e ∷ ends) rest r m = inr (behind_ended ends rest r m)

row_kept : (test : Reading → Bool) (row : Reading) (ps : List Reading) → ComeFrom row.to.both ps → Holds (rows test (Some row) ps) row
row_kept test row [] h = (row, inl refl, omega arith, omega arith)
row_kept test row (p ∷ ps) h =
    let next : Reading = record { from = row.from; to = p.to } in
    by (row_kept test next ps h.2) (test p)
  where
    by : Holds (rows test (Some (record { from = row.from; to = p.to })) ps) (record { from = row.from; to = p.to }) → (b : Bool) → Holds (ended (Some row) b ++ rows test (row_behind (Some row) p b) ps) row
    by more true = (more.0, more.1, more.2, omega (arith, h.0, h.1, more.3))
    by more false = (row, inl refl, omega arith, omega arith)

-- a row that has begun does so before a place
abbrev BeginsBefore : ℕ → Option Reading → Type 0
BeginsBefore low None = Unit {0}
BeginsBefore low (Some row) = row.from.both ≤ low

join_begins : (low : ℕ) (row : Option Reading) (p : Reading) → BeginsBefore low row → low ≤ p.from.both → (joined row p).from.both ≤ p.from.both
join_begins low None p b le = omega arith
join_begins low (Some row) p b le = omega arith

row_begins : (low : ℕ) (row : Option Reading) (p : Reading) (opens : Bool) → BeginsBefore low row → low ≤ p.from.both → p.from.both ≤ p.to.both → BeginsBefore p.to.both (row_behind row p opens)
row_begins low row p false b le rises = tt
row_begins low row p true b le rises = omega (arith, join_begins low row p b le)

joined_ends : (row : Option Reading) (p : Reading) → (joined row p).to ≡ p.to
joined_ends None p = refl
joined_ends (Some row) p = refl

pub read_or_closed : (test : Reading → Bool) (low : ℕ) (row : Option Reading) (ps : List Reading) (piece : Reading) → ComeFrom low ps → BeginsBefore low row → Among piece ps → IsReadIn (rows test row ps) piece ⊎ (test piece ≡ false)
read_or_closed test low row [] piece h b m = absurd m
read_or_closed test low row (p ∷ ps) piece h b (inl e) = by (test p) refl
  where
    kept : Holds (rows test (Some (joined row p)) ps) (joined row p)
    kept = row_kept test (joined row p) ps (subst (λ (q : Point). ComeFrom q.both ps) (sym (joined_ends row p)) h.2)

    begins : (joined row p).from.both ≤ p.from.both
    begins = join_begins low row p b h.0

    reaches : (joined row p).to.both ≡ p.to.both
    reaches = ap (λ (q : Point). q.both) (joined_ends row p)

    by : (t : Bool) → test p ≡ t → IsReadIn (ended row t ++ rows test (row_behind row p t) ps) piece ⊎ (test piece ≡ false)
    by true is = inl (subst (IsReadIn (rows test (Some (joined row p)) ps)) e (kept.0, kept.1, omega (arith, kept.2, begins), omega (arith, kept.3, reaches)))
    by false is = inr (ap test (sym e) ∙ is)
read_or_closed test low row (p ∷ ps) piece h b (inr m) =
    wider (read_or_closed test p.to.both (row_behind row p (test p)) ps piece h.2 (row_begins low row p (test p) b h.0 h.1) m)
  where
    wider : IsReadIn (rows test (row_behind row p (test p)) ps) piece ⊎ (test piece ≡ false) → IsReadIn (ended row (test p) ++ rows test (row_behind row p (test p)) ps) piece ⊎ (test piece ≡ false)
    wider (inl r) = inl (r.0, behind_ended (ended row (test p)) (rows test (row_behind row p (test p)) ps) r.0 r.1, r.2, r.3)
    wider (inr closed) = inr closed

pub all_else : AllElseIsSettled
all_else base one other both piece m =
    settled (read_or_closed (is_open base one other both) 0 None (pieces base one other both) piece (pieces_come base one other 0 0 both start (ends base one other both) (omega arith) (omega arith) (omega arith)) tt m)
  where
    settled : IsReadIn (open_readings base one other both) piece ⊎ (is_open base one other both piece ≡ false) → IsReadIn (open_readings base one other both) piece ⊎ IsSettled base one other both piece
    settled (inl r) = inl r
    settled (inr e) = inr (closed_settled base one other both piece e)
