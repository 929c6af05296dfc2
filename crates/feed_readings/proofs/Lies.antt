-- Each reading ends within the lists.
use Rattle.std.proofs.Common.{◌≡◌, ℕ, ◌+◌, ◌≤◌, Bool, true, false, List, [], ◌∷◌, length, All, refl, arith}
use Rattle.std.specs.Prelude.{Option, Some, None}
use Rattle.std.proofs.lemmas.List.Elements.{All-from_recursion}
use Rattle.desk_ops.proofs.Lists.{Each, Each-append}
use Rattle.feed_readings.specs.declared.reading.Point.{Point}
use Rattle.feed_readings.specs.declared.reading.Reading.{Reading}
use Rattle.feed_readings.specs.declared.reading.Shown.{Shown}
use Rattle.feed_readings.specs.Cuts.{cut_of, cuts, cuts_from, with_cut}
use Rattle.feed_readings.specs.Pieces.{LiesIn, behind, ends, is_open, pieces, pieces_from, start}
use Rattle.feed_readings.specs.Readings.{ended, of_row, open_readings, row_behind, rows}
use Rattle.feed_readings.proofs.Walked.{cut_lies, cut_stands}

module _ (P : Point → Type 0) where
  abbrev EndsIn : Reading → Type 0
  EndsIn r = P r.to

  abbrev RowEnds : Option Reading → Type 0
  RowEnds None = Unit {0}
  RowEnds (Some row) = P row.to

  row_written : (row : Option Reading) → RowEnds row → Each EndsIn (of_row row)
  row_written None h = tt
  row_written (Some row) h = (h, tt)

  row_ended : (row : Option Reading) (opens : Bool) → RowEnds row → Each EndsIn (ended row opens)
  row_ended row true h = tt
  row_ended row false h = row_written row h

  row_goes : (row : Option Reading) (p : Reading) (opens : Bool) → P p.to → RowEnds (row_behind row p opens)
  row_goes row p false h = tt
  row_goes None p true h = h
  row_goes (Some row) p true h = h

  rows_end : (test : Reading → Bool) (row : Option Reading) (ps : List Reading) → RowEnds row → Each EndsIn ps → Each EndsIn (rows test row ps)
  rows_end test row [] h each = row_written row h
  rows_end test row (p ∷ ps) h each =
      Each-append EndsIn (ended row (test p)) (rows test (row_behind row p (test p)) ps) (row_ended row (test p) h) (rows_end test (row_behind row p (test p)) ps (row_goes row p (test p) each.0) each.1)

  pieces_end : (from : Point) (points : List Point) (end : Point) → Each P points → P end → Each EndsIn (pieces_from from points end)
  pieces_end from [] end each h = (h, tt)
  pieces_end from (cut ∷ points) end each h = (each.0, pieces_end (behind cut) points end each.1 h)

module _ (base one other both : List Shown) where
  cuts_lie : (n : ℕ) (list : List Shown) → n + length list ≤ length both → Each (LiesIn base one other both) (cuts_from base one other n list)
  cuts_lie n [] le = tt
  cuts_lie n (x ∷ xs) le = by (cuts_lie (n + 1) xs (omega arith)) (cut_of base one other n x) refl
    where
      by : Each (LiesIn base one other both) (cuts_from base one other (n + 1) xs) → (o : Option Point) → cut_of base one other n x ≡ o → Each (LiesIn base one other both) (with_cut o (cuts_from base one other (n + 1) xs))
      by rest None e = rest
      by rest (Some cut) e = (cut_lies base one other both n cut (cut_stands base one other n x cut e) (omega (arith, le)), rest)

  ends_lie : LiesIn base one other both (ends base one other both)
  ends_lie = record { base_within = omega arith; one_within = omega arith; other_within = omega arith; both_within = omega arith }

  pub readings_lie : All (λ (r : Reading). LiesIn base one other both r.to) (open_readings base one other both)
  readings_lie =
      All-from_recursion (λ (r : Reading). LiesIn base one other both r.to) (open_readings base one other both)
      (rows_end (LiesIn base one other both) (is_open base one other both) None (pieces base one other both) tt
      (pieces_end (LiesIn base one other both) start (cuts base one other both) (ends base one other both) (cuts_lie 0 both (omega arith)) ends_lie))
