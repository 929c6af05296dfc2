-- The scan's place, by index.
use Rattle.std.proofs.Common.{◌≡◌, ℕ, zero, suc, ◌+◌, ◌<◌, ◌≤◌, true, false, List, [], ◌∷◌, map, length, get_or, refl, sym, ap, ◌∙◌, subst, inl, inr, arith}
use Rattle.std.specs.List.{insert}
use Rattle.desk_ops.specs.declared.op.Stamp.{Stamp}
use Rattle.desk_ops.specs.Op.{Insertion}
use Rattle.desk_ops.specs.Stamp.{same, before, head}
use Rattle.desk_ops.specs.Scan.{skip, after_parent, scan_insert}
use Rattle.desk_ops.specs.Place.{IsPlace, IsStart}
use Rattle.desk_ops.proofs.Stamps.{same-from}
use Rattle.desk_ops.proofs.Scans.{skip-stop, skip-on, after-hit, after-miss, place-hit, place-miss}

abbrev pub stamps : List Insertion → List Stamp
stamps w = map (λ (x : Insertion). x.stamp) w

pub skip-at : (e : Insertion) (w : List Insertion) (i : ℕ) → i ≤ length w → ((k : ℕ) → k < i → before (get_or (stamps w) k head) e.stamp ≡ false) → (i < length w → before (get_or (stamps w) i head) e.stamp ≡ true) → skip e w ≡ insert w i e
unfolding skip
skip-at e [] zero le over stop = refl
skip-at e [] (suc i) le over stop = absurd (omega arith)
skip-at e (y ∷ ys) zero le over stop = skip-stop e y ys (stop (omega arith))
skip-at e (y ∷ ys) (suc i) le over stop =
    skip-on e y ys (over 0 (omega arith)) ∙ ap (λ l. y ∷ l) (skip-at e ys i (omega arith) (λ k h. over (suc k) (omega arith)) (λ h. stop (omega arith)))

pub after-at : (e : Insertion) (w : List Insertion) (k i : ℕ) → k < length w → get_or (stamps w) k head ≡ e.parent → ((j : ℕ) → j < k → same (get_or (stamps w) j head) e.parent ≡ false)
    → k < i → i ≤ length w → ((j : ℕ) → k < j → j < i → before (get_or (stamps w) j head) e.stamp ≡ false) → (i < length w → before (get_or (stamps w) i head) e.stamp ≡ true) → after_parent e w ≡ insert w i e
unfolding after_parent
after-at e [] k i kl is none ki il over stop = absurd (omega arith)
after-at e (y ∷ ys) k zero kl is none ki il over stop = absurd (omega arith)
after-at e (y ∷ ys) zero (suc i) kl is none ki il over stop =
    after-hit e y ys (same-from y.stamp e.parent is) ∙ ap (λ l. y ∷ l) (skip-at e ys i (omega arith) (λ j h. over (suc j) (omega arith) (omega arith)) (λ h. stop (omega arith)))
after-at e (y ∷ ys) (suc k) (suc i) kl is none ki il over stop =
    after-miss e y ys (none 0 (omega arith)) ∙ ap (λ l. y ∷ l) (after-at e ys k i (omega arith) is (λ j h. none (suc j) (omega arith)) (omega arith) (omega arith) (λ j h g. over (suc j) (omega arith) (omega arith)) (λ h. stop (omega arith)))

length-stamps : (w : List Insertion) → length (stamps w) ≡ length w
length-stamps [] = refl
length-stamps (x ∷ w) = ap suc (length-stamps w)

-- the scan puts e at the place that the stamps say
pub scan-at : (e : Insertion) (w : List Insertion) (i : ℕ) → IsPlace (stamps w) e.parent e.stamp i → scan_insert e w ≡ insert w i e
scan-at e w i p = go p.starts
  where
    le : i ≤ length w
    le = subst (λ n. i ≤ n) (length-stamps w) p.within

    stop : i < length w → before (get_or (stamps w) i head) e.stamp ≡ true
    stop h = p.stops (subst (λ n. i < n) (sym (length-stamps w)) h)

    go : IsStart (stamps w) e.parent p.start → scan_insert e w ≡ insert w i e
    go (inl s) = place-hit head e w (same-from head e.parent (sym s.0)) ∙ skip-at e w i le (λ k h. p.skipped k (let z : p.start ≡ 0 = s.1 in omega arith) h) stop
    go (inr s) = place-miss head e w s.0
        ∙ after-at e w s.1 i (subst (λ n. s.1 < n) (length-stamps w) s.3) s.4 s.5
        (let z : p.start ≡ s.1 + 1 = s.2 in let q : p.start ≤ i = p.after in omega arith) le
        (λ j h g. p.skipped j (let z : p.start ≡ s.1 + 1 = s.2 in omega arith) g) stop
