-- The line that a place is in, where places rise.
use Rattle.std.proofs.Common.{◌≡◌, ℕ, suc, ◌+◌, ◌≤◌, Bool, true, false, cond, List, [], ◌∷◌, length, drop, refl, ap, arith, length-drop, leb-true, le-leb}
use Rattle.std.specs.Prelude.{nat_le}
use Rattle.std.proofs.lemmas.List.{drop-drop}
use Rattle.view_punch.specs.Finding.{begun}

pub begun_within : (place : ℕ) (begins : List ℕ) → begun place begins ≤ length begins
begun_within place [] = omega arith
begun_within place (begin ∷ begins) = one (nat_le begin place) (begun_within place begins)
  where
    one : (b : Bool) → begun place begins ≤ length begins → cond b (suc (begun place begins)) 0 ≤ length (begin ∷ begins)
    one true le = omega (arith, le)
    one false le = omega arith

-- the lines that begin up to a place are those up to an earlier one, and then those behind that
pub begun_on : (low place : ℕ) (begins : List ℕ) → low ≤ place → begun place begins ≡ begun low begins + begun place (drop (begun low begins) begins)
begun_on low place [] le = refl
begun_on low place (begin ∷ begins) le = one (nat_le begin low) refl (begun_on low place begins le)
  where
    both : nat_le begin low ≡ true → nat_le begin place ≡ true
    both e = le-leb begin place (omega (arith, leb-true begin low e, le))

    one : (b : Bool) → nat_le begin low ≡ b → begun place begins ≡ begun low begins + begun place (drop (begun low begins) begins)
        → cond (nat_le begin place) (suc (begun place begins)) 0 ≡ cond b (suc (begun low begins)) 0 + begun place (drop (cond b (suc (begun low begins)) 0) (begin ∷ begins))
    one true e more = rw (both e) (omega (arith, more))
    one false e more = omega arith

-- of so many lines that begin up to a place, and those behind it
pub goes_on : (passed low place : ℕ) (begins : List ℕ) → passed ≤ length begins
    → ((q : ℕ) → low ≤ q → begun q begins ≡ passed + begun q (drop passed begins)) → low ≤ place
    → (passed + begun place (drop passed begins) ≤ length begins)
    × ((q : ℕ) → place + 1 ≤ q → begun q begins ≡ passed + begun place (drop passed begins) + begun q (drop (passed + begun place (drop passed begins)) begins))
goes_on passed low place begins within known le =
    (omega (arith, begun_within place (drop passed begins), length-drop passed begins, within), later)
  where
    later : (q : ℕ) → place + 1 ≤ q → begun q begins ≡ passed + begun place (drop passed begins) + begun q (drop (passed + begun place (drop passed begins)) begins)
    later q more =
        let r = begun place (drop passed begins) in
        let here = known q (omega (arith, le, more)) in
        let on = begun_on place q (drop passed begins) (omega (arith, more)) in
        let same : begun q (drop r (drop passed begins)) ≡ begun q (drop (passed + r) begins) = ap (begun q) (drop-drop r passed begins) in
        omega (arith, here, on, same)
