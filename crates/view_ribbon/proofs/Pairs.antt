-- A step over the lines of two ribbons.
use Rattle.std.proofs.Common.{◌≡◌, ◌∙◌, ℕ, ◌+◌, ◌-◌, ◌<◌, ◌≤◌, List, [], ◌∷◌, ◌++◌, ap, append_assoc, arith, drop, get_or, length, take}
use Rattle.std.proofs.lemmas.List.{take_all}
use Rattle.desk_caster.specs.Caster.{Line}
use Rattle.view_ribbon.specs.declared.differences.Scale.{Scale}
use Rattle.view_ribbon.specs.Differences.{differences_from, one_text, other_text, pair_text}

-- what is written behind a text and then a rest is written behind both
written : (out after fin text rest left : List ℕ) → after ≡ out ++ text → left ≡ rest → out ++ (text ++ rest) ≡ fin → after ++ left ≡ fin
written out after fin text rest left wrote same is = ap (λ l. l ++ left) wrote ∙ (append_assoc out text left ∙ (ap (λ l. out ++ (text ++ l)) same ∙ is))

-- what is behind the first line
rest_of : (x : Line) (lines : List Line) → take (length (x ∷ lines) - 1) lines ≡ lines
rest_of x lines = take_all (length (x ∷ lines) - 1) lines (omega arith)

-- the second ribbon alone has a line
pub other_step : (scale : Scale) (before : ℕ) (ones rest : List Line) (b : Line) (out after fin : List ℕ) → length ones < 1 → 1 ≤ length rest → b ≡ get_or rest 0 b → after ≡ out ++ other_text scale (before + 1) b
    → out ++ differences_from scale before ones rest ≡ fin → after ++ differences_from scale (before + 1) ones (take (length rest - 1) (drop 1 rest)) ≡ fin
other_step scale before (x ∷ ones) rest b out after fin none some is wrote so_far = absurd (omega arith)
other_step scale before [] [] b out after fin none some is wrote so_far = absurd (omega arith)
other_step scale before [] (y ∷ rest) b out after fin none some is wrote so_far =
    written out after fin (other_text scale (before + 1) y) (differences_from scale (before + 1) [] rest) (differences_from scale (before + 1) [] (take (length (y ∷ rest) - 1) rest)) (wrote ∙ ap (λ (l : Line). out ++ other_text scale (before + 1) l) is)
    (ap (differences_from scale (before + 1) []) (rest_of y rest)) so_far

-- the first alone has one
pub one_step : (scale : Scale) (before : ℕ) (ones rest : List Line) (a : Line) (out after fin : List ℕ) → 1 ≤ length ones → length rest < 1 → a ≡ get_or ones 0 a → after ≡ out ++ one_text scale (before + 1) a
    → out ++ differences_from scale before ones rest ≡ fin → after ++ differences_from scale (before + 1) (take (length ones - 1) (drop 1 ones)) rest ≡ fin
one_step scale before [] rest a out after fin some none is wrote so_far = absurd (omega arith)
one_step scale before (x ∷ ones) (y ∷ rest) a out after fin some none is wrote so_far = absurd (omega arith)
one_step scale before (x ∷ ones) [] a out after fin some none is wrote so_far =
    written out after fin (one_text scale (before + 1) x) (differences_from scale (before + 1) ones []) (differences_from scale (before + 1) (take (length (x ∷ ones) - 1) ones) []) (wrote ∙ ap (λ (l : Line). out ++ one_text scale (before + 1) l) is)
    (ap (λ ls. differences_from scale (before + 1) ls []) (rest_of x ones)) so_far

-- both have one
pub pair_step : (scale : Scale) (before : ℕ) (ones rest : List Line) (a b : Line) (out after fin : List ℕ) → 1 ≤ length ones → 1 ≤ length rest → a ≡ get_or ones 0 a → b ≡ get_or rest 0 b → after ≡ out ++ pair_text scale (before + 1) a b
    → out ++ differences_from scale before ones rest ≡ fin → after ++ differences_from scale (before + 1) (take (length ones - 1) (drop 1 ones)) (take (length rest - 1) (drop 1 rest)) ≡ fin
pair_step scale before [] rest a b out after fin some_one some_other is_one is_other wrote so_far = absurd (omega arith)
pair_step scale before (x ∷ ones) [] a b out after fin some_one some_other is_one is_other wrote so_far = absurd (omega arith)
pair_step scale before (x ∷ ones) (y ∷ rest) a b out after fin some_one some_other is_one is_other wrote so_far =
    written out after fin (pair_text scale (before + 1) x y) (differences_from scale (before + 1) ones rest) (differences_from scale (before + 1) (take (length (x ∷ ones) - 1) ones) (take (length (y ∷ rest) - 1) rest))
    (wrote ∙ (ap (λ (l : Line). out ++ pair_text scale (before + 1) l b) is_one ∙ ap (λ (l : Line). out ++ pair_text scale (before + 1) x l) is_other))
    (ap (λ ls. differences_from scale (before + 1) ls (take (length (y ∷ rest) - 1) rest)) (rest_of x ones) ∙ ap (differences_from scale (before + 1) ones) (rest_of y rest)) so_far
