-- What the first entries of a frame are after entries moved in it.
use Rattle.std.proofs.Common.{◌≡◌, ℕ, suc, ◌+◌, ◌-◌, ◌<◌, ◌≤◌, List, ◌∷◌, ◌++◌, length, take, drop, set, sym, ap, ◌∙◌, arith, length-take, length-drop, length-append, append_assoc}
use Rattle.std.specs.List.{insert, remove, copy_within}
use Rattle.std.proofs.Math.Seq.{take-append-add, set_split}
use Rattle.std.proofs.lemmas.List.{take-take, take_at, drop_at, drop-take, drop-drop}
use Rattle.std.proofs.lemmas.List.Edits.{take-paste, length-paste}

-- what is left of the first n + m behind the first n
back-is : {X : Type 0} (xs : List X) (n m all : ℕ) → n + m ≡ all → take m (drop n xs) ≡ drop n (take all xs)
back-is xs n m all e = sym (drop-take n m xs) ∙ ap (λ (k : ℕ). drop n (take k xs)) e

pub removed : {X : Type 0} (xs ys : List X) (n j : ℕ) → j < n → n ≤ length xs → ys ≡ copy_within xs (suc j) n j → take (n - 1) ys ≡ remove (take n xs) j
removed xs ys n j w l e =
    let m = n - suc j in
    let at : n - 1 ≡ j + m = omega arith in
    let long : m ≤ length (drop (suc j) xs) = simp length-drop (omega arith) in
    ap (λ (i : ℕ). take i ys) at ∙ ap (λ (z : List _). take (j + m) z) e ∙ take-paste xs j (drop (suc j) xs) m (omega arith) long
    ∙ (λ i. sym (take-take j n xs (omega arith)) i ++ back-is xs (suc j) m n (omega arith) i)

-- the first suc (j + m), with another in the j-th place
set-inside : {X : Type 0} (ys : List X) (j m : ℕ) (x : X) → suc j + m ≤ length ys → take (j + suc m) (set ys j x) ≡ take j ys ++ x ∷ take m (drop (suc j) ys)
set-inside ys j m x l =
    let n : length (take j ys) ≡ j = omega (arith, length-take j ys) in
    ap (λ (z : List _). take (j + suc m) z) (set_split ys j x (omega arith))
    ∙ ap (λ (i : ℕ). take (i + suc m) (take j ys ++ x ∷ drop (suc j) ys)) (sym n)
    ∙ take-append-add (take j ys) (x ∷ drop (suc j) ys) (suc m)

pub inserted : {X : Type 0} (xs ys : List X) (n j : ℕ) (x : X) → j ≤ n → n < length xs → ys ≡ copy_within xs j n (suc j) → take (suc n) (set ys j x) ≡ insert (take n xs) j x
inserted xs ys n j x w l e =
    let m = n - j in
    let a = take (suc j) xs in
    let b = take m (drop j xs) in
    let long : m ≤ length (drop j xs) = simp length-drop (omega arith) in
    let front : length a ≡ suc j = omega (arith, length-take (suc j) xs) in
    let all : take (suc j + m) ys ≡ a ++ b = ap (λ (z : List _). take (suc j + m) z) e ∙ take-paste xs (suc j) (drop j xs) m (omega arith) long in
    let size : length ys ≡ length xs = ap length e ∙ length-paste xs (suc j) (drop j xs) m (omega arith) long in
    let at : suc n ≡ j + suc m = omega arith in
    let first : take j ys ≡ take j (take n xs) =
    sym (take-take j (suc j) ys (omega arith)) ∙ ap (λ (z : List _). take j z) (sym (take-take (suc j) (suc j + m) ys (omega arith)) ∙ ap (λ (z : List _). take (suc j) z) all ∙ take_at a b (suc j) front)
    ∙ take-take j (suc j) xs (omega arith) ∙ sym (take-take j n xs w) in
    let rest : take m (drop (suc j) ys) ≡ drop j (take n xs) = sym (drop-take (suc j) m ys) ∙ ap (λ (z : List _). drop (suc j) z) all ∙ drop_at a b (suc j) front ∙ back-is xs j m n (omega arith) in
    ap (λ (i : ℕ). take i (set ys j x)) at ∙ set-inside ys j m x (omega arith) ∙ (λ i. first i ++ x ∷ rest i)

-- the same, where those before it moved by one place to the right
pub removed-left : {X : Type 0} (xs ys : List X) (n j : ℕ) → j < n → n ≤ length xs → ys ≡ copy_within xs 0 j 1 → take (n - 1) (drop 1 ys) ≡ remove (take n xs) j
removed-left xs ys n j w l e =
    let m = n - suc j in
    let a = take 1 xs in
    let b = take j xs in
    let at : n - 1 ≡ j + m = omega arith in
    let one : length a ≡ 1 = omega (arith, length-take 1 xs) in
    let long : length b ≡ j = omega (arith, length-take j xs) in
    let most : j - 0 ≡ j = omega arith in
    let from : 1 + (j - 0) ≡ suc j = omega arith in
    let behind : drop 1 ys ≡ b ++ drop (suc j) xs = ap (λ (z : List _). drop 1 z) (e ∙ (λ i. (a ++ take (most i) xs) ++ drop (from i) xs) ∙ append_assoc a b (drop (suc j) xs)) ∙ drop_at a (b ++ drop (suc j) xs) 1 one in
    ap (λ (i : ℕ). take i (drop 1 ys)) at ∙ ap (λ (z : List _). take (j + m) z) behind
    ∙ ap (λ (i : ℕ). take (i + m) (b ++ drop (suc j) xs)) (sym long) ∙ take-append-add b (drop (suc j) xs) m
    ∙ (λ i. sym (take-take j n xs (omega arith)) i ++ back-is xs (suc j) m n (omega arith) i)

-- those before it moved by one place to the left
pub inserted-left : {X : Type 0} (xs ys : List X) (n j : ℕ) (x : X) → j ≤ n → n < length xs → ys ≡ copy_within xs 1 (suc j) 0 → take (suc n) (set ys j x) ≡ insert (take n (drop 1 xs)) j x
inserted-left xs ys n j x w l e =
    let m = n - j in
    let a = take j (drop 1 xs) in
    let size : length a ≡ j = let b = length-take j (drop 1 xs) in let c = length-drop 1 xs in omega arith in
    let next : j + 1 ≡ 1 + j = omega arith in
    let up : suc j ≡ j + 1 = omega arith in
    let most : suc j - 1 ≡ j = omega arith in
    let from : 0 + (suc j - 1) ≡ j = omega arith in
    let whole : ys ≡ a ++ drop j xs = e ∙ (λ i. take (most i) (drop 1 xs) ++ drop (from i) xs) in
    let long : length ys ≡ length xs = let b = ap length whole in let c = length-append a (drop j xs) in let d = length-drop j xs in omega arith in
    let first : take j ys ≡ take j (take n (drop 1 xs)) = ap (λ (z : List _). take j z) whole ∙ take_at a (drop j xs) j size ∙ sym (take-take j n (drop 1 xs) w) in
    let rest : take m (drop (suc j) ys) ≡ drop j (take n (drop 1 xs)) =
    ap (λ (z : List _). take m z) (ap (λ (k : ℕ). drop k ys) up ∙ sym (drop-drop 1 j ys) ∙ ap (λ (z : List _). drop 1 z) (ap (λ (z : List _). drop j z) whole ∙ drop_at a (drop j xs) j size) ∙ drop-drop 1 j xs ∙ ap (λ (k : ℕ). drop k xs) next ∙ sym (drop-drop j 1 xs)) ∙ back-is (drop 1 xs) j m n (omega arith) in
    let at : suc n ≡ j + suc m = omega arith in
    ap (λ (i : ℕ). take i (set ys j x)) at ∙ set-inside ys j m x (omega arith) ∙ (λ i. first i ++ x ∷ rest i)
