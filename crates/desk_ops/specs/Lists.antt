-- Words of lists: membership, what stands before what, and numbers that rise.
use Rattle.std.specs.Prelude.{◌≡◌, ◌≤◌, ℕ, ◌+◌, List, [], ◌∷◌, ◌⊎◌}

-- x is one of the list
abbrev pub Among : {A : Type 0} → A → List A → Type 0
Among x [] = ⊥
Among x (y ∷ ys) = (y ≡ x) ⊎ Among x ys

-- x stands somewhere in the list, and y further on
abbrev pub Precedes : {A : Type 0} → A → A → List A → Type 0
Precedes x y [] = ⊥
Precedes x y (z ∷ zs) = ((z ≡ x) × Among y zs) ⊎ Precedes x y zs

-- numbers from one on, each greater than those before it
abbrev pub RiseFrom : ℕ → List ℕ → Type 0
RiseFrom low [] = Unit {0}
RiseFrom low (n ∷ numbers) = (low ≤ n) × RiseFrom (n + 1) numbers
