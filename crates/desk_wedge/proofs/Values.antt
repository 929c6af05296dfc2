-- What was read at a key was read from what stands there.
use Rattle.std.proofs.Common.{◌≡◌, ℕ, ◌≤◌, List, [], ◌∷◌, length, Option, Some, None, Ok, refl}
use Rattle.std.specs.Prelude.{All, nat_le, ◌&&◌, ok_or, option_and_then}
use Rattle.std.proofs.lemmas.Bool.{leb-true, and_parts}
use Rattle.std.proofs.lemmas.List.Elements.{All-cons, All-nil}
use Rattle.std.proofs.lemmas.Option.{cond_some, option_and_then_some}
use Rattle.toml.specs.Data.{Data, Items, no_items, item, Members, get_member, as_array}
use Rattle.desk_wedge.specs.Keys.{◌>>=◌, value_at}
use Rattle.desk_wedge.specs.Items.{joined, each_of, so_many, array_of}

-- the value was read from some data
pub record IsReadFrom {A : Type 0} (read : Data → Option A) (a : A) : Type 0 where
  pub from : Data
  pub is : read from ≡ Some a

read_in : {A E : Type 0} (wrong : E) (read : Data → Option A) (d : Data) (a : A) (o : Option A) → read d ≡ o → ok_or o wrong ≡ Ok a → IsReadFrom read a
read_in wrong read d a None was e = cc
read_in wrong read d a (Some b) was e = record { from = d; is = cc }

read_at : {A E : Type 0} (missing wrong : E) (read : Data → Option A) (a : A) (o : Option Data) → (ok_or o missing >>= (λ d. ok_or (read d) wrong)) ≡ Ok a
    → IsReadFrom read a
read_at missing wrong read a None e = cc
read_at missing wrong read a (Some d) e = read_in wrong read d a (read d) refl e

pub value_read : {A E : Type 0} (name : List ℕ) (missing wrong : E) (read : Data → Option A) (ms : Members) (a : A) → value_at name missing wrong read ms ≡ Ok a
    → IsReadFrom read a
value_read name missing wrong read ms a e = read_at missing wrong read a (get_member name ms) e

-- an array of so many, each read
pub record IsArrayOf {A : Type 0} (low high : ℕ) (read : Data → Option A) (xs : List A) : Type 0 where
  pub items : Items
  pub each : each_of read items ≡ Some xs
  pub least : low ≤ length xs
  pub most : length xs ≤ high

is_array : {A : Type 0} (low high : ℕ) (read : Data → Option A) (is : Items) (ys xs : List A) → each_of read is ≡ Some ys → so_many low high ys ≡ Some xs
    → IsArrayOf low high read xs
is_array low high read is ys xs each many =
    let parts = cond_some (nat_le low (length ys) && nat_le (length ys) high) ys xs many in
    let bounds = and_parts (nat_le low (length ys)) (nat_le (length ys) high) parts.0 in
    rw (← parts.1) (record { items = is; each = each; least = leb-true low (length ys) bounds.0; most = leb-true (length ys) high bounds.1 })

pub array_read : {A : Type 0} (low high : ℕ) (read : Data → Option A) (d : Data) (xs : List A) → array_of low high read d ≡ Some xs → IsArrayOf low high read xs
array_read low high read d xs e =
    option_and_then_some (so_many low high) (option_and_then (each_of read) (as_array d)) xs e (λ ys was many.
    option_and_then_some (each_of read) (as_array d) ys was (λ is there each. is_array low high read is ys xs each many))

-- what holds of each value that is read holds of all
all_joined : {A : Type 0} (P : A → Type 0) (o : Option A) (rest : Option (List A)) (xs : List A) → ((a : A) → o ≡ Some a → P a) → ((ys : List A) → rest ≡ Some ys → All P ys)
    → joined o rest ≡ Some xs → All P xs
all_joined P None rest xs here more e = cc
all_joined P (Some a) None xs here more e = cc
all_joined P (Some a) (Some ys) xs here more e =
    let same : xs ≡ a ∷ ys = cc in
    rw same (All-cons P a ys (here a refl) (more ys refl))

pub all_read : {A : Type 0} (P : A → Type 0) (read : Data → Option A) → ((d : Data) (a : A) → read d ≡ Some a → P a) → (is : Items) (xs : List A) → each_of read is ≡ Some xs → All P xs
all_read P read each no_items xs e = let same : xs ≡ [] = cc in rw same (All-nil P)
all_read P read each (item d ds) xs e = all_joined P (read d) (each_of read ds) xs (each d) (all_read P read each ds) e
