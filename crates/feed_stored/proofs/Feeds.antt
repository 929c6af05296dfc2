-- Stored feeds, opened and stored anew.
use Rattle.std.proofs.Common.{◌≡◌, ℕ, ◌<◌, List, [], ◌∷◌, length, ap, inr, refl, subst, arith}
use Rattle.std.specs.Prelude.{◌≢◌, IfErr, IsErrOf, OnErr, OnOk, Option, Some, None, Result, Ok, Err}
use Rattle.std.specs.FinMap as fin
use Rattle.desk_ops.specs.declared.op.Op.{Op}
use Rattle.desk_ops.specs.OpSet.{no_ops, size, with_all, max_ops}
use Rattle.desk_held.specs.Passing.{IsInTurn}
use Rattle.desk_held.specs.declared.AddRefusal.{AddRefusal}
use Rattle.desk_held.specs.declared.AddRefusal.TheVariants as adds
use Rattle.desk_held.specs.declared.join.Stopped.{Stopped}
use Rattle.feed_files.specs.declared.files.FileRefusal.{FileRefusal}
use Rattle.feed_files.specs.declared.files.FileRefusal.TheVariants as refusals
use Rattle.feed_files.specs.Files.{Counts, HasNoPlace, Shelf, Spares, new_name}
use Rattle.feed_stored.specs.declared.fault.OpenFault.TheVariants as openings
use Rattle.feed_stored.specs.Fault.{AsksMemory, IsCrowded, IsNotStored, IsUnopened, of_stop}
use Rattle.feed_stored.specs.Stored.{Stores}

none_crowds : (ops : List Op) → ops ≡ [] → max_ops < size (with_all no_ops ops) → ⊥
none_crowds ops none many =
    let empty : size (with_all no_ops []) ≡ 0 = fin.len-empty _ _ in
    let more : max_ops < size (with_all no_ops []) = subst (λ l. max_ops < size (with_all no_ops l)) none many in
    omega arith

crowded_by : (read : Option (List ℕ)) (ops : List Op) (stop : Stopped) → Stores read ops → IsCrowded ops stop → IsUnopened read (openings.Opening stop)
crowded_by (Some bytes) ops stop stores crowded = (bytes, refl, ops, stores, crowded)
crowded_by None ops stop stores crowded = absurd (none_crowds ops stores crowded.0)

-- for what stores operations memory is asked, but where there are none since no file is there
pub read_by : (read : Option (List ℕ)) (ops : List Op) → Stores read ops → (ops ≡ [] → ⊥) → AsksMemory read
read_by (Some bytes) ops stores some = inr (ops, stores)
read_by None ops stores some = some stores

-- put in order, an empty list is empty
pub none_in_turn : (ops sorted : List Op) → IsInTurn ops sorted → ops ≡ [] → sorted ≡ []
none_in_turn ops [] turn none = refl
none_in_turn ops (op ∷ sorted) turn none = let few = turn.few in let e : length ops ≡ 0 = ap length none in absurd (omega (arith, few, e))

-- a feed with too many operations, or with some and no memory for them, is not opened
pub unopened : (read : Option (List ℕ)) (ops : List Op) (stop : Stopped) (why : AddRefusal) → stop.why ≡ why → Stores read ops → stop.taken ≡ 0
    → (stop.why ≡ adds.Full → max_ops < size (with_all no_ops ops)) → (ops ≡ [] → ⊥) → IsUnopened read (of_stop stop why)
unopened read ops stop adds.Full is stores none full some = crowded_by read ops stop stores (full is, is, none)
unopened read ops stop adds.NoMemory is stores none full some = read_by read ops stores some

-- where a store succeeds the device did not fail
pub ok_counts : {V : Type 0} (P : Type 0) (result : Result V FileRefusal) (before after : Shelf) → OnOk result P → Counts result before after → OnOk result (P × (after.failures ≡ before.failures))
ok_counts P (Ok v) before after p counts = (p, counts)
ok_counts P (Err why) before after p counts = tt

pub not_stored : {V : Type 0} (result : Result V FileRefusal) (name : List ℕ) (before after : Shelf) → OnErr result (Spares (new_name name) before.kept after.kept) → IfErr result (λ e. e ≢ refusals.Large)
    → (IsErrOf result refusals.Missing → HasNoPlace name before.kept) → Counts result before after → IfErr result (IsNotStored name before after)
not_stored (Ok v) name before after spares small missing counts = tt
not_stored (Err why) name before after spares small missing counts = (spares, small, (λ e. missing (ap Err e)), counts)
