-- What the elements of a walk tell of the operations.
use Rattle.std.proofs.Common.{◌≡◌, ℕ, ◌+◌, cond, List, [], ◌∷◌, refl, sym, ap, ◌∙◌, inl, inr}
use Rattle.std.specs.Prelude.{Some, unwrap_or}
use Rattle.desk_ops.specs.declared.op.Stamp.{Stamp}
use Rattle.desk_ops.specs.declared.op.Op.{Op}
use Rattle.desk_ops.specs.declared.op.Op.TheVariants.{Insert, Delete, Set}
use Rattle.desk_ops.specs.Stamp.{same}
use Rattle.desk_ops.specs.Op.{Insertion, insertion}
use Rattle.desk_ops.specs.OpSet.{OpSet, in_order}
use Rattle.desk_ops.specs.Held.{bearing, sole}
use Rattle.desk_ops.specs.Lists.{Among}
use Rattle.desk_ops.specs.Walk.{walk_of}
use Rattle.desk_ops.proofs.Bearers.{op_sole}
use Rattle.desk_ops.proofs.Ends.{held_among}
use Rattle.desk_ops.proofs.Faulty.{none-some}
use Rattle.desk_ops.proofs.Lists.{among-filter}
use Rattle.desk_ops.proofs.Means.{IsClearInsert, clear_insert, insert_stamp, live-parts, some-same}
use Rattle.desk_ops.proofs.Stamps.{same-true}
use Rattle.desk_ops.proofs.Tree.{walk-live}
use Rattle.desk_seq.specs.declared.Entry.{Entry}
use Rattle.desk_walk.specs.Following.{entries_of, entry_of}
use Rattle.feed_history.specs.declared.spots.Spot.{Spot}
use Rattle.feed_history.specs.Rows.{bearing_by, first}
use Rattle.feed_history.specs.Spots.{spot_stamp, spots_from, symbol_of}
use Rattle.feed_history.specs.Taken.{AreTold}
use Rattle.feed_history.specs.Texts.{own_symbols, symbols_of}
use Rattle.feed_history.proofs.Parts.{among_map}

inner : {X : Type 0} (x y : X) → Some x ≡ Some y → x ≡ y
inner x y e = ap (λ o. unwrap_or o x) e

first_among : {X : Type 0} (xs : List X) (x : X) → first xs ≡ Some x → Among x xs
first_among [] x e = none-some x e
first_among (y ∷ ys) x e = inl (inner y x e)

sole_first : (os : List Op) (o : Op) → sole os ≡ Some o → first os ≡ Some o
sole_first [] o e = e
sole_first (p ∷ []) o e = e
sole_first (p ∷ q ∷ os) o e = none-some o e

own : (o : Op) (x : Insertion) → insertion o ≡ Some x → own_symbols o ≡ x.symbol ∷ []
own (Insert stamp parent symbol) x e = ap (λ (i : Insertion). i.symbol ∷ []) (some-same _ x e)
own (Delete stamp target) x e = none-some x e
own (Set stamp key value) x e = none-some x e

-- an entry with the stamp and the symbol
record IsAt (es : List Entry) (spot : Spot) : Type 0 where
  entry : Entry
  among : Among entry es
  stamp : entry.stamp ≡ spot_stamp spot
  symbol : entry.symbol ≡ symbol_of spot

spot_at : (place : ℕ) (es : List Entry) (spot : Spot) → Among spot (spots_from place es) → IsAt es spot
spot_at place [] spot m = absurd m
spot_at place (e ∷ es) spot (inl i) = record { entry = e; among = inl refl; stamp = ap spot_stamp i; symbol = ap symbol_of i }
spot_at place (e ∷ es) spot (inr m) =
    let r = spot_at (cond e.deleted place (place + 1)) es spot m in
    record { entry = r.entry; among = inr r.among; stamp = r.stamp; symbol = r.symbol }

-- an element of the walk is of the one operation that bears its stamp
walked : (h : OpSet) (x : Insertion) → Among x (walk_of h) → symbols_of (first (bearing (in_order h) x.stamp)) ≡ x.symbol ∷ []
walked h x m =
    let c : IsClearInsert (in_order h) x = clear_insert (in_order h) x (live-parts (in_order h) x (walk-live (in_order h) x m)).0 in
    let one = op_sole h x.stamp c.op (insert_stamp c.op x c.is, (held_among h c.op c.held, c.clear)) in
    ap symbols_of (sole_first (bearing (in_order h) x.stamp) c.op one) ∙ own c.op x c.is

pub told : (h : OpSet) (spots : List Spot) → ((s : Stamp) → bearing_by spot_stamp spots s ≡ bearing_by spot_stamp (spots_from 0 (entries_of h)) s) → AreTold (in_order h) spots
told h spots alike s spot e =
    let m = first_among (bearing_by spot_stamp (spots_from 0 (entries_of h)) s) spot (ap first (sym (alike s)) ∙ e) in
    let q = among-filter (λ x. same (spot_stamp x) s) (spots_from 0 (entries_of h)) spot m in
    let r : IsAt (entries_of h) spot = spot_at 0 (entries_of h) spot q.0 in
    let w = among_map (entry_of h) (walk_of h) r.entry r.among in
    let stamp : w.0.stamp ≡ s = ap (λ (n : Entry). n.stamp) w.2 ∙ r.stamp ∙ same-true (spot_stamp spot) s q.1 in
    let symbol : w.0.symbol ≡ symbol_of spot = ap (λ (n : Entry). n.symbol) w.2 ∙ r.symbol in
    ap (λ t. symbols_of (first (bearing (in_order h) t))) (sym stamp) ∙ walked h w.0 w.1 ∙ ap (λ y. y ∷ []) symbol
