-- The symbols of a copy are lawful.
use Rattle.std.proofs.Common.{◌≡◌, ℕ, zero, suc, ◌+◌, List, [], ◌∷◌, ◌++◌, Some, inl, inr, map, take, drop, refl, subst}
use Rattle.desk_ops.specs.declared.op.Op.{Op}
use Rattle.desk_ops.specs.declared.op.Op.TheVariants.{Insert, Delete, Set}
use Rattle.desk_ops.specs.declared.op.Symbol.{Symbol}
use Rattle.desk_ops.specs.Lists.{Among}
use Rattle.desk_ops.specs.Op.{Insertion, IsLawful, IsSymbol, insertion}
use Rattle.desk_ops.specs.OpSet.{AllLawful, OpSet, in_order}
use Rattle.desk_ops.specs.Shown.{copy_of, shown_of}
use Rattle.desk_ops.proofs.Lists.{each-among}
use Rattle.desk_ops.proofs.Means.{clear_insert, live-parts, some-same}
use Rattle.desk_ops.proofs.Parts.{shown_live}
use Rattle.text_copy.specs.Laws.{AreLawful}
use Rattle.feed_edit.specs.Replacing.{replaced_at}

insert_symbol : (o : Op) (x : Insertion) → insertion o ≡ Some x → IsLawful o → IsSymbol x.symbol
insert_symbol (Insert s p y) x e l = subst (λ (x : Insertion). IsSymbol x.symbol) (some-same (record { stamp = s; parent = p; symbol = y }) x e) l.3
insert_symbol (Delete s t) x e l = absurd (cc)
insert_symbol (Set s k v) x e l = absurd (cc)

all_lawful : (xs : List Insertion) → ((x : Insertion) → Among x xs → IsSymbol x.symbol) → AreLawful (map (λ x. x.symbol) xs)
all_lawful [] each = tt
all_lawful (x ∷ xs) each = (each x (inl refl), all_lawful xs (λ y m. each y (inr m)))

pub copy_lawful : (set : OpSet) → AllLawful set → AreLawful (copy_of set)
copy_lawful set lawful = all_lawful (shown_of set) one
  where
    one : (x : Insertion) → Among x (shown_of set) → IsSymbol x.symbol
    one x m =
        let c = clear_insert (in_order set) x (live-parts (in_order set) x (shown_live set x m)).0 in
        insert_symbol c.op x c.is (each-among IsLawful (in_order set) c.op lawful c.held)

lawful_take : (n : ℕ) (xs : List Symbol) → AreLawful xs → AreLawful (take n xs)
lawful_take zero xs l = tt
lawful_take (suc n) [] l = tt
lawful_take (suc n) (x ∷ xs) l = (l.0, lawful_take n xs l.1)

lawful_drop : (n : ℕ) (xs : List Symbol) → AreLawful xs → AreLawful (drop n xs)
lawful_drop zero xs l = l
lawful_drop (suc n) [] l = tt
lawful_drop (suc n) (x ∷ xs) l = lawful_drop n xs l.1

lawful_append : (xs ys : List Symbol) → AreLawful xs → AreLawful ys → AreLawful (xs ++ ys)
lawful_append [] ys l m = m
lawful_append (x ∷ xs) ys l m = (l.0, lawful_append xs ys l.1 m)

-- what stands where one text was made another
replaced_lawful : (place past : ℕ) (new copy : List Symbol) → AreLawful new → AreLawful copy → AreLawful (take place copy ++ new ++ drop past copy)
replaced_lawful place past new copy l m = lawful_append (take place copy ++ new) (drop past copy) (lawful_append (take place copy) new (lawful_take place copy m) l) (lawful_drop past copy m)

-- and at each of some places
pub exchanged_lawful : (places : List ℕ) (count : ℕ) (new copy : List Symbol) → AreLawful new → AreLawful copy → AreLawful (replaced_at places count new copy)
exchanged_lawful [] count new copy l m = m
exchanged_lawful (place ∷ places) count new copy l m = replaced_lawful place (place + count) new (replaced_at places count new copy) l (exchanged_lawful places count new copy l m)
