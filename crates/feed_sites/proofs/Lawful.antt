-- The symbols of a copy are lawful.
use Rattle.std.proofs.Common.{◌≡◌, ℕ, zero, suc, ◌<◌, List, [], ◌∷◌, Some, inl, inr, length, map, get_or, refl, subst, arith}
use Rattle.desk_ops.specs.declared.op.Op.{Op}
use Rattle.desk_ops.specs.declared.op.Op.TheVariants.{Insert, Delete, Set}
use Rattle.desk_ops.specs.declared.op.Symbol.{Symbol}
use Rattle.desk_ops.specs.Lists.{Among}
use Rattle.desk_ops.specs.Op.{Insertion, IsLawful, IsSymbol, insertion}
use Rattle.desk_ops.specs.OpSet.{AllLawful, OpSet, in_order}
use Rattle.desk_ops.specs.Shown.{copy_of, shown_of}
use Rattle.desk_ops.proofs.Lists.{each-among}
use Rattle.desk_ops.proofs.Means.{clear_insert, live-parts, some-same}
use Rattle.desk_ops.proofs.Parts.{shown_live}
use Rattle.text_copy.specs.Laws.{AreLawful}

insert_symbol : (o : Op) (x : Insertion) → insertion o ≡ Some x → IsLawful o → IsSymbol x.symbol
insert_symbol (Insert s p y) x e l = subst (λ (x : Insertion). IsSymbol x.symbol) (some-same (record { stamp = s; parent = p; symbol = y }) x e) l.3
insert_symbol (Delete s t) x e l = absurd (cc)
insert_symbol (Set s k v) x e l = absurd (cc)

all_lawful : (xs : List Insertion) → ((x : Insertion) → Among x xs → IsSymbol x.symbol) → AreLawful (map (λ x. x.symbol) xs)
all_lawful [] each = tt
all_lawful (x ∷ xs) each = (each x (inl refl), all_lawful xs (λ y m. each y (inr m)))

pub copy_lawful : (set : OpSet) → AllLawful set → AreLawful (copy_of set)
copy_lawful set lawful = all_lawful (shown_of set) one
  where
    one : (x : Insertion) → Among x (shown_of set) → IsSymbol x.symbol
    one x m =
        let c = clear_insert (in_order set) x (live-parts (in_order set) x (shown_live set x m)).0 in
        insert_symbol c.op x c.is (each-among IsLawful (in_order set) c.op lawful c.held)

pub lawful_at : (copy : List Symbol) (place : ℕ) (other : Symbol) → AreLawful copy → place < length copy → IsSymbol (get_or copy place other)
lawful_at [] place other lawful lt = absurd (omega arith)
lawful_at (symbol ∷ copy) zero other lawful lt = lawful.0
lawful_at (symbol ∷ copy) (suc place) other lawful lt = lawful_at copy place other lawful.1 (omega arith)
