-- Laws of the feed grammar.
use Rattle.std.proofs.Common.{◌≡◌, ℕ, ◌+◌, ◌*◌, List, [], ◌∷◌, ◌++◌, length, All, drop, refl, sym, ap, subst, ◌∙◌, get_or, append_assoc, length-append, arith}
use Rattle.std.specs.List.{flat_map, AllByRecursion}
use Rattle.std.proofs.lemmas.List.Concat.{flat_map-cons}
use Rattle.std.proofs.lemmas.List.Elements.{recursion_from_All}
use Rattle.desk_ops.specs.declared.op.Stamp.{Stamp}
use Rattle.desk_ops.specs.declared.op.Symbol.{Symbol}
use Rattle.desk_ops.specs.declared.op.Op.{Op}
use Rattle.desk_ops.specs.Op.{IsLawful}
use Rattle.desk_codec.specs.declared.form.FeedForm.{FeedForm}
use Rattle.desk_codec.specs.declared.form.FeedForm.TheVariants.{Singles, Runs}
use Rattle.desk_codec.specs.Spelling.{spelling, IsValue, IsHeld}
use Rattle.desk_codec.specs.Items.{Item, One, Run, item_ops, symbol_spelling, item_spelling}
use Rattle.desk_codec.specs.Feed.{magic, magic_of, feed, Stands, Spells, ops_in, IsFeed}
use Rattle.desk_codec.specs.Laws.{Sizes, PrefixFree, OneList, OneFeed}
use Rattle.desk_codec.specs.Fault.{item_fields, item_bytes}
use Rattle.desk_codec.proofs.ItemLaws.{item_fields_same, item_exact, item_bytes-fields, stands_values}

symbols_length : (symbols : List Symbol) → length (flat_map symbol_spelling symbols) ≡ 5 * length symbols
symbols_length [] = refl
symbols_length (y ∷ ys) =
    let e : length (flat_map symbol_spelling (y ∷ ys)) ≡ 5 + length (flat_map symbol_spelling ys) = ap (λ (l : List ℕ). length l) (flat_map-cons symbol_spelling y ys) ∙ length-append (symbol_spelling y) (flat_map symbol_spelling ys) in
    let rest = symbols_length ys in
    omega (arith, e, rest)

run_size : (s p : Stamp) (ys : List Symbol) → length (item_spelling (Run s p ys)) ≡ 22 + 5 * length ys
run_size s p ys = let e = symbols_length ys in omega (arith, e)

pub sizes : Sizes
sizes = record { insert = λ s p y. refl; delete = λ s t. refl; set = λ s k v. refl; run = run_size }

pub prefix_free : PrefixFree
prefix_free a b x y f g e =
    let bytes : item_bytes (item_fields a) ++ x ≡ item_bytes (item_fields b) ++ y = ap (λ (l : List ℕ). l ++ x) (item_bytes-fields a) ∙ e ∙ ap (λ (l : List ℕ). l ++ y) (sym (item_bytes-fields b)) in
    let same = item_fields_same (item_fields a) (item_fields b) x y f g bytes in
    (item_exact a b same.0, same.1)

-- no standing item's bytes begin another's
pub stands_free : (form : FeedForm) (a b : Item) (x y : List ℕ) → Stands form a → Stands form b → item_spelling a ++ x ≡ item_spelling b ++ y → (a ≡ b) × (x ≡ y)
stands_free form a b x y f g e = prefix_free a b x y (stands_values form a f) (stands_values form b g) e

-- ---- lists of items

pub no_item : (item : Item) (rest : List ℕ) → [] ≡ item_spelling item ++ rest → ⊥
no_item (One op) rest e = cc
no_item (Run s p ys) rest e = cc

pub one_spelled : (form : FeedForm) (bytes : List ℕ) (a b : List Item) → Spells form bytes a → Spells form bytes b → a ≡ b
one_spelled form bytes [] [] f g = refl
one_spelled form bytes [] (y ∷ ys) f g = absurd (no_item y g.1.0 (sym f ∙ g.1.1))
one_spelled form bytes (x ∷ xs) [] f g = absurd (no_item x f.1.0 (sym g ∙ f.1.1))
one_spelled form bytes (x ∷ xs) (y ∷ ys) f g =
    let one = stands_free form x y f.1.0 g.1.0 f.0 g.0 (sym f.1.1 ∙ g.1.1) in
    let rest : Spells form f.1.0 ys = subst (λ (l : List ℕ). Spells form l ys) (sym one.1) g.1.2 in
    let others : xs ≡ ys = one_spelled form f.1.0 xs ys f.1.2 rest in
    let first : x ≡ y = one.0 in
    cc

-- a feed has one form
pub one_form : (f g : FeedForm) (a b : List ℕ) → magic_of f ++ a ≡ magic_of g ++ b → (f ≡ g) × (a ≡ b)
one_form Singles Singles a b e = (refl, ap (λ (l : List ℕ). drop 4 l) e)
one_form Runs Runs a b e = (refl, ap (λ (l : List ℕ). drop 4 l) e)
one_form Singles Runs a b e = let fourth : 49 ≡ 50 = ap (λ (l : List ℕ). get_or l 3 0) e in absurd (omega (arith, fourth))
one_form Runs Singles a b e = let fourth : 50 ≡ 49 = ap (λ (l : List ℕ). get_or l 3 0) e in absurd (omega (arith, fourth))

pub one_list : OneList
one_list bytes a b f g =
    let same = one_form f.form g.form f.rest g.rest (sym f.prefix ∙ g.prefix) in
    let there : Spells f.form f.rest g.items = subst (λ (l : List ℕ). Spells f.form l g.items) (sym same.1) (subst (λ (form : FeedForm). Spells form g.rest g.items) (sym same.0) g.spells) in
    let items : f.items ≡ g.items = one_spelled f.form f.rest f.items g.items f.spells there in
    f.joined ∙ ap ops_in items ∙ sym g.joined

pub spells : (form : FeedForm) (items : List Item) → AllByRecursion (Stands form) items → Spells form (flat_map item_spelling items) items
spells form [] h = refl
spells form (item ∷ items) h = (h.0, (flat_map item_spelling items, flat_map-cons item_spelling item items, spells form items h.1))

pub spells_append : (form : FeedForm) (a b : List ℕ) (xs ys : List Item) → Spells form a xs → Spells form b ys → Spells form (a ++ b) (xs ++ ys)
spells_append form a b [] ys f g = subst (λ (l : List ℕ). Spells form (l ++ b) ys) (sym f) g
spells_append form a b (x ∷ xs) ys f g =
    let e : a ++ b ≡ item_spelling x ++ (f.1.0 ++ b) = ap (λ (l : List ℕ). l ++ b) f.1.1 ∙ append_assoc (item_spelling x) f.1.0 b in
    (f.0, (f.1.0 ++ b, e, spells_append form f.1.0 b xs ys f.1.2 g))

-- ---- single operations

singles : List Op → List Item
singles [] = []
singles (op ∷ ops) = One op ∷ singles ops

singles_spelled : (ops : List Op) → AllByRecursion IsHeld ops → Spells Singles (flat_map spelling ops) (singles ops)
unfolding singles
singles_spelled [] h = refl
singles_spelled (op ∷ ops) h = (h.0, (flat_map spelling ops, flat_map-cons spelling op ops, singles_spelled ops h.1))

singles_ops : (ops : List Op) → ops ≡ ops_in (singles ops)
unfolding singles
singles_ops [] = refl
singles_ops (op ∷ ops) = ap (λ (l : List Op). op ∷ l) (singles_ops ops) ∙ sym (flat_map-cons item_ops (One op) (singles ops))

singles_bytes : (bytes : List ℕ) (items : List Item) → Spells Singles bytes items → bytes ≡ flat_map spelling (ops_in items)
singles_bytes bytes [] f = f
singles_bytes bytes (One op ∷ items) f =
    let ops : ops_in (One op ∷ items) ≡ op ∷ ops_in items = flat_map-cons item_ops (One op) items in
    f.1.1 ∙ ap (λ (l : List ℕ). spelling op ++ l) (singles_bytes f.1.0 items f.1.2) ∙ sym (flat_map-cons spelling op (ops_in items)) ∙ ap (λ (l : List Op). flat_map spelling l) (sym ops)
singles_bytes bytes (Run s p ys ∷ items) f = absurd f.0.0

held_append : (a b : List Op) → AllByRecursion IsHeld a → AllByRecursion IsHeld b → AllByRecursion IsHeld (a ++ b)
held_append [] b f g = g
held_append (x ∷ a) b f g = (f.0, held_append a b f.1 g)

item_held : (form : FeedForm) (item : Item) → Stands form item → AllByRecursion IsHeld (item_ops item)
item_held form (One op) h = (h, tt)
item_held form (Run s p ys) h = h.1.each

spelled_held : (form : FeedForm) (bytes : List ℕ) (items : List Item) → Spells form bytes items → AllByRecursion IsHeld (ops_in items)
spelled_held form bytes [] f = tt
spelled_held form bytes (item ∷ items) f =
    subst (λ (l : List Op). AllByRecursion IsHeld l) (sym (flat_map-cons item_ops item items)) (held_append (item_ops item) (ops_in items) (item_held form item f.0) (spelled_held form f.1.0 items f.1.2))

feed_of : (ops : List Op) → AllByRecursion IsHeld ops → IsFeed (feed ops) ops
feed_of ops h = record { form = Singles; items = singles ops; rest = flat_map spelling ops; prefix = refl; spells = singles_spelled ops h; joined = singles_ops ops }

singles_form : (rest : List ℕ) (ops : List Op) → IsFeed (magic ++ rest) ops → magic ++ rest ≡ feed ops
singles_form rest ops f =
    let same = one_form Singles f.form rest f.rest f.prefix in
    let there : Spells Singles rest f.items = subst (λ (l : List ℕ). Spells Singles l f.items) (sym same.1) (subst (λ (form : FeedForm). Spells form f.rest f.items) (sym same.0) f.spells) in
    ap (λ (l : List ℕ). magic ++ l) (singles_bytes rest f.items there) ∙ ap feed (sym f.joined)

pub one_feed : OneFeed
one_feed = record {
  written = feed_of;
  bytes = singles_form;
  held = λ bytes ops f. subst (λ (l : List Op). AllByRecursion IsHeld l) (sym f.joined) (spelled_held f.form f.rest f.items f.spells);
}

pub held_from_parts : (ops : List Op) → AllByRecursion IsLawful ops → AllByRecursion IsValue ops → AllByRecursion IsHeld ops
held_from_parts [] f g = tt
held_from_parts (op ∷ ops) f g = (record { lawful = f.0; value = g.0 }, held_from_parts ops f.1 g.1)

-- what was written for lawful operations is their feed
pub is_feed : (bytes : List ℕ) (ops : List Op) → All IsLawful ops → AllByRecursion IsValue ops → bytes ≡ feed ops → IsFeed bytes ops
is_feed bytes ops f g e = subst (λ (l : List ℕ). IsFeed l ops) (sym e) (feed_of ops (held_from_parts ops (recursion_from_All IsLawful ops f) g))
