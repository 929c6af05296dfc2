-- The fields of items, and the items that they are of.
use Rattle.std.proofs.Common.{◌≡◌, ℕ, ◌+◌, ◌*◌, ◌≤◌, List, [], ◌∷◌, ◌++◌, length, map, drop, Ok, refl, sym, ap, ◌∙◌, length-append, arith}
use Rattle.std.specs.Int.{w32, to_be_bytes}
use Rattle.std.specs.List.{flat_map, AllByRecursion}
use Rattle.std.proofs.lemmas.List.{length-map}
use Rattle.std.proofs.lemmas.List.Concat.{flat_map-cons}
use Rattle.desk_ops.specs.declared.op.Stamp.{Stamp}
use Rattle.desk_ops.specs.declared.op.Symbol.{Symbol}
use Rattle.desk_ops.specs.declared.op.Op.{Op}
use Rattle.desk_ops.specs.declared.op.Op.TheVariants as ops
use Rattle.desk_ops.specs.Order.{style_code}
use Rattle.desk_ops.specs.OrderLaws.{style_code_exact}
use Rattle.desk_ops.proofs.Lawful.{lawful_true}
use Rattle.desk_ops.proofs.Symbols.{symbol_exact}
use Rattle.desk_codec.specs.declared.form.FeedForm.{FeedForm}
use Rattle.desk_codec.specs.declared.fields.Fields.{Fields}
use Rattle.desk_codec.specs.declared.fields.Fields.TheVariants.{Insert, Delete, Set}
use Rattle.desk_codec.specs.Spelling.{stamp_spelling, IsHeld}
use Rattle.desk_codec.specs.Items.{Item, One, Run, run_ops, next_stamp, symbol_spelling, item_spelling}
use Rattle.desk_codec.specs.Feed.{Stands}
use Rattle.desk_codec.specs.Fault.{fields_of, cause, run_cause, Mark, mark_of, mark_bytes, IsMarkValue, ItemFields, OneOf, RunOf, item_fields, item_bytes, AreItemValues, MayStand, item_cause}
use Rattle.desk_codec.proofs.Numbers.{number_same_4, stamp_same}
use Rattle.desk_codec.proofs.FieldLaws.{fields_same, op_exact, bytes_of-fields, values_of, held_cause, style_fits, scalar_fits}

-- ---- the numbers of a run's symbols

mark_exact : (a b : Mark) → a.style ≡ b.style → a.ch ≡ b.ch → a ≡ b
mark_exact a b f g i = record { style = f i; ch = g i }

marks_same : (a b : List Mark) (x y : List ℕ) → AllByRecursion IsMarkValue a → AllByRecursion IsMarkValue b → length a ≡ length b → flat_map mark_bytes a ++ x ≡ flat_map mark_bytes b ++ y → (a ≡ b) × (x ≡ y)
marks_same [] [] x y f g n e = (refl, e)
marks_same [] (b ∷ zs) x y f g n e = absurd cc
marks_same (a ∷ xs) [] x y f g n e = absurd cc
marks_same (a ∷ xs) (b ∷ zs) x y f g n e =
    let prefix : a.style ∷ to_be_bytes w32 a.ch ++ (flat_map mark_bytes xs ++ x) ≡ b.style ∷ to_be_bytes w32 b.ch ++ (flat_map mark_bytes zs ++ y) =
    ap (λ (l : List ℕ). l ++ x) (sym (flat_map-cons mark_bytes a xs)) ∙ e ∙ ap (λ (l : List ℕ). l ++ y) (flat_map-cons mark_bytes b zs)
    in
    let style : a.style ≡ b.style = cc in
    let one = number_same_4 a.ch b.ch (flat_map mark_bytes xs ++ x) (flat_map mark_bytes zs ++ y) f.0.1 g.0.1 (ap (λ (l : List ℕ). drop 1 l) prefix) in
    let mark : a ≡ b = mark_exact a b style one.0 in
    let count : length xs ≡ length zs = omega (arith, n) in
    let others = marks_same xs zs x y f.1 g.1 count one.1 in
    let all : xs ≡ zs = others.0 in
    (cc, others.1)

pub marks_length : (marks : List Mark) → length (flat_map mark_bytes marks) ≡ 5 * length marks
marks_length [] = refl
marks_length (m ∷ ms) =
    let e : length (flat_map mark_bytes (m ∷ ms)) ≡ 5 + length (flat_map mark_bytes ms) = ap (λ (l : List ℕ). length l) (flat_map-cons mark_bytes m ms) ∙ length-append (mark_bytes m) (flat_map mark_bytes ms) in
    let rest = marks_length ms in
    omega (arith, e, rest)

symbols_exact : (a b : List Symbol) → map mark_of a ≡ map mark_of b → a ≡ b
symbols_exact [] [] e = refl
symbols_exact [] (b ∷ zs) e = absurd cc
symbols_exact (a ∷ xs) [] e = absurd cc
symbols_exact (a ∷ xs) (b ∷ zs) e =
    let mark : mark_of a ≡ mark_of b = cc in
    let style : style_code a.style ≡ style_code b.style = ap (λ (m : Mark). m.style) mark in
    let ch : a.ch ≡ b.ch = ap (λ (m : Mark). m.ch) mark in
    let one : a ≡ b = symbol_exact a b (style_code_exact a.style b.style style) ch in
    let rest : map mark_of xs ≡ map mark_of zs = cc in
    let others : xs ≡ zs = symbols_exact xs zs rest in
    cc

pub symbols_bytes : (symbols : List Symbol) → flat_map mark_bytes (map mark_of symbols) ≡ flat_map symbol_spelling symbols
symbols_bytes [] = refl
symbols_bytes (y ∷ ys) = flat_map-cons mark_bytes (mark_of y) (map mark_of ys) ∙ ap (λ (l : List ℕ). symbol_spelling y ++ l) (symbols_bytes ys) ∙ sym (flat_map-cons symbol_spelling y ys)

-- ---- bytes have one item's fields, and fields are one item's

pub item_fields_same : (f g : ItemFields) (a b : List ℕ) → AreItemValues f → AreItemValues g → item_bytes f ++ a ≡ item_bytes g ++ b → (f ≡ g) × (a ≡ b)
item_fields_same (OneOf f) (OneOf g) a b v w e =
    let same = fields_same f g a b v w e in
    (ap (λ (h : Fields). OneOf h) same.0, same.1)
item_fields_same (RunOf s p ms) (RunOf t q ns) a b v w e =
    let one = stamp_same s t (stamp_spelling p ++ length ms ∷ flat_map mark_bytes ms ++ a) (stamp_spelling q ++ length ns ∷ flat_map mark_bytes ns ++ b) v.0 w.0 (ap (λ (l : List ℕ). drop 1 l) e) in
    let two = stamp_same p q (length ms ∷ flat_map mark_bytes ms ++ a) (length ns ∷ flat_map mark_bytes ns ++ b) v.1 w.1 one.1 in
    let many : length ms ≡ length ns = cc in
    let three = marks_same ms ns a b v.3 w.3 many (ap (λ (l : List ℕ). drop 1 l) two.1) in
    let stamp : s ≡ t = one.0 in
    let parent : p ≡ q = two.0 in
    let marks : ms ≡ ns = three.0 in
    (cc, three.1)
item_fields_same (OneOf (Insert s p y c)) (RunOf t q ns) a b v w e = absurd cc
item_fields_same (OneOf (Delete s p)) (RunOf t q ns) a b v w e = absurd cc
item_fields_same (OneOf (Set s k n)) (RunOf t q ns) a b v w e = absurd cc
item_fields_same (RunOf s p ms) (OneOf (Insert t q y c)) a b v w e = absurd cc
item_fields_same (RunOf s p ms) (OneOf (Delete t q)) a b v w e = absurd cc
item_fields_same (RunOf s p ms) (OneOf (Set t k n)) a b v w e = absurd cc

pub item_exact : (a b : Item) → item_fields a ≡ item_fields b → a ≡ b
item_exact (One o) (One p) e =
    let fields : fields_of o ≡ fields_of p = cc in
    ap (λ (q : Op). One q) (op_exact o p fields)
item_exact (Run s p y) (Run t q z) e =
    let marks : map mark_of y ≡ map mark_of z = cc in
    let symbols : y ≡ z = symbols_exact y z marks in
    let stamp : s ≡ t = cc in
    let parent : p ≡ q = cc in
    cc
item_exact (One o) (Run t q z) e = absurd cc
item_exact (Run s p y) (One o) e = absurd cc

pub item_bytes-fields : (item : Item) → item_bytes (item_fields item) ≡ item_spelling item
item_bytes-fields (One op) = bytes_of-fields op
item_bytes-fields (Run s p ys) =
    let many : length (map mark_of ys) ≡ length ys = length-map ys mark_of in
    ap (λ (n : ℕ). 4 ∷ stamp_spelling s ++ stamp_spelling p ++ n ∷ flat_map mark_bytes (map mark_of ys)) many ∙ ap (λ (l : List ℕ). 4 ∷ stamp_spelling s ++ stamp_spelling p ++ length ys ∷ l) (symbols_bytes ys)

-- ---- an item that stands there

symbols_values : (s p : Stamp) (ys : List Symbol) → AllByRecursion IsHeld (run_ops s p ys) → AllByRecursion IsMarkValue (map mark_of ys)
symbols_values s p [] h = tt
symbols_values s p (y ∷ ys) h = ((style_fits y.style, scalar_fits y.ch h.0.value.2), symbols_values (next_stamp s) s ys h.1)

run_values : (s p : Stamp) (ys : List Symbol) → 2 ≤ length ys → length ys ≤ 64 → AllByRecursion IsHeld (run_ops s p ys) → AreItemValues (item_fields (Run s p ys))
run_values s p [] least most h = absurd (omega arith)
run_values s p (y ∷ ys) least most h =
    let many : length (map mark_of (y ∷ ys)) ≡ length (y ∷ ys) = length-map (y ∷ ys) mark_of in
    (h.0.value.0, h.0.value.1, omega (arith, many), symbols_values s p (y ∷ ys) h)

pub stands_values : (form : FeedForm) (item : Item) → Stands form item → AreItemValues (item_fields item)
stands_values form (One op) h = values_of op h.value
stands_values form (Run s p ys) h = run_values s p ys h.1.count.0 h.1.count.1 h.1.each

pub may_stand : (form : FeedForm) (item : Item) → Stands form item → MayStand form (item_fields item)
may_stand form (One op) h = tt
may_stand form (Run s p ys) h =
    let many : length (map mark_of ys) ≡ length ys = length-map ys mark_of in
    let least = h.1.count.0 in
    let most = h.1.count.1 in
    (h.0, (omega (arith, many), omega (arith, many)))

pub run_cause_none : (s p : Stamp) (ys : List Symbol) → AllByRecursion IsHeld (run_ops s p ys) → run_cause s p (map mark_of ys) ≡ Ok tt
run_cause_none s p [] h = refl
run_cause_none s p (y ∷ ys) h =
    let first : cause (Insert s p (style_code y.style) y.ch) ≡ Ok tt = held_cause (ops.Insert s p y) h.0.value ∙ lawful_true (ops.Insert s p y) h.0.lawful in
    rw first (run_cause_none (next_stamp s) s ys h.1)

pub stands_cause : (form : FeedForm) (item : Item) → Stands form item → item_cause (item_fields item) ≡ Ok tt
stands_cause form (One op) h = held_cause op h.value ∙ lawful_true op h.lawful
stands_cause form (Run s p ys) h = run_cause_none s p ys h.1.each

-- the shortest item takes 16 bytes
pub item_length : (item : Item) → 16 ≤ length (item_spelling item)
item_length (One (ops.Insert s p y)) = omega arith
item_length (One (ops.Delete s t)) = omega arith
item_length (One (ops.Set s k v)) = omega arith
item_length (Run s p ys) = omega arith
