-- Fields as bytes have them, and the lawful operations among them.
use Rattle.std.proofs.Common.{◌≡◌, ℕ, ◌^◌, ◌<◌, Bool, true, false, cond, List, ◌∷◌, ◌++◌, drop, Option, Some, None, Ok, refl, ap, subst, ◌∙◌, ◌⊎◌, inl, inr, arith}
use Rattle.std.specs.Int.{w32, to_be_bytes}
use Rattle.std.specs.Char.{InScalarRange}
use Rattle.std.proofs.lemmas.Bool.Decides.{nat_tests}
use Rattle.desk_ops.specs.declared.op.Stamp.{Stamp}
use Rattle.desk_ops.specs.declared.op.Style.{Style}
use Rattle.desk_ops.specs.declared.op.Style.TheVariants.{Roman, Italic, SmallCap}
use Rattle.desk_ops.specs.declared.op.Symbol.{Symbol}
use Rattle.desk_ops.specs.declared.op.Key.{Key}
use Rattle.desk_ops.specs.declared.op.Key.TheVariants.{Measure, Tight, Loose, Case, Wedge}
use Rattle.desk_ops.specs.declared.op.Op.{Op}
use Rattle.desk_ops.specs.declared.op.Op.TheVariants as ops
use Rattle.desk_ops.specs.Op.{verdict}
use Rattle.desk_ops.specs.Order.{style_code, key_code}
use Rattle.desk_ops.specs.OrderLaws.{style_code_exact, key_code_exact}
use Rattle.desk_ops.proofs.Symbols.{symbol_exact}
use Rattle.desk_codec.specs.declared.fields.Fields.{Fields}
use Rattle.desk_codec.specs.declared.fields.Fields.TheVariants.{Insert, Delete, Set}
use Rattle.desk_codec.specs.Spelling.{spelling, stamp_spelling, IsValue}
use Rattle.desk_codec.proofs.Numbers.{number_same_4, stamp_same}
use Rattle.desk_codec.specs.Fault.{fields_of, bytes_of, AreValues, style_of, key_of, is_character, no_symbol, symbol_in, setting_cause, cause}

-- ---- the numbers of styles and keys

pub style_known : (n : ℕ) (s : Style) → style_of n ≡ Some s → style_code s ≡ n
style_known n Roman e = grind (arith, nat_tests)
style_known n Italic e = grind (arith, nat_tests)
style_known n SmallCap e = grind (arith, nat_tests)

pub key_known : (n : ℕ) (k : Key) → key_of n ≡ Some k → key_code k ≡ n
key_known n Measure e = grind (arith, nat_tests)
key_known n Tight e = grind (arith, nat_tests)
key_known n Loose e = grind (arith, nat_tests)
key_known n Case e = grind (arith, nat_tests)
key_known n Wedge e = grind (arith, nat_tests)

-- ---- the symbol of two numbers

never_without : (stamp parent : Stamp) → verdict (ops.Insert stamp parent no_symbol) ≡ Ok tt → ⊥
never_without stamp parent e = grind arith

-- the numbers are the symbol's, or no symbol's
SymbolOf : ℕ → ℕ → Symbol → Type 0
SymbolOf style ch y = (y ≡ no_symbol) ⊎ ((style_code y.style ≡ style) × (y.ch ≡ ch))

symbol_given : (n ch : ℕ) (s : Style) (b : Bool) → style_code s ≡ n → SymbolOf n ch (cond b (record { style = s; ch = ch }) no_symbol)
unfolding SymbolOf
symbol_given n ch s true e = inr (e, refl)
symbol_given n ch s false e = inl refl

symbol_is : (n ch : ℕ) (o : Option Style) → style_of n ≡ o → SymbolOf n ch (symbol_in o ch)
symbol_is n ch (Some s) e = symbol_given n ch s (is_character ch) (style_known n s e)
symbol_is n ch None e = unfold SymbolOf in inl refl

insert_is : (stamp parent : Stamp) (style ch : ℕ) (y : Symbol) → SymbolOf style ch y → verdict (ops.Insert stamp parent y) ≡ Ok tt → fields_of (ops.Insert stamp parent y) ≡ Insert stamp parent style ch
unfolding SymbolOf
insert_is stamp parent style ch y (inl e) v = absurd (never_without stamp parent (subst (λ (z : Symbol). verdict (ops.Insert stamp parent z) ≡ Ok tt) e v))
insert_is stamp parent style ch y (inr h) v = cc

-- a lawful insert has the numbers that its symbol was made from
pub insert_back : (stamp parent : Stamp) (style ch : ℕ) (op : Op) → op ≡ ops.Insert stamp parent (symbol_in (style_of style) ch) → verdict op ≡ Ok tt → fields_of op ≡ Insert stamp parent style ch
insert_back stamp parent style ch op e v =
    let made : verdict (ops.Insert stamp parent (symbol_in (style_of style) ch)) ≡ Ok tt = subst (λ (o : Op). verdict o ≡ Ok tt) e v in
    ap fields_of e ∙ insert_is stamp parent style ch (symbol_in (style_of style) ch) (symbol_is style ch (style_of style) refl) made

pub set_back : (stamp : Stamp) (number value : ℕ) (key : Key) (op : Op) → op ≡ ops.Set stamp key value → key_of number ≡ Some key → fields_of op ≡ Set stamp number value
set_back stamp number value key op e k = ap fields_of e ∙ ap (λ (n : ℕ). Set stamp n value) (key_known number key k)

-- ---- bytes have one list of fields, and fields are one operation's

pub fields_same : (f g : Fields) (a b : List ℕ) → AreValues f → AreValues g → bytes_of f ++ a ≡ bytes_of g ++ b → (f ≡ g) × (a ≡ b)
fields_same (Insert s p y c) (Insert t q z d) a b f g e =
    let one = stamp_same s t (stamp_spelling p ++ y ∷ to_be_bytes w32 c ++ a) (stamp_spelling q ++ z ∷ to_be_bytes w32 d ++ b) f.0 g.0 (ap (λ (l : List ℕ). drop 1 l) e) in
    let two = stamp_same p q (y ∷ to_be_bytes w32 c ++ a) (z ∷ to_be_bytes w32 d ++ b) f.1 g.1 one.1 in
    let style : y ≡ z = cc in
    let three = number_same_4 c d a b f.3 g.3 (ap (λ (l : List ℕ). drop 1 l) two.1) in
    (cc, three.1)
fields_same (Delete s p) (Delete t q) a b f g e =
    let one = stamp_same s t (stamp_spelling p ++ a) (stamp_spelling q ++ b) f.0 g.0 (ap (λ (l : List ℕ). drop 1 l) e) in
    let two = stamp_same p q a b f.1 g.1 one.1 in
    (cc, two.1)
fields_same (Set s k v) (Set t j w) a b f g e =
    let one = stamp_same s t (k ∷ to_be_bytes w32 v ++ a) (j ∷ to_be_bytes w32 w ++ b) f.0 g.0 (ap (λ (l : List ℕ). drop 1 l) e) in
    let key : k ≡ j = cc in
    let two = number_same_4 v w a b f.2 g.2 (ap (λ (l : List ℕ). drop 1 l) one.1) in
    (cc, two.1)
fields_same (Insert s p y c) (Delete t q) a b f g e = absurd cc
fields_same (Insert s p y c) (Set t k v) a b f g e = absurd cc
fields_same (Delete s p) (Insert t q z d) a b f g e = absurd cc
fields_same (Delete s p) (Set t k v) a b f g e = absurd cc
fields_same (Set s k v) (Insert t q z d) a b f g e = absurd cc
fields_same (Set s k v) (Delete t q) a b f g e = absurd cc

pub op_exact : (a b : Op) → fields_of a ≡ fields_of b → a ≡ b
op_exact (ops.Insert s p y) (ops.Insert t q z) e =
    let style : style_code y.style ≡ style_code z.style = cc in
    let ch : y.ch ≡ z.ch = cc in
    let symbol : y ≡ z = symbol_exact y z (style_code_exact y.style z.style style) ch in cc
op_exact (ops.Delete s p) (ops.Delete t q) e = cc
op_exact (ops.Set s k v) (ops.Set t j w) e =
    let code : key_code k ≡ key_code j = cc in
    let key : k ≡ j = key_code_exact k j code in cc
op_exact (ops.Insert s p y) (ops.Delete t q) e = absurd cc
op_exact (ops.Insert s p y) (ops.Set t k v) e = absurd cc
op_exact (ops.Delete s p) (ops.Insert t q z) e = absurd cc
op_exact (ops.Delete s p) (ops.Set t k v) e = absurd cc
op_exact (ops.Set s k v) (ops.Insert t q z) e = absurd cc
op_exact (ops.Set s k v) (ops.Delete t q) e = absurd cc

pub bytes_of-fields : (op : Op) → bytes_of (fields_of op) ≡ spelling op
bytes_of-fields (ops.Insert s p y) = refl
bytes_of-fields (ops.Delete s t) = refl
bytes_of-fields (ops.Set s k v) = refl

pub scalar_fits : (c : ℕ) → InScalarRange c → c < 2 ^ 32
scalar_fits c (inl h) = omega arith
scalar_fits c (inr h) = omega arith

pub style_fits : (s : Style) → style_code s < 2 ^ 8
style_fits Roman = omega arith
style_fits Italic = omega arith
style_fits SmallCap = omega arith

key_fits : (k : Key) → key_code k < 2 ^ 8
key_fits Measure = omega arith
key_fits Tight = omega arith
key_fits Loose = omega arith
key_fits Case = omega arith
key_fits Wedge = omega arith

pub values_of : (op : Op) → IsValue op → AreValues (fields_of op)
values_of (ops.Insert s p y) h = (h.0, h.1, style_fits y.style, scalar_fits y.ch h.2)
values_of (ops.Delete s t) h = h
values_of (ops.Set s k v) h = (h.0, key_fits k, h.1)

-- ---- a lawful operation's fields have no cause

style_again : (s : Style) → style_of (style_code s) ≡ Some s
style_again Roman = refl
style_again Italic = refl
style_again SmallCap = refl

key_again : (k : Key) → key_of (key_code k) ≡ Some k
key_again Measure = refl
key_again Tight = refl
key_again Loose = refl
key_again Case = refl
key_again Wedge = refl

is_scalar : (c : ℕ) → InScalarRange c → is_character c ≡ true
is_scalar c (inl h) = grind (arith, nat_tests)
is_scalar c (inr h) = grind (arith, nat_tests)

symbol_again : (y : Symbol) → InScalarRange y.ch → symbol_in (style_of (style_code y.style)) y.ch ≡ y
symbol_again y h = rw (style_again y.style, is_scalar y.ch h) refl

pub held_cause : (op : Op) → IsValue op → cause (fields_of op) ≡ verdict op
held_cause (ops.Insert s p y) h = ap (λ (z : Symbol). verdict (ops.Insert s p z)) (symbol_again y h.2)
held_cause (ops.Delete s t) h = refl
held_cause (ops.Set s k v) h = ap (λ (o : Option Key). setting_cause s o v) (key_again k)
