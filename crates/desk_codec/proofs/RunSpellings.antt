-- The bytes of a run, part by part.
use Rattle.std.proofs.Common.{◌≡◌, ℕ, ◌<◌, List, [], ◌∷◌, ◌++◌, length, refl, ap, ◌∙◌, arith, append_assoc}
use Rattle.std.specs.List.{flat_map}
use Rattle.desk_ops.specs.declared.op.Stamp.{Stamp}
use Rattle.desk_ops.specs.declared.op.Symbol.{Symbol}
use Rattle.desk_ops.specs.declared.op.Op.TheVariants.{Insert}
use Rattle.desk_codec.specs.Spelling.{stamp_spelling}
use Rattle.desk_codec.specs.Items.{symbol_spelling, item_spelling}
use Rattle.desk_codec.specs.Runs.{item_of}

run-spelled : (s p : Stamp) (y : Symbol) (ys : List Symbol) → 1 < length ys → 4 ∷ stamp_spelling s ++ stamp_spelling p ++ length ys ∷ flat_map symbol_spelling ys ≡ item_spelling (item_of (Insert s p y) ys)
run-spelled s p y [] more = absurd (omega arith)
run-spelled s p y (z ∷ []) more = absurd (omega arith)
run-spelled s p y (z ∷ w ∷ ys) more = refl

parts : (old s p f : List ℕ) (n : ℕ) → ((((old ++ 4 ∷ []) ++ s) ++ p) ++ n ∷ []) ++ f ≡ old ++ (4 ∷ s ++ p ++ n ∷ f)
parts old s p f n = simp append_assoc

-- one part after another
pub run-pushed : (old a b d e out f : List ℕ) (s p : Stamp) (y : Symbol) (ys : List Symbol) (n : ℕ) → 1 < length ys → a ≡ old ++ 4 ∷ [] → b ≡ a ++ stamp_spelling s → d ≡ b ++ stamp_spelling p → e ≡ d ++ n ∷ [] → out ≡ e ++ f → n ≡ length ys → f ≡ flat_map symbol_spelling ys → out ≡ old ++ item_spelling (item_of (Insert s p y) ys)
run-pushed old a b d e out f s p y ys n more i j k l m count symbols =
    m ∙ ap (λ (x : List ℕ). x ++ f) (l ∙ ap (λ (x : List ℕ). x ++ n ∷ []) (k ∙ ap (λ (x : List ℕ). x ++ stamp_spelling p) (j ∙ ap (λ (x : List ℕ). x ++ stamp_spelling s) i)))
    ∙ parts old (stamp_spelling s) (stamp_spelling p) f n
    ∙ ap (λ (x : List ℕ). old ++ x) (ap (λ (z : ℕ). 4 ∷ stamp_spelling s ++ stamp_spelling p ++ z ∷ f) count ∙ ap (λ (x : List ℕ). 4 ∷ stamp_spelling s ++ stamp_spelling p ++ length ys ∷ x) symbols ∙ run-spelled s p y ys more)
