-- Texts that are written one after the other.
use Rattle.std.proofs.Common.{◌≡◌, ℕ, ◌+◌, [], ◌∷◌, List, ◌++◌, if◌then◌else◌, sym, ap, ◌∙◌, append_assoc, replicate}
use Rattle.std.proofs.Math.Utf8.{encode}
use Rattle.std.proofs.lemmas.Grind.{replicate_next}
use Rattle.std.proofs.lemmas.List.{append-nil}
use Rattle.std.proofs.lemmas.Str.{encodes-append}
use Rattle.std.specs.Str.{encode_utf8_all}
use Rattle.std.proofs.lemmas.Result.{on_ok_weaker}
use Rattle.std.specs.Prelude.{OnOk, Result, Ok, Err, is_ok}
use Rattle.view_proof.specs.Parts.{many}

-- one more
pub one_more : (out before after : List ℕ) (n ch : ℕ) → before ≡ out ++ many n ch → after ≡ before ++ encode ch → after ≡ out ++ many (n + 1) ch
one_more out before after n ch so_far pushed =
    pushed ∙ ap (λ xs. xs ++ encode ch) so_far ∙ append_assoc out (many n ch) (encode ch)
    ∙ ap (λ xs. out ++ xs) (sym (encodes-append (replicate n ch) (ch ∷ []) ∙ ap (λ xs. many n ch ++ xs) (append-nil (encode ch))) ∙ ap encode_utf8_all (sym (replicate_next n ch)))

-- one text after another
joined : (a b c x y : List ℕ) → b ≡ a ++ x → c ≡ b ++ y → c ≡ a ++ (x ++ y)
joined a b c x y first last = last ∙ ap (λ l. l ++ y) first ∙ append_assoc a x y

-- texts that are written one after the other

pub two : {E : Type 0} (r : Result (Unit {0}) E) (a b c x y : List ℕ) → b ≡ a ++ x → OnOk r (c ≡ b ++ y) → OnOk r (c ≡ a ++ (x ++ y))
two r a b c x y first last = on_ok_weaker r (λ e. e ∙ ap (λ l. l ++ y) first ∙ append_assoc a x y) last

pub three : {E : Type 0} (r : Result (Unit {0}) E) (a b c d x y z : List ℕ) → b ≡ a ++ x → c ≡ b ++ y → OnOk r (d ≡ c ++ z) → OnOk r (d ≡ a ++ (x ++ (y ++ z)))
three r a b c d x y z first second last = two r a b d x (y ++ z) first (two r b c d y z second last)

pub four : {E : Type 0} (r : Result (Unit {0}) E) (a b c d e x y z w : List ℕ) → b ≡ a ++ x → c ≡ b ++ y → d ≡ c ++ z → OnOk r (e ≡ d ++ w) → OnOk r (e ≡ a ++ (x ++ (y ++ (z ++ w))))
four r a b c d e x y z w first second third last = two r a b e x (y ++ (z ++ w)) first (three r b c d e y z w second third last)

-- five, each joined to those before it
pub five_in_turn : {E : Type 0} (r : Result (Unit {0}) E) (a b c d e f x y z w v : List ℕ) → b ≡ a ++ x → c ≡ b ++ y → d ≡ c ++ z → e ≡ d ++ w → OnOk r (f ≡ e ++ v) → OnOk r (f ≡ a ++ ((((x ++ y) ++ z) ++ w) ++ v))
five_in_turn r a b c d e f x y z w v first second third fourth last =
    two r a e f (((x ++ y) ++ z) ++ w) v (joined a d e ((x ++ y) ++ z) w (joined a c d (x ++ y) z (joined a b c x y first second) third) fourth) last

-- what is pushed stands at the end, where it was pushed
pub pushed : {E : Type 0} (r : Result (Unit {0}) E) (a b x : List ℕ) → b ≡ (if is_ok r then a ++ x else a) → OnOk r (b ≡ a ++ x)
pushed (Ok done) a b x is = is
pushed (Err why) a b x is = tt
