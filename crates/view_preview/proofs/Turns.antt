-- What texts try, one text after the other.
use Rattle.std.proofs.Common.{◌≡◌, ℕ, zero, suc, ◌+◌, ◌<◌, ◌≤◌, List, [], ◌∷◌, length, drop, get_or, refl, sym, ap, ◌∙◌, Option, Some, None, arith, drop-cons, add-one}
use Rattle.std.specs.Prelude.{◌≢◌}
use Rattle.std.specs.Borrow.{Bor}
use Rattle.desk_ops.specs.declared.op.Key.{Key}
use Rattle.desk_replica.specs.declared.settings.Settings.{Settings}
use Rattle.script_answers.specs.Reading.{◌>>=◌}
use Rattle.view_preview.specs.Trial.{HasLine, first_idle, line_of, set_in, trial_from, tried_by, with_value}

some_none : (found : Key × ℕ) (o : Option (Key × ℕ)) → o ≡ None → o ≡ Some found → ⊥
some_none found o none some = cc

-- a text that tries something stands for a command
has_line : (text : List ℕ) (found : Key × ℕ) → tried_by text ≡ Some found → line_of text ≢ None
unfolding tried_by
has_line text found is none = some_none found (line_of text >>= set_in) (ap (λ l. l >>= set_in) none) is

tried_on : (settings new : Settings) (text : Bor (List ℕ)) (rest : List (Bor (List ℕ))) (key : Key) (value : ℕ) → tried_by text.now ≡ Some (key, value) →
    new ≡ with_value settings key value → trial_from settings (text ∷ rest) ≡ trial_from new rest
tried_on settings new text rest key value is same = rw (is, same) refl

idle_on : (here : ℕ) (text : Bor (List ℕ)) (rest : List (Bor (List ℕ))) (found : Key × ℕ) → tried_by text.now ≡ Some found →
    first_idle here (text ∷ rest) ≡ first_idle (here + 1) rest
idle_on here text rest found is = rw (is, add-one) refl

-- the text at a place, and those after it
split : (texts : List (Bor (List ℕ))) (i : ℕ) (d : Bor (List ℕ)) → i < length texts → drop i texts ≡ get_or texts i d ∷ drop (i + 1) texts
split texts i d below = rw (add-one, drop-cons texts i d below) refl

-- with the next text
pub tried_next : (texts : List (Bor (List ℕ))) (i : ℕ) (d : Bor (List ℕ)) (settings new : Settings) (key : Key) (value : ℕ) (all : Option Settings) → i < length texts →
    tried_by (get_or texts i d).now ≡ Some (key, value) → new ≡ with_value settings key value → trial_from settings (drop i texts) ≡ all →
    trial_from new (drop (i + 1) texts) ≡ all
tried_next texts i d settings new key value all below is same before =
    sym (tried_on settings new (get_or texts i d) (drop (i + 1) texts) key value is same) ∙ (ap (trial_from settings) (sym (split texts i d below)) ∙ before)

pub idle_next : (texts : List (Bor (List ℕ))) (i : ℕ) (d : Bor (List ℕ)) (found : Key × ℕ) (all : Option ℕ) → i < length texts → tried_by (get_or texts i d).now ≡ Some found →
    first_idle i (drop i texts) ≡ all → first_idle (i + 1) (drop (i + 1) texts) ≡ all
idle_next texts i d found all below is before =
    sym (idle_on i (get_or texts i d) (drop (i + 1) texts) found is) ∙ (ap (first_idle i) (sym (split texts i d below)) ∙ before)

pub line_next : (texts : List (Bor (List ℕ))) (i : ℕ) (d : Bor (List ℕ)) (found : Key × ℕ) → i < length texts → tried_by (get_or texts i d).now ≡ Some found →
    (1 ≤ i → HasLine texts) → 1 ≤ i + 1 → HasLine texts
line_next [] i d found below is before some = absurd (omega arith)
line_next (text ∷ rest) zero d found below is before some = has_line text.now found is
line_next (text ∷ rest) (suc i) d found below is before some = before (omega arith)
