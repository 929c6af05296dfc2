-- Cutting bytes into lines, from the first byte and from the last.
use Rattle.std.proofs.Common.{◌≡◌, ℕ, ◌+◌, ◌<◌, ◌≤◌, ◌==◌, ◌&&◌, cond, Bool, true, false, List, [], ◌∷◌, ◌++◌, map, length, length-append, refl, sym, ap, ◌∙◌, append_assoc, arith, eq-eqb}
use Rattle.std.specs.Prelude.{nat_le, if◌then◌else◌}
use Rattle.std.proofs.Math.Bool.{and-false, and-true}
use Rattle.std.proofs.lemmas.Bool.{ne_eqb}
use Rattle.std.proofs.lemmas.Bool.Decides.{nat_tests}
use Rattle.std.specs.List.{onto_first}
use Rattle.std.proofs.lemmas.List.{append-nil}
use Rattle.desk_script.specs.Line.{Line, Bytes, Long, line_of, max_line}
use Rattle.desk_script.specs.Lines.{is_empty, pieces, without_cr, ended, lines_of_pieces, lines}
use Rattle.desk_script.specs.Pending.{last_line, lines_from}
use Rattle.desk_ops.proofs.Stamps.{by_cases}

-- a line feed ends what is pending
pub from_end : (pending bytes : List ℕ) (b : ℕ) → (b == 10) ≡ true → lines_from pending (b ∷ bytes) ≡ line_of (without_cr pending) ∷ lines_from [] bytes
from_end pending bytes b e = ap (λ t. elim t [ true ↦ line_of (without_cr pending) ∷ lines_from [] bytes | false ↦ lines_from (pending ++ b ∷ []) bytes ]) e

pub from_byte : (pending bytes : List ℕ) (b : ℕ) → (b == 10) ≡ false → lines_from pending (b ∷ bytes) ≡ lines_from (pending ++ b ∷ []) bytes
from_byte pending bytes b e = ap (λ t. elim t [ true ↦ line_of (without_cr pending) ∷ lines_from [] bytes | false ↦ lines_from (pending ++ b ∷ []) bytes ]) e

abbrev onto : List ℕ → List (List ℕ) → List (List ℕ)
onto pending [] = []
onto pending (piece ∷ pieces) = (pending ++ piece) ∷ pieces

some_pieces : (bytes : List ℕ) → (first : List ℕ) × (rest : List (List ℕ)) × (pieces bytes ≡ first ∷ rest)
some_pieces [] = ([], [], refl)
some_pieces (b ∷ bytes) =
    let (first, rest, is) = some_pieces bytes in
    by_cases (b == 10) (λ e. ([], pieces bytes, ap (λ t. cond t ([] ∷ pieces bytes) (onto_first b (pieces bytes))) e))
    (λ e. (b ∷ first, rest, ap (λ t. cond t ([] ∷ pieces bytes) (onto_first b (pieces bytes))) e ∙ ap (onto_first b) is))

abbrev cut : List (List ℕ) → List Line
cut ps = map line_of (lines_of_pieces ps)

at_last : (pending : List ℕ) → last_line pending ≡ map line_of (ended pending [])
at_last [] = refl
at_last (b ∷ pending) = refl

from_is : (pending bytes : List ℕ) → lines_from pending bytes ≡ cut (onto pending (pieces bytes))
from_is pending [] = at_last pending ∙ ap (λ p. map line_of (ended p [])) (sym (append-nil pending))
from_is pending (b ∷ bytes) =
    let (first, rest, is) = some_pieces bytes in
    by_cases (b == 10)
    (λ e. from_end pending bytes b e ∙ ap (λ l. line_of (without_cr pending) ∷ l) (from_is [] bytes ∙ ap (λ p. cut (onto [] p)) is)
    ∙ sym (ap (λ t. cut (onto pending (cond t ([] ∷ pieces bytes) (onto_first b (pieces bytes))))) e
    ∙ ap (λ p. map line_of (ended p (pieces bytes))) (append-nil pending) ∙ ap (λ p. map line_of (ended pending p)) is))
    (λ e. from_byte pending bytes b e ∙ from_is (pending ++ b ∷ []) bytes ∙ ap (λ p. cut (onto (pending ++ b ∷ []) p)) is
    ∙ ap (λ p. map line_of (ended p rest)) (append_assoc pending (b ∷ []) first)
    ∙ sym (ap (λ t. cut (onto pending (cond t ([] ∷ pieces bytes) (onto_first b (pieces bytes))))) e
    ∙ ap (λ p. cut (onto pending (onto_first b p))) is))

pub lines-from : (input : List ℕ) → lines_from [] input ≡ lines input
lines-from input =
    let (first, rest, is) = some_pieces input in
    from_is [] input ∙ ap (λ p. cut (onto [] p)) is ∙ sym (ap cut is)

-- of a byte that is kept a line comes
pub line_to_come : (pending : List ℕ) (b : ℕ) (more : List ℕ) → (next : Line) × (tail : List Line) × (lines_from (pending ++ b ∷ []) more ≡ next ∷ tail)
line_to_come [] b [] = (line_of (b ∷ []), [], refl)
line_to_come (c ∷ pending) b [] = (line_of (c ∷ pending ++ b ∷ []), [], refl)
line_to_come pending b (d ∷ more) =
    by_cases (d == 10) (λ e. (line_of (without_cr (pending ++ b ∷ [])), lines_from [] more, from_end (pending ++ b ∷ []) more d e))
    (λ e. let (next, tail, is) = line_to_come (pending ++ b ∷ []) d more in (next, tail, from_byte (pending ++ b ∷ []) more d e ∙ is))

-- the end of a line
not_end : (c b : ℕ) (cs : List ℕ) (x y : List ℕ) → cond (c == 13 && is_empty (cs ++ b ∷ [])) x y ≡ y
not_end c b [] x y = ap (λ t. cond t x y) (and-false (c == 13))
not_end c b (d ∷ cs) x y = ap (λ t. cond t x y) (and-false (c == 13))

pub without_cr-push : (prefix : List ℕ) (b : ℕ) → without_cr (prefix ++ b ∷ []) ≡ cond (b == 13) prefix (prefix ++ b ∷ [])
without_cr-push [] b = ap (λ t. cond t [] (b ∷ [])) (and-true (b == 13))
without_cr-push (c ∷ prefix) b =
    not_end c b prefix [] (c ∷ without_cr (prefix ++ b ∷ [])) ∙ ap (λ l. c ∷ l) (without_cr-push prefix b) ∙ each (b == 13)
  where
    each : (t : Bool) → (c ∷ cond t prefix (prefix ++ b ∷ [])) ≡ cond t (c ∷ prefix) (c ∷ (prefix ++ b ∷ []))
    each true = refl
    each false = refl

pub cr_taken : (line prefix : List ℕ) (b : ℕ) → line ≡ prefix ++ b ∷ [] → b ≡ 13 → prefix ≡ without_cr line
cr_taken line prefix b is e = sym (ap without_cr is ∙ without_cr-push prefix b ∙ ap (λ t. cond t prefix (prefix ++ b ∷ [])) (eq-eqb b 13 e))

pub cr_absent : (line prefix : List ℕ) (b : ℕ) → line ≡ prefix ++ b ∷ [] → (b ≡ 13 → ⊥) → line ≡ without_cr line
cr_absent line prefix b is other = is ∙ sym (ap without_cr is ∙ without_cr-push prefix b ∙ ap (λ t. cond t prefix (prefix ++ b ∷ [])) (ne_eqb b 13 other))

pub last_some : (line : List ℕ) → (length line == 0) ≡ false → last_line line ≡ line_of line ∷ []
last_some [] e = absurd (let f : true ≡ false = e in cc)
last_some (b ∷ line) e = refl

-- ---- a line that is too long, whatever follows

is_long : (b : Bool) (x : List ℕ) → b ≡ false → (if b then Bytes x else Long) ≡ Long
is_long b x e = ap (λ t. if t then Bytes x else Long) e

above : (n : ℕ) → max_line < n → nat_le n max_line ≡ false
above n h = grind (arith, nat_tests)

pub long_line : (bytes : List ℕ) → max_line < length bytes → line_of bytes ≡ Long
long_line bytes h = is_long (nat_le (length bytes) max_line) bytes (above (length bytes) h)

shorter : (t : Bool) (c : ℕ) (bytes : List ℕ) → length (c ∷ bytes) ≤ length (cond (t && is_empty bytes) [] (c ∷ without_cr bytes)) + 1
shorter t c [] = elim t as (λ v. length (c ∷ []) ≤ length (cond (v && true) [] (c ∷ [])) + 1) [ true ↦ omega arith | false ↦ omega arith ]
shorter t c (d ∷ bytes) =
    let rest : length (d ∷ bytes) ≤ length (without_cr (d ∷ bytes)) + 1 = shorter (d == 13) d bytes in
    elim t as (λ v. length (c ∷ d ∷ bytes) ≤ length (cond (v && false) [] (c ∷ without_cr (d ∷ bytes))) + 1) [ true ↦ omega (arith, rest) | false ↦ omega (arith, rest) ]

without_cr-length : (bytes : List ℕ) → length bytes ≤ length (without_cr bytes) + 1
without_cr-length [] = omega arith
without_cr-length (c ∷ bytes) = shorter (c == 13) c bytes

pub long_before_end : (pending : List ℕ) → max_line + 2 ≤ length pending → line_of (without_cr pending) ≡ Long
long_before_end pending h = long_line (without_cr pending) (omega (arith, without_cr-length pending))

last_long : (pending : List ℕ) → max_line + 2 ≤ length pending → last_line pending ≡ Long ∷ []
last_long [] h = absurd (omega arith)
last_long (b ∷ pending) h = ap (λ l. l ∷ []) (long_line (b ∷ pending) (omega arith))

pushed : (pending : List ℕ) (b : ℕ) → max_line + 2 ≤ length pending → max_line + 2 ≤ length (pending ++ b ∷ [])
pushed pending b h = omega (arith, length-append pending (b ∷ []))

-- a byte more is not missed
pub long_more : (pending : List ℕ) (b : ℕ) (more : List ℕ) → max_line + 2 ≤ length pending → lines_from (pending ++ b ∷ []) more ≡ lines_from pending more
long_more pending b [] h = last_long (pending ++ b ∷ []) (pushed pending b h) ∙ sym (last_long pending h)
long_more pending b (c ∷ more) h =
    by_cases (c == 10)
    (λ e. from_end (pending ++ b ∷ []) more c e ∙ ap (λ l. l ∷ lines_from [] more) (long_before_end (pending ++ b ∷ []) (pushed pending b h) ∙ sym (long_before_end pending h))
    ∙ sym (from_end pending more c e))
    (λ e. from_byte (pending ++ b ∷ []) more c e ∙ long_more (pending ++ b ∷ []) c more (pushed pending b h) ∙ long_more pending b more h
    ∙ sym (long_more pending c more h) ∙ sym (from_byte pending more c e))

pub skips : (pending more : List ℕ) (b : ℕ) → (b == 10) ≡ false → max_line + 2 ≤ length pending → lines_from pending (b ∷ more) ≡ lines_from pending more
skips pending more b e h = from_byte pending more b e ∙ long_more pending b more h
