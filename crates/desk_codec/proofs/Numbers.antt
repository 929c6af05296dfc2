-- A number, a stamp, a style and a key are known by their bytes.
use Rattle.std.proofs.Common.{◌≡◌, ℕ, ◌+◌, ◌^◌, ◌<◌, ◌≤◌, length, get_or, List, ◌++◌, take, drop, refl, sym, ap, ◌∙◌, arith, inl, inr}
use Rattle.std.specs.Int.{w16, w32, w64, to_be_bytes, from_be_bytes}
use Rattle.std.proofs.lemmas.Nat.{be_bytes_2, be_bytes_4, be_bytes_8, from_be_bytes-to_be_bytes_2, from_be_bytes-to_be_bytes_4, from_be_bytes-to_be_bytes_8}
use Rattle.std.proofs.lemmas.Bool.{cases_lt}
use Rattle.std.proofs.lemmas.List.{length-take, length-drop, get_or-drop, get_or-take, get_or_past, take-append-drop}
use Rattle.desk_ops.specs.declared.op.Stamp.{Stamp}
use Rattle.desk_ops.specs.OrderLaws.{stamp_exact}
use Rattle.desk_codec.specs.Spelling.{stamp_spelling, IsStampValue}

pub number_same_2 : (m n : ℕ) (x y : List ℕ) → m < 2 ^ 16 → n < 2 ^ 16 → to_be_bytes w16 m ++ x ≡ to_be_bytes w16 n ++ y → (m ≡ n) × (x ≡ y)
number_same_2 m n x y p q e =
    (sym (from_be_bytes-to_be_bytes_2 m p) ∙ ap (λ (b : List ℕ). from_be_bytes w16 (take 2 b)) e ∙ from_be_bytes-to_be_bytes_2 n q, ap (λ (b : List ℕ). drop 2 b) e)

pub number_same_4 : (m n : ℕ) (x y : List ℕ) → m < 2 ^ 32 → n < 2 ^ 32 → to_be_bytes w32 m ++ x ≡ to_be_bytes w32 n ++ y → (m ≡ n) × (x ≡ y)
number_same_4 m n x y p q e =
    (sym (from_be_bytes-to_be_bytes_4 m p) ∙ ap (λ (b : List ℕ). from_be_bytes w32 (take 4 b)) e ∙ from_be_bytes-to_be_bytes_4 n q, ap (λ (b : List ℕ). drop 4 b) e)

pub number_same_8 : (m n : ℕ) (x y : List ℕ) → m < 2 ^ 64 → n < 2 ^ 64 → to_be_bytes w64 m ++ x ≡ to_be_bytes w64 n ++ y → (m ≡ n) × (x ≡ y)
number_same_8 m n x y p q e =
    (sym (from_be_bytes-to_be_bytes_8 m p) ∙ ap (λ (b : List ℕ). from_be_bytes w64 (take 8 b)) e ∙ from_be_bytes-to_be_bytes_8 n q, ap (λ (b : List ℕ). drop 8 b) e)

pub stamp_same : (s t : Stamp) (x y : List ℕ) → IsStampValue s → IsStampValue t → stamp_spelling s ++ x ≡ stamp_spelling t ++ y → (s ≡ t) × (x ≡ y)
stamp_same s t x y p q e =
    let c = number_same_8 s.counter t.counter (to_be_bytes w16 s.site ++ x) (to_be_bytes w16 t.site ++ y) p.0 q.0 e in
    let d = number_same_2 s.site t.site x y p.1 q.1 c.1 in
    (stamp_exact s t c.0 d.0, d.1)

-- ---- numbers at the start of bytes

abbrev pub IsBytes : List ℕ → Type 0
IsBytes bytes = (i : ℕ) → get_or bytes i 0 < 256

pub IsBytes-drop : (n : ℕ) (bytes : List ℕ) → IsBytes bytes → IsBytes (drop n bytes)
IsBytes-drop n bytes h i = rw get_or-drop (h (n + i))

pub IsBytes-take : (n : ℕ) (bytes : List ℕ) → IsBytes bytes → IsBytes (take n bytes)
IsBytes-take n bytes h i =
    elim (cases_lt i n) [
      | inl lt ↦ rw (get_or-take n bytes i 0 lt) (h i)
      | inr le ↦ rw (get_or_past (take n bytes) i 0 (omega (arith, length-take n bytes))) (omega arith)
    ]

pub number_there_2 : (bytes prefix rest : List ℕ) (n : ℕ) → IsBytes bytes → 2 ≤ length bytes → prefix ≡ take 2 bytes → rest ≡ drop 2 bytes → n ≡ from_be_bytes w16 prefix → bytes ≡ to_be_bytes w16 n ++ rest
number_there_2 bytes prefix rest n fits long f r e =
    let text : to_be_bytes w16 n ≡ take 2 bytes = be_bytes_2 (take 2 bytes) n (omega (arith, length-take 2 bytes)) (IsBytes-take 2 bytes fits) (e ∙ ap (λ (b : List ℕ). from_be_bytes w16 b) f) in
    sym (take-append-drop 2 bytes) ∙ rw (← text, r) refl

pub number_there_4 : (bytes prefix rest : List ℕ) (n : ℕ) → IsBytes bytes → 4 ≤ length bytes → prefix ≡ take 4 bytes → rest ≡ drop 4 bytes → n ≡ from_be_bytes w32 prefix → bytes ≡ to_be_bytes w32 n ++ rest
number_there_4 bytes prefix rest n fits long f r e =
    let text : to_be_bytes w32 n ≡ take 4 bytes = be_bytes_4 (take 4 bytes) n (omega (arith, length-take 4 bytes)) (IsBytes-take 4 bytes fits) (e ∙ ap (λ (b : List ℕ). from_be_bytes w32 b) f) in
    sym (take-append-drop 4 bytes) ∙ rw (← text, r) refl

pub number_there_8 : (bytes prefix rest : List ℕ) (n : ℕ) → IsBytes bytes → 8 ≤ length bytes → prefix ≡ take 8 bytes → rest ≡ drop 8 bytes → n ≡ from_be_bytes w64 prefix → bytes ≡ to_be_bytes w64 n ++ rest
number_there_8 bytes prefix rest n fits long f r e =
    let text : to_be_bytes w64 n ≡ take 8 bytes = be_bytes_8 (take 8 bytes) n (omega (arith, length-take 8 bytes)) (IsBytes-take 8 bytes fits) (e ∙ ap (λ (b : List ℕ). from_be_bytes w64 b) f) in
    sym (take-append-drop 8 bytes) ∙ rw (← text, r) refl

pub stamp_there : (bytes one rest two end : List ℕ) (s : Stamp) → IsBytes bytes → 10 ≤ length bytes → one ≡ take 8 bytes → rest ≡ drop 8 bytes → s.counter ≡ from_be_bytes w64 one → two ≡ take 2 rest → end ≡ drop 2 rest → s.site ≡ from_be_bytes w16 two
    → bytes ≡ stamp_spelling s ++ end
stamp_there bytes one rest two end s fits long a b c d e f =
    let rest_fits : IsBytes rest = rw b (IsBytes-drop 8 bytes fits) in
    let len : 2 ≤ length rest = rw b (omega (arith, length-drop 8 bytes)) in
    let first = number_there_8 bytes one rest s.counter fits (omega arith) a b c in
    let second = number_there_2 rest two end s.site rest_fits len d e f in
    first ∙ ap (λ (l : List ℕ). to_be_bytes w64 s.counter ++ l) second
