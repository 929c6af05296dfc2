-- Rows and the bytes of their images.
use Rattle.std.proofs.Common.{◌≡◌, ℕ, ◌+◌, ◌*◌, ◌<◌, ◌≤◌, ◌^◌, List, [], ◌∷◌, ◌++◌, length, take, drop, get_or, refl, sym, ap, ◌∙◌, arith, append_assoc, length-append, inl, inr}
use Rattle.std.specs.Prelude.{Option, Some, None}
use Rattle.std.specs.List.{AllByRecursion, flat_map}
use Rattle.std.specs.Int.{w32, to_be_bytes, from_be_bytes}
use Rattle.std.proofs.lemmas.Nat.{be_bytes_4, from_be_bytes-to_be_bytes_4}
use Rattle.std.proofs.lemmas.Bool.{cases_lt}
use Rattle.std.proofs.lemmas.List.{length-take, get_or-take, get_or_past, take-append-drop}
use Rattle.desk_signals.specs.Rows.{signals_of}
use Rattle.desk_image.proofs.Bits.{image_shows}
use Rattle.desk_image.proofs.ImageLaws.{images_are_one_to_one, rows_have_lawful_images}
use Rattle.desk_caster.specs.ReadingLaws.{RibbonsHaveNoFault, RibbonsHaveOneReading}
use Rattle.desk_signals.specs.declared.RibbonRow.{RibbonRow}
use Rattle.desk_signals.specs.Rows.{IsRow}
use Rattle.desk_image.specs.Images.{image, image_fault}
use Rattle.desk_image.specs.declared.BadImage.{BadImage}
use Rattle.desk_ribbon.specs.Ribbon.{image_bytes}
use Rattle.desk_caster.specs.Reading.{magic}
use Rattle.desk_caster.specs.declared.RibbonFault.TheVariants as fault

-- ---- a number at the start of bytes

taken_bytes : (n : ℕ) (bytes : List ℕ) → ((i : ℕ) → get_or bytes i 0 < 256) → (i : ℕ) → get_or (take n bytes) i 0 < 256
taken_bytes n bytes h i =
    elim (cases_lt i n) [
      | inl lt ↦ rw (get_or-take n bytes i 0 lt) (h i)
      | inr le ↦ rw (get_or_past (take n bytes) i 0 (omega (arith, length-take n bytes))) (omega arith)
    ]

pub number_there : (bytes prefix rest : List ℕ) (n : ℕ) → ((i : ℕ) → get_or bytes i 0 < 256) → 4 ≤ length bytes → prefix ≡ take 4 bytes → rest ≡ drop 4 bytes → n ≡ from_be_bytes w32 prefix → bytes ≡ to_be_bytes w32 n ++ rest
number_there bytes prefix rest n fits long f r e =
    let text : to_be_bytes w32 n ≡ take 4 bytes = be_bytes_4 (take 4 bytes) n (omega (arith, length-take 4 bytes)) (taken_bytes 4 bytes fits) (e ∙ ap (λ (b : List ℕ). from_be_bytes w32 b) f) in
    sym (take-append-drop 4 bytes) ∙ rw (← text, r) refl

pub number_same : (m n : ℕ) (x y : List ℕ) → m < 2 ^ 32 → n < 2 ^ 32 → to_be_bytes w32 m ++ x ≡ to_be_bytes w32 n ++ y → (m ≡ n) × (x ≡ y)
number_same m n x y p q e =
    (sym (from_be_bytes-to_be_bytes_4 m p) ∙ ap (λ (b : List ℕ). from_be_bytes w32 (take 4 b)) e ∙ from_be_bytes-to_be_bytes_4 n q, ap (λ (b : List ℕ). drop 4 b) e)

-- ---- the images of rows

length-number : (n : ℕ) → length (to_be_bytes w32 n) ≡ 4
length-number n = refl

-- four bytes for each
pub length-images : (rows : List RibbonRow) → length (flat_map image_bytes rows) ≡ 4 * length rows
length-images [] = refl
length-images (r ∷ rows) =
    let rest = length-images rows in
    let both : length (image_bytes r ++ flat_map image_bytes rows) ≡ length (image_bytes r) + length (flat_map image_bytes rows) = length-append (image_bytes r) (flat_map image_bytes rows) in
    let one : length (image_bytes r) ≡ 4 = length-number (image r) in
    omega (arith, rest, both, one)

image_fits : (row : RibbonRow) → image row < 2 ^ 32
image_fits row = let low = (image_shows (signals_of row)).0 in omega (arith, low)

-- images give the rows
pub same_rows : (a b : List RibbonRow) → AllByRecursion IsRow a → AllByRecursion IsRow b → flat_map image_bytes a ≡ flat_map image_bytes b → a ≡ b
same_rows [] [] p q e = refl
same_rows [] (s ∷ b) p q e = let f = ap length e in let g = length-images (s ∷ b) in absurd (omega (arith, f, g))
same_rows (r ∷ a) [] p q e = let f = ap length e in let g = length-images (r ∷ a) in absurd (omega (arith, f, g))
same_rows (r ∷ a) (s ∷ b) p q e =
    let parts = number_same (image r) (image s) (flat_map image_bytes a) (flat_map image_bytes b) (image_fits r) (image_fits s) e in
    let first : r ≡ s = images_are_one_to_one r s p.0 q.0 parts.0 in
    let rest : a ≡ b = same_rows a b p.1 q.1 parts.1 in
    λ i. first i ∷ rest i

some-none : (why : BadImage) (o : Option BadImage) → o ≡ None → o ≡ Some why → ⊥
some-none why o e f = cc

-- among the images of rows none has no meaning
no_bad : (before rows : List RibbonRow) (n : ℕ) (rest : List ℕ) (why : BadImage) → AllByRecursion IsRow before → AllByRecursion IsRow rows → n < 2 ^ 32 → image_fault n ≡ Some why →
    flat_map image_bytes rows ≡ flat_map image_bytes before ++ (to_be_bytes w32 n ++ rest) → ⊥
no_bad [] [] n rest why p q fits bad e =
    let f = ap length e in let g : length (to_be_bytes w32 n ++ rest) ≡ length (to_be_bytes w32 n) + length rest = length-append (to_be_bytes w32 n) rest in
    let one : length (to_be_bytes w32 n) ≡ 4 = length-number n in absurd (omega (arith, f, g, one))
no_bad (b ∷ before) [] n rest why p q fits bad e =
    let f = ap length e in
    let g : length ((image_bytes b ++ flat_map image_bytes before) ++ (to_be_bytes w32 n ++ rest)) ≡ length (image_bytes b ++ flat_map image_bytes before) + length (to_be_bytes w32 n ++ rest) = length-append (image_bytes b ++ flat_map image_bytes before) (to_be_bytes w32 n ++ rest) in
    let h = length-images (b ∷ before) in absurd (omega (arith, f, g, h))
no_bad [] (r ∷ rows) n rest why p q fits bad e =
    let parts = number_same (image r) n (flat_map image_bytes rows) rest (image_fits r) fits e in
    some-none why (image_fault n) (ap image_fault (sym parts.0) ∙ rows_have_lawful_images r q.0) bad
no_bad (b ∷ before) (r ∷ rows) n rest why p q fits bad e =
    let split : (image_bytes b ++ flat_map image_bytes before) ++ (to_be_bytes w32 n ++ rest) ≡ image_bytes b ++ (flat_map image_bytes before ++ (to_be_bytes w32 n ++ rest)) = rw append_assoc refl in
    let parts = number_same (image r) (image b) (flat_map image_bytes rows) (flat_map image_bytes before ++ (to_be_bytes w32 n ++ rest)) (image_fits r) (image_fits b) (e ∙ split) in
    no_bad before rows n rest why p.1 q.1 fits bad parts.1

-- ---- the laws

same_body : (bytes body images : List ℕ) (n : ℕ) → bytes ≡ magic ++ body → bytes ≡ magic ++ (to_be_bytes w32 n ++ images) → body ≡ to_be_bytes w32 n ++ images
same_body bytes body images n e f = ap (λ (b : List ℕ). drop 4 b) (sym e ∙ f)

pub ribbons_have_no_fault : RibbonsHaveNoFault
ribbons_have_no_fault bytes rows fault.Magic other is reports = reports _ is.is
ribbons_have_no_fault bytes rows fault.Count other is reports =
    reports.none (length rows) (flat_map image_bytes rows)
    (record { fits = is.number; split = same_body bytes reports.body (flat_map image_bytes rows) (length rows) reports.begins is.is; whole = length-images rows })
ribbons_have_no_fault bytes rows (fault.Row place why) other is reports =
    let body = same_body bytes reports.body (flat_map image_bytes rows) (length rows) reports.begins is.is in
    let parts = number_same (length rows) reports.number (flat_map image_bytes rows) reports.images is.number reports.counted.fits (sym body ∙ reports.counted.split) in
    no_bad reports.bad.before rows reports.bad.image reports.bad.rest why reports.bad.rows is.lawful reports.bad.fits reports.bad.bad (parts.1 ∙ reports.bad.split)
ribbons_have_no_fault bytes rows fault.NoMemory other is reports = other refl

pub ribbons_have_one_reading : RibbonsHaveOneReading
ribbons_have_one_reading bytes a b p q =
    let body = same_body bytes (to_be_bytes w32 (length a) ++ flat_map image_bytes a) (flat_map image_bytes b) (length b) p.is q.is in
    same_rows a b p.lawful q.lawful (number_same (length a) (length b) (flat_map image_bytes a) (flat_map image_bytes b) p.number q.number body).1
