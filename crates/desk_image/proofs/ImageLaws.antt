-- Rows and lawful images are one to one.
use Rattle.std.proofs.Common.{◌≡◌, ℕ, ◌^◌, ◌<◌, Bool, true, false, cond, List, refl, sym, ap, subst, ◌∙◌, eqb, Some, None, Result, Ok, Err}
use Rattle.std.proofs.lemmas.Bool.{lt-leb}
use Rattle.std.specs.Int.{bit_at}
use Rattle.std.specs.Result.{result_err, IfOk}
use Rattle.desk_signals.specs.declared.Signal.{Signal}
use Rattle.desk_signals.specs.declared.RibbonRow.{RibbonRow}
use Rattle.desk_signals.specs.Rows.{IsRow, Spells, signals_of, has, fault_of}
use Rattle.desk_signals.proofs.RowLaws.{rows_are_signal_sets, signals_have_one_row}
use Rattle.desk_signals.proofs.Reading.{spelled_faultless}
use Rattle.desk_image.specs.Images.{bit, image, signals_in, image_fault, row_fault}
use Rattle.desk_image.specs.declared.BadImage.{BadImage}
use Rattle.desk_image.specs.declared.BadImage.TheVariants.{HighBit}
use Rattle.desk_image.specs.ImageLaws.{ImagesShowSignals, RowsHaveLawfulImages, SignalsHaveOneImage, ImagesAreOneToOne}
use Rattle.desk_image.proofs.Bits.{one_image, image_shows, in_once, in_has, in_shows, shown_bit}

pub images_show_signals : ImagesShowSignals
images_show_signals = image_shows

pub signals_have_one_image : SignalsHaveOneImage
signals_have_one_image = one_image

one_or_not : (b : Bool) → eqb (cond b 1 0) 1 ≡ b
one_or_not true = refl
one_or_not false = refl

-- the image of a row shows the row's signals and no others
pub image_spells : (n : ℕ) (row : RibbonRow) → IsRow row → image row ≡ n → Spells (signals_in n) row
image_spells n row is e =
    (rows_are_signal_sets (signals_in n) row is).1 (
      in_once n,
      λ x. in_has n x
          ∙ (ap (λ (k : ℕ). eqb (bit_at k (bit x)) 1) (sym e)
          ∙ (ap (λ (k : ℕ). eqb k 1) (shown_bit (signals_of row) x) ∙ one_or_not (has (signals_of row) x))),
    )

-- an image that shows the signals of a row is its image
pub spelled_image : (n : ℕ) (row : RibbonRow) → n < 2 ^ 31 → IsRow row → Spells (signals_in n) row → image row ≡ n
spelled_image n row below is spells =
    let alike = ((rows_are_signal_sets (signals_in n) row is).0 spells).1 in
    let shows = in_shows n below in
    one_image (image row) n (signals_of row) (image_shows (signals_of row))
    (below, λ x. shows.1 x ∙ ap (λ b. cond b 1 0) (alike x))

pub row_image : (n : ℕ) (xs : List Signal) (row : RibbonRow) → xs ≡ signals_in n → n < 2 ^ 31 → IsRow row → Spells xs row → image row ≡ n
row_image n xs row e below is spells = spelled_image n row below is (subst (λ ys. Spells ys row) e spells)

pub images_are_one_to_one : ImagesAreOneToOne
images_are_one_to_one a b is_a is_b e =
    signals_have_one_row (signals_in (image b)) a b is_a is_b (image_spells (image b) a is_a e) (image_spells (image b) b is_b refl)

pub no_fault : (n : ℕ) → n < 2 ^ 31 → fault_of (signals_in n) ≡ None → image_fault n ≡ None
no_fault n below none =
    ap (λ b. cond b (Some HighBit) (row_fault (fault_of (signals_in n)))) (lt-leb (2 ^ 31) n below) ∙ ap row_fault none

pub rows_have_lawful_images : RowsHaveLawfulImages
rows_have_lawful_images row is =
    no_fault (image row) (image_shows (signals_of row)).0 (spelled_faultless (signals_in (image row)) row is (image_spells (image row) row is refl))

-- the answer at the image of a row
pub the_answer : (n : ℕ) (r : Result RibbonRow BadImage) → result_err r ≡ image_fault n → IfOk r IsRow → IfOk r (λ row. image row ≡ n) →
    (row : RibbonRow) → IsRow row → image row ≡ n → r ≡ Ok row
the_answer n (Ok a) e is_a image_a row is at = ap (λ (b : RibbonRow). Ok b) (images_are_one_to_one a row is_a is (image_a ∙ sym at))
the_answer n (Err why) e is_a image_a row is at =
    let f = ap image_fault (sym at) ∙ rows_have_lawful_images row is in absurd (cc)
