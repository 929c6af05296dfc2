-- Images: signals as the bits of a number.
use Rattle.std.specs.Prelude.{◌≡◌, ℕ, ◌-◌, ◌^◌, ◌<◌, cond, if◌then◌else◌, ◌==◌, nat_le, List, [], ◌∷◌, bit_or, Option}
use Rattle.std.specs.Prelude.{Some, None}
use Rattle.std.specs.Int.{bit_at}
use Rattle.std.specs.List.{filter}
use Rattle.desk_signals.specs.declared.BadRow.{BadRow}
use Rattle.desk_signals.specs.declared.Signal.{Signal}
use Rattle.desk_signals.specs.declared.RibbonRow.{RibbonRow}
use Rattle.desk_signals.specs.Rows.{place, has, the_signals, signals_of, fault_of}
use Rattle.desk_image.specs.declared.BadImage.{BadImage}
use Rattle.desk_image.specs.declared.BadImage.TheVariants.{HighBit, Row}

-- the bit of a signal: 30 for the first, 0 for the last
abbrev pub bit : Signal → ℕ
bit x = 30 - place x

-- The image shows the signals: the bit of each is set, and no other.
abbrev pub Shows : ℕ → List Signal → Type 0
Shows image signals = (image < 2 ^ 31) × ((x : Signal) → bit_at image (bit x) ≡ cond (has signals x) 1 0)

-- the image of signals
abbrev pub image_of : List Signal → ℕ
image_of [] = 0
image_of (x ∷ signals) = bit_or (2 ^ bit x) (image_of signals)

-- the image of a row
abbrev pub image : RibbonRow → ℕ
image row = image_of (signals_of row)

-- the signals whose bits are set, in signal order
abbrev pub signals_in : ℕ → List Signal
signals_in image = filter (λ x. bit_at image (bit x) == 1) the_signals

abbrev pub row_fault : Option BadRow → Option BadImage
row_fault None = None
row_fault (Some why) = Some (Row why)

-- why an image is no row, the first cause that holds
abbrev pub image_fault : ℕ → Option BadImage
image_fault image = if nat_le (2 ^ 31) image then Some HighBit else row_fault (fault_of (signals_in image))
