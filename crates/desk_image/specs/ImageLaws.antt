-- Rows and lawful images are one to one.
use Rattle.std.specs.Prelude.{◌≡◌, ℕ, List, None}
use Rattle.desk_signals.specs.declared.Signal.{Signal}
use Rattle.desk_signals.specs.declared.RibbonRow.{RibbonRow}
use Rattle.desk_signals.specs.Rows.{IsRow}
use Rattle.desk_image.specs.Images.{Shows, image_of, image, image_fault}

-- The image of signals shows them.
abbrev pub ImagesShowSignals : Type 0
ImagesShowSignals = (signals : List Signal) → Shows (image_of signals) signals

-- One image at most shows given signals.
abbrev pub SignalsHaveOneImage : Type 0
SignalsHaveOneImage = (n m : ℕ) (signals : List Signal) → Shows n signals → Shows m signals → n ≡ m

-- No two rows have one image.
abbrev pub ImagesAreOneToOne : Type 0
ImagesAreOneToOne = (a b : RibbonRow) → IsRow a → IsRow b → image a ≡ image b → a ≡ b

-- The image of each row has no fault.
abbrev pub RowsHaveLawfulImages : Type 0
RowsHaveLawfulImages = (row : RibbonRow) → IsRow row → image_fault (image row) ≡ None
