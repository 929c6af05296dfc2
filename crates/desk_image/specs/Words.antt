-- How an image that is no row reads in a message.
use Rattle.std.specs.Prelude.{ℕ, List, codes}
use Rattle.desk_signals.specs.Words.{bad_row_words}
use Rattle.desk_image.specs.declared.BadImage.{BadImage}
use Rattle.desk_image.specs.declared.BadImage.TheVariants as bad

-- why an image is no row
abbrev pub bad_image_words : BadImage → List ℕ
bad_image_words bad.HighBit = codes "bit 31 is set"
bad_image_words (bad.Row why) = bad_row_words why
