-- What holds of the pictures of galleys.
use Rattle.std.specs.Prelude.{◌≡◌, List, Some}
use Rattle.desk_ops.specs.declared.op.Symbol.{Symbol}
use Rattle.desk_ops.specs.declared.fault.CopyFault.{CopyFault}
use Rattle.view_proof.specs.declared.reasons.NoGalley.{NoGalley}
use Rattle.view_galley.specs.Values.{GalleyValues}
use Rattle.feed_files.specs.Kinds.{kind_of}
use Rattle.feed_files.specs.declared.kinds.Kind.TheVariants as kinds
use Rattle.view_picture.specs.Picture.{no_galley_picture, picture_text}

-- the picture of a galley is a picture by its first bytes
abbrev pub PicturesAreKnown : Type 0
PicturesAreKnown = (copy : List Symbol) (faults : List CopyFault) (galley : GalleyValues)
    → kind_of (picture_text copy faults galley) ≡ Some kinds.Picture

-- so is that which says why there is none
abbrev pub RefusalsAreKnown : Type 0
RefusalsAreKnown = (faults : List CopyFault) (why : NoGalley)
    → kind_of (no_galley_picture faults why) ≡ Some kinds.Picture
