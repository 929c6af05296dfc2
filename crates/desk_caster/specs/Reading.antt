-- Bytes that are a ribbon, and the first fault of those that are none.
use Rattle.std.specs.Prelude.{◌≡◌, ℕ, ◌*◌, ◌<◌, ◌^◌, List, ◌++◌, length, codes, Some}
use Rattle.std.specs.List.{AllByRecursion, flat_map}
use Rattle.std.specs.Int.{w32, to_be_bytes}
use Rattle.desk_signals.specs.declared.RibbonRow.{RibbonRow}
use Rattle.desk_signals.specs.Rows.{IsRow}
use Rattle.desk_image.specs.Images.{image_fault}
use Rattle.desk_image.specs.declared.BadImage.{BadImage}
use Rattle.desk_ribbon.specs.Ribbon.{image_bytes, ribbon}
use Rattle.desk_caster.specs.declared.RibbonFault.{RibbonFault}
use Rattle.desk_caster.specs.declared.RibbonFault.TheVariants as fault

abbrev pub magic : List ℕ
magic = codes "MRB1"

-- the images of rows
pub record AreImages (rows : List RibbonRow) (bytes : List ℕ) : Type 0 where
  pub images : bytes ≡ flat_map image_bytes rows
  pub lawful : AllByRecursion IsRow rows

-- the ribbon of rows
pub record IsRibbon (bytes : List ℕ) (rows : List RibbonRow) : Type 0 where
  pub is : bytes ≡ ribbon rows
  pub number : length rows < 2 ^ 32
  pub lawful : AllByRecursion IsRow rows

-- the bytes begin with images of rows, as many as the place says, and then one that has no meaning
pub record IsBadRow (bytes : List ℕ) (place : ℕ) (why : BadImage) : Type 0 where
  pub before : List RibbonRow
  pub rows : AllByRecursion IsRow before
  pub there : length before ≡ place
  pub image : ℕ
  pub fits : image < 2 ^ 32
  pub rest : List ℕ
  pub split : bytes ≡ flat_map image_bytes before ++ (to_be_bytes w32 image ++ rest)
  pub bad : image_fault image ≡ Some why

-- a number of rows, and as many images
pub record IsCounted (bytes : List ℕ) (number : ℕ) (images : List ℕ) : Type 0 where
  pub fits : number < 2 ^ 32
  pub split : bytes ≡ to_be_bytes w32 number ++ images
  pub whole : length images ≡ 4 * number

-- the magic, a number of rows and as many images stand there, and one of them has no meaning
pub record HasBadRow (bytes : List ℕ) (place : ℕ) (why : BadImage) : Type 0 where
  pub body : List ℕ
  pub begins : bytes ≡ magic ++ body
  pub number : ℕ
  pub images : List ℕ
  pub counted : IsCounted body number images
  pub bad : IsBadRow images place why

-- the magic stands there, and then no number of rows with as many images
pub record HasNoCount (bytes : List ℕ) : Type 0 where
  pub body : List ℕ
  pub begins : bytes ≡ magic ++ body
  pub none : (number : ℕ) (images : List ℕ) → IsCounted body number images → ⊥

-- the fault of images; out of memory may be that of any
abbrev pub ReportsRow : List ℕ → RibbonFault → Type 0
ReportsRow images fault.Magic = ⊥
ReportsRow images fault.Count = ⊥
ReportsRow images (fault.Row place why) = IsBadRow images place why
ReportsRow images fault.NoMemory = Unit {0}

-- the fault of bytes is their first; out of memory may be that of any
abbrev pub Reports : List ℕ → RibbonFault → Type 0
Reports bytes fault.Magic = (body : List ℕ) → bytes ≡ magic ++ body → ⊥
Reports bytes fault.Count = HasNoCount bytes
Reports bytes (fault.Row place why) = HasBadRow bytes place why
Reports bytes fault.NoMemory = Unit {0}

-- the magic, a number of rows that is not 0 and as many images stand there: such bytes alone take memory
pub record MayHoldOne (bytes : List ℕ) : Type 0 where
  pub body : List ℕ
  pub begins : bytes ≡ magic ++ body
  pub number : ℕ
  pub some : 0 < number
  pub images : List ℕ
  pub counted : IsCounted body number images
