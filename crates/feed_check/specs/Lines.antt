-- What is said of the bytes of a file, and whether they are in order.
use Rattle.std.specs.Prelude.{◌≡◌, ◌≢◌, ◌<◌, ℕ, Bool, false, List, [], ◌∷◌, ◌++◌, codes, Option, Some, Result, Ok, Err}
use Rattle.std.specs.Result.{is_ok}
use Rattle.desk_ops.specs.declared.op.Op.{Op}
use Rattle.desk_ops.specs.OpSet.{OpSet, max_ops, no_ops, size, with_all}
use Rattle.desk_codec.specs.Fault.{IsFirstFault}
use Rattle.desk_codec.specs.Feed.{IsFeed}
use Rattle.text_copy.specs.Plain.{plain_text}
use Rattle.desk_signals.specs.declared.RibbonRow.{RibbonRow}
use Rattle.desk_caster.specs.Reading.{IsRibbon}
use Rattle.desk_caster.specs.Reading as castings
use Rattle.desk_caster.specs.declared.RibbonFault.{RibbonFault}
use Rattle.desk_caster.specs.declared.RibbonFault.TheVariants as ribbons
use Rattle.desk_case.specs.File.{case_of}
use Rattle.desk_wedge.specs.File.{wedge_of}
use Rattle.feed_check.specs.declared.kinds.Kind.{Kind}
use Rattle.feed_check.specs.declared.kinds.Kind.TheVariants as kinds
use Rattle.feed_check.specs.Kinds.{kind_of}
use Rattle.feed_check.specs.Rows.{fault_rows}
use Rattle.feed_check.specs.Strange.{SaysStrange}
use Rattle.feed_check.specs.Texts.{cells_in, fault_holders}
use Rattle.feed_check.specs.Words.{NoSet, Wrong, Crowded, case_words, feed_words, ribbon_words, wedge_words}

-- what bytes mean as a feed
abbrev pub IsSet : List ℕ → Result OpSet NoSet → Type 0
IsSet bytes (Ok set) = (ops : List Op) × IsFeed bytes ops × (set ≡ with_all no_ops ops)
IsSet bytes (Err (Wrong fault)) = IsFirstFault bytes fault
IsSet bytes (Err Crowded) = (ops : List Op) × IsFeed bytes ops × (max_ops < size (with_all no_ops ops))

-- what they mean as a ribbon
abbrev pub AreRows : List ℕ → Result (List RibbonRow) RibbonFault → Type 0
AreRows bytes (Ok rows) = IsRibbon bytes rows
AreRows bytes (Err fault) = castings.Reports bytes fault × (fault ≢ ribbons.NoMemory)

-- bytes have a meaning, this is said of it, and they are in order where it is no fault
abbrev pub Says : {V E : Type 0} → (List ℕ → Result V E → Type 0) → (Result V E → Option (List ℕ)) → List ℕ → List ℕ
    → Bool → Type 0
Says {V} {E} Means words bytes said well = (found : Result V E) × Means bytes found × (words found ≡ Some said)
    × (well ≡ is_ok found)

abbrev pub SaysFeed : List ℕ → List ℕ → Bool → Type 0
SaysFeed = Says IsSet feed_words

abbrev pub SaysRibbon : List ℕ → List ℕ → Bool → Type 0
SaysRibbon = Says AreRows ribbon_words

abbrev pub SaysCase : List ℕ → List ℕ → Bool → Type 0
SaysCase bytes said well =
    Says (λ l found. found ≡ case_of l)
    (case_words (cells_in bytes) (fault_holders bytes) (fault_rows bytes)) bytes said well

abbrev pub SaysWedge : List ℕ → List ℕ → Bool → Type 0
SaysWedge = Says (λ bytes found. found ≡ wedge_of bytes) wedge_words

-- by the kind of the bytes
abbrev pub SaysAs : Kind → List ℕ → List ℕ → Bool → Type 0
SaysAs kinds.Feed bytes said well = SaysFeed bytes said well
SaysAs kinds.Ribbon bytes said well = SaysRibbon bytes said well
SaysAs kinds.Case bytes said well = SaysCase bytes said well
SaysAs kinds.Wedge bytes said well = SaysWedge bytes said well
SaysAs kinds.Strange bytes said well = SaysStrange bytes said × (well ≡ false)

abbrev pub SaysBytes : List ℕ → List ℕ → Bool → Type 0
SaysBytes bytes said well = SaysAs (kind_of bytes) bytes said well

-- the line of a file: its name and what is said of it, as they are shown
abbrev pub line_of : List ℕ → List ℕ → List ℕ
line_of name said = plain_text name ++ codes " " ++ plain_text said ++ 10 ∷ []
