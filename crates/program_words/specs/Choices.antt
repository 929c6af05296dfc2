-- What options choose together: the lines or the figures of a ribbon, a feed or a text, how faults are written, and how
-- high pages are.
use Rattle.std.specs.Prelude.{◌≡◌, ◌⊎◌, ◌≤◌, ◌<◌, ◌==◌, ℕ, Bool, true, false, ◌∷◌, Option, Some, None, codes, length}
use Rattle.std.specs.Prelude.{if◌then◌else◌}
use Rattle.std.specs.List.{after_first, before_first, position_or_len}
use Rattle.std.specs.Str.Parse.{IsNumeral, digits_value, without_leading_plus}
use Rattle.std.proofs.Common.{eqb}
use Rattle.clap.specs.Words.{Text}
use Rattle.program_words.specs.declared.choices.Extent.{Extent}
use Rattle.program_words.specs.declared.choices.Extent.TheVariants as extents
use Rattle.program_words.specs.declared.choices.Form.{Form}
use Rattle.program_words.specs.declared.choices.Form.TheVariants as forms
use Rattle.program_words.specs.declared.choices.Source.{Source}
use Rattle.program_words.specs.declared.choices.Source.TheVariants as sources

-- ---- numbers in a text

-- the text is a whole number in digits, where a plus may stand first
abbrev pub IsNumber : Text → ℕ → Type 0
IsNumber text n = IsNumeral 10 (without_leading_plus text) × (digits_value 10 (without_leading_plus text) ≡ n)

-- what is before the first such sign of a text, and what is behind it
unfoldable pub parts_at : ℕ → Text → Option (Text × Text)
parts_at sign text =
    if position_or_len (λ b. eqb b sign) text == length text then None
    else Some (before_first (λ b. eqb b sign) text, after_first (λ b. eqb b sign) text)

-- a text as `2..4`: two numbers from 1 on, the second no smaller, around the first point and one behind it
abbrev pub IsRange : Text → ℕ → ℕ → Type 0
IsRange text first last = (one other : Text) × (parts_at 46 text ≡ Some (one, 46 ∷ other)) × IsNumber one first
    × IsNumber other last × (1 ≤ first) × (first ≤ last) × (last < 18446744073709551616)

-- a text as `1/8`: two numbers of 16 bits, from 1 on, around the first slash
abbrev pub IsPitch : Text → ℕ → ℕ → Type 0
IsPitch text over under = (one other : Text) × (parts_at 47 text ≡ Some (one, other)) × IsNumber one over
    × IsNumber other under × (1 ≤ over) × (over < 65536) × (1 ≤ under) × (under < 65536)

-- ---- what is written of a ribbon

abbrev pub ShowsLines : Text → Extent → Type 0
ShowsLines text extents.Whole = ⊥
ShowsLines text (extents.Lines first last) = IsRange text first last
ShowsLines text (extents.Figures over under) = ⊥

-- the way of a row is 1/8 inch where none is given
abbrev pub ShowsFigures : Option Text → Extent → Type 0
ShowsFigures pitch extents.Whole = ⊥
ShowsFigures pitch (extents.Lines first last) = ⊥
ShowsFigures None (extents.Figures over under) = (over ≡ 1) × (under ≡ 8)
ShowsFigures (Some text) (extents.Figures over under) = IsPitch text over under

-- by the texts of `--lines` and `--pitch`, and whether `--stats` is set: the last two together, and neither with the
-- first
abbrev pub IsShownBy : (lines : Option Text) → (stats : Bool) → (pitch : Option Text) → Extent → Type 0
IsShownBy None false None extent = extent ≡ extents.Whole
IsShownBy None false (Some pitch) extent = ⊥
IsShownBy None true pitch extent = ShowsFigures pitch extent
IsShownBy (Some text) false None extent = ShowsLines text extent
IsShownBy (Some text) false (Some pitch) extent = ⊥
IsShownBy (Some text) true pitch extent = ⊥

-- ---- what a galley is of

-- by the name of a feed, that of a text, a counter, and whether `--plain` is set: one name of the two, the counter
-- with a feed alone, the flag with a text alone
abbrev pub IsSource : (feed text : Option Text) → (until : Option ℕ) → (plain : Bool) → Source → Type 0
IsSource None None until plain source = ⊥
IsSource (Some feed) (Some text) until plain source = ⊥
IsSource (Some feed) None until true source = ⊥
IsSource (Some feed) None until false (sources.Feed name counter) = (name.now ≡ feed) × (counter ≡ until)
IsSource (Some feed) None until false (sources.Text name all) = ⊥
IsSource None (Some text) (Some counter) plain source = ⊥
IsSource None (Some text) None plain (sources.Feed name counter) = ⊥
IsSource None (Some text) None plain (sources.Text name all) = (name.now ≡ text) × (all ≡ plain)

-- ---- how it is written

-- by the text of `--format`, which may be `gcc`, and whether `--faults` is set
abbrev pub IsForm : Option Text → (faults : Bool) → Form → Type 0
IsForm None false form = form ≡ forms.Whole
IsForm None true form = form ≡ forms.Faults
IsForm (Some text) faults form = (text ≡ codes "gcc") × (form ≡ forms.Located)

-- ---- how high a page is

-- a text as `600`: points from 200 to 14400
abbrev pub IsPoints : Text → ℕ → Type 0
IsPoints text height = IsNumber text height × (200 ≤ height) × (height ≤ 14400)

-- in points: a size of paper, or a number
abbrev pub IsHeight : Text → ℕ → Type 0
IsHeight text height = ((text ≡ codes "a4") × (height ≡ 842)) ⊎ ((text ≡ codes "letter") × (height ≡ 792))
    ⊎ IsPoints text height

-- the height that a text gives
abbrev pub IsPage : Text → Option ℕ → Type 0
IsPage text (Some height) = IsHeight text height
IsPage text None = ⊥

-- by the text of `--page` and the names of a picture and of a document: a text has one of the two names beside it
abbrev pub IsPageBy : (page picture document : Option Text) → Option ℕ → Type 0
IsPageBy None picture document height = height ≡ None
IsPageBy (Some text) (Some picture) document height = IsPage text height
IsPageBy (Some text) None (Some document) height = IsPage text height
IsPageBy (Some text) None None height = ⊥

-- ---- what is made of the options

-- the number that a text is, or that it is none
abbrev pub IsNumberIn : ℕ → Text → Option ℕ → Type 0
IsNumberIn most text (Some n) = IsNumber text n × (n < most)
IsNumberIn most text None = (n : ℕ) → IsNumber text n → n < most → ⊥

-- the numbers of two texts, the first from 1 on, the second no smaller
abbrev pub IsRising : Text → Text → Option (ℕ × ℕ) → Type 0
IsRising one other (Some range) = IsNumber one range.0 × IsNumber other range.1 × (1 ≤ range.0) × (range.0 ≤ range.1)
    × (range.1 < 18446744073709551616)
IsRising one other None = (first last : ℕ) → IsNumber one first → IsNumber other last → 1 ≤ first → first ≤ last
    → last < 18446744073709551616 → ⊥

abbrev pub IsRangeIn : Text → Option (ℕ × ℕ) → Type 0
IsRangeIn text (Some range) = IsRange text range.0 range.1
IsRangeIn text None = (first last : ℕ) → IsRange text first last → ⊥

abbrev pub IsPitchIn : Text → Option (ℕ × ℕ) → Type 0
IsPitchIn text (Some pitch) = IsPitch text pitch.0 pitch.1
IsPitchIn text None = (over under : ℕ) → IsPitch text over under → ⊥

abbrev pub AreLines : Text → Option Extent → Type 0
AreLines text (Some extent) = ShowsLines text extent
AreLines text None = (extent : Extent) → ShowsLines text extent → ⊥

abbrev pub AreFigures : Option Text → Option Extent → Type 0
AreFigures pitch (Some extent) = ShowsFigures pitch extent
AreFigures pitch None = (extent : Extent) → ShowsFigures pitch extent → ⊥

abbrev pub IsShown : Option Text → Bool → Option Text → Option Extent → Type 0
IsShown lines stats pitch (Some extent) = IsShownBy lines stats pitch extent
IsShown lines stats pitch None = (extent : Extent) → IsShownBy lines stats pitch extent → ⊥

abbrev pub IsChosen : Option Text → Option Text → Option ℕ → Bool → Option Source → Type 0
IsChosen feed text until plain (Some source) = IsSource feed text until plain source
IsChosen feed text until plain None = (source : Source) → IsSource feed text until plain source → ⊥

abbrev pub IsWritten : Option Text → Bool → Option Form → Type 0
IsWritten format faults (Some form) = IsForm format faults form
IsWritten format faults None = (form : Form) → IsForm format faults form → ⊥

abbrev pub ArePoints : Text → Option ℕ → Type 0
ArePoints text (Some height) = IsPoints text height
ArePoints text None = (height : ℕ) → IsPoints text height → ⊥

abbrev pub IsHeightIn : Text → Option ℕ → Type 0
IsHeightIn text (Some height) = IsHeight text height
IsHeightIn text None = (height : ℕ) → IsHeight text height → ⊥

abbrev pub IsPageIn : Text → Option (Option ℕ) → Type 0
IsPageIn text (Some height) = IsPage text height
IsPageIn text None = (height : Option ℕ) → IsPage text height → ⊥

abbrev pub IsPaged : (page picture document : Option Text) → Option (Option ℕ) → Type 0
IsPaged page picture document (Some height) = IsPageBy page picture document height
IsPaged page picture document None = (height : Option ℕ) → IsPageBy page picture document height → ⊥
