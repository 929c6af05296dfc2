-- Which characters are a text of which copy, by cases.
use Rattle.std.specs.Prelude.{◌≡◌, ℕ, ◌<◌, true, false, List, [], ◌∷◌}
use Rattle.desk_ops.specs.declared.op.Style.{Style}
use Rattle.desk_ops.specs.declared.op.Style.TheVariants.{Roman}
use Rattle.desk_ops.specs.declared.op.Symbol.{Symbol}
use Rattle.desk_ops.specs.Op.{IsSymbol, space, line_feed}
use Rattle.text_copy.specs.Marks.{mark, is_mark}

abbrev pub symbol : Style → ℕ → Symbol
symbol style c = record { style = style; ch = c }

-- In a style the characters are a text of the copy: nothing in Roman; the end of a line in Roman, with or without a
-- carriage return; a space in any style; a character that is no mark; a mark behind a backslash; a mark that opens its
-- style in Roman, or that closes it.
pub data IsText : Style → List ℕ → List Symbol → Type 0 where
  Nothing : IsText Roman [] []
  Line : {cs : List ℕ} {copy : List Symbol} → IsText Roman cs copy → IsText Roman (10 ∷ cs) (line_feed ∷ copy)
  ReturnedLine : {cs : List ℕ} {copy : List Symbol} → IsText Roman cs copy
      → IsText Roman (13 ∷ 10 ∷ cs) (line_feed ∷ copy)
  Space : {style : Style} {cs : List ℕ} {copy : List Symbol} → IsText style cs copy
      → IsText style (32 ∷ cs) (space ∷ copy)
  Itself : {style : Style} {c : ℕ} {cs : List ℕ} {copy : List Symbol} → 32 < c → is_mark c ≡ false
      → IsSymbol (symbol style c) → IsText style cs copy → IsText style (c ∷ cs) (symbol style c ∷ copy)
  Escaped : {style : Style} {c : ℕ} {cs : List ℕ} {copy : List Symbol} → is_mark c ≡ true → IsText style cs copy
      → IsText style (92 ∷ c ∷ cs) (symbol style c ∷ copy)
  Opens : {style : Style} {m : ℕ} {cs : List ℕ} {copy : List Symbol} → mark style ≡ m ∷ [] → IsText style cs copy
      → IsText Roman (m ∷ cs) copy
  Closes : {style : Style} {m : ℕ} {cs : List ℕ} {copy : List Symbol} → mark style ≡ m ∷ [] → IsText Roman cs copy
      → IsText style (m ∷ cs) copy
