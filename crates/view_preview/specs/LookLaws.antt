-- Worked looks, and what words that are alike are.
use Rattle.std.specs.Prelude.{◌≡◌, ℕ, false, pos, List, [], ◌∷◌, ◌++◌, map, None, codes}
use Rattle.std.specs.Bool.{Decides}
use Rattle.desk_ops.specs.declared.op.Style.{Style}
use Rattle.desk_ops.specs.declared.op.Style.TheVariants.{Italic, Roman}
use Rattle.desk_ops.specs.declared.op.Symbol.{Symbol}
use Rattle.desk_lines.specs.declared.words.Word.{Word}
use Rattle.view_galley.specs.Values.{LineValues}
use Rattle.view_preview.specs.declared.looks.Look.{Look}
use Rattle.view_preview.specs.declared.looks.LookKind.{LookKind}
use Rattle.view_preview.specs.declared.looks.LookKind.TheVariants as kinds
use Rattle.view_preview.specs.Looks.{are_alike, looks_of}

-- The test says of two texts whether they are one, by style and character.
abbrev pub AlikeAreSame : Type 0
AlikeAreSame = (symbols more : List Symbol) → Decides (are_alike symbols more) (symbols ≡ more)

abbrev pub styled : Style → List ℕ → List Symbol
styled style text = map (λ ch. record { style = style; ch = ch }) text

abbrev pub roman : List ℕ → List Symbol
roman text = styled Roman text

abbrev pub word : (from to : ℕ) → Word
word from to = record { from = from; to = to }

-- a line of these words, of which no more matters here
abbrev pub line : List Word → LineValues
line words =
    record {
      number = 0;
      words = words;
      filled = false;
      added = false;
      spaces = 0;
      width = 0;
      rest = pos 0;
      fills = [];
      wedge_sum = None;
      faults = [];
      next = None;
    }

abbrev pub at : LookKind → (place len : ℕ) → Look
at kind place len = record { kind = kind; place = place; len = len }

-- The hyphen of a word before the last one of its line, and neither a hyphen alone nor that of the last word.
abbrev pub HyphenLook : Type 0
HyphenLook = looks_of (roman (codes "ab- - b-")) (line (word 0 3 ∷ word 4 5 ∷ word 6 8 ∷ []) ∷ [])
    ≡ at kinds.HyphenInside 2 2 ∷ []

-- Each longest row of spaces once: at the begin, of three, and at the end.
abbrev pub SpacesLooks : Type 0
SpacesLooks = looks_of (roman (codes "  a   b c  ")) []
    ≡ at kinds.TwoSpaces 0 2 ∷ at kinds.TwoSpaces 3 3 ∷ at kinds.TwoSpaces 9 2 ∷ []

-- A space before a point in italic, and before a comma at the end.
abbrev pub PointLooks : Type 0
PointLooks = looks_of (roman (codes "a. b ") ++ styled Italic (codes ".") ++ roman (codes " c, d ,")) []
    ≡ at kinds.SpaceBeforePoint 4 2 ∷ at kinds.SpaceBeforeComma 11 2 ∷ []

-- Both quotes.
abbrev pub QuoteLooks : Type 0
QuoteLooks = looks_of (roman (codes "'a\"")) [] ≡ at kinds.StraightQuote 0 1 ∷ at kinds.StraightQuote 2 1 ∷ []

-- Three words alike are two looks; none is over two spaces, over a line feed or in another style.
abbrev pub RepeatedLooks : Type 0
RepeatedLooks = looks_of (roman (codes "ab ab ab  ab\nab ") ++ styled Italic (codes "ab")) []
    ≡ at kinds.TwoSpaces 8 2 ∷ at kinds.WordRepeated 3 2 ∷ at kinds.WordRepeated 6 2 ∷ []

-- The third and the fourth of four lines that end with one word; a line that ends with none parts them.
abbrev pub LinesLooks : Type 0
LinesLooks = looks_of (roman (codes "a\na\na\na\n\na"))
    (line (word 0 1 ∷ []) ∷ line (word 2 3 ∷ []) ∷ line (word 4 5 ∷ []) ∷ line (word 6 7 ∷ []) ∷ line (word 8 8 ∷ [])
    ∷ line (word 9 10 ∷ []) ∷ [])
    ≡ at kinds.LinesEndAlike 4 1 ∷ at kinds.LinesEndAlike 6 1 ∷ []

-- one copy of each kind, in their order
pub record WorkedLooks : Type 0 where
  pub hyphen : HyphenLook
  pub spaces : SpacesLooks
  pub point : PointLooks
  pub quote : QuoteLooks
  pub repeated : RepeatedLooks
  pub lines : LinesLooks
