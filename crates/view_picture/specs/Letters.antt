-- The characters of a word, with their styles.
use Rattle.std.specs.Prelude.{ℕ, ◌==◌, ◌||◌, Bool, true, false, is_some, List, [], ◌∷◌, ◌++◌, codes, if◌then◌else◌}
use Rattle.desk_ops.specs.declared.op.Style.{Style}
use Rattle.desk_ops.specs.declared.op.Style.TheVariants as styles
use Rattle.desk_ops.specs.declared.op.Symbol.{Symbol}
use Rattle.desk_case.specs.Case.{CaseValues, cell_of}
use Rattle.view_galley.specs.Svg.{escaped_char}
use Rattle.view_picture.specs.declared.letters.Dress.{Dress}
use Rattle.view_picture.specs.declared.letters.Dress.TheVariants.{Roman, Italic, SmallCap, Rule, Missing}

abbrev pub dress_of_style : Style → Dress
dress_of_style styles.Roman = Roman
dress_of_style styles.Italic = Italic
dress_of_style styles.SmallCap = SmallCap

-- a dash that is cast as a rule: an en rule, an em rule, or a bar
abbrev pub is_rule : ℕ → Bool
is_rule ch = (ch == 8211) || ((ch == 8212) || (ch == 8213))

-- how a symbol that the case has is shown: as a rule, or by its style
abbrev pub dress_of_held : Symbol → Dress
dress_of_held symbol = if is_rule symbol.ch then Rule else dress_of_style symbol.style

-- how a symbol is shown: as one that the case has or lacks
abbrev pub dress_of : CaseValues → Symbol → Dress
dress_of case symbol = if is_some (cell_of case symbol) then dress_of_held symbol else Missing

abbrev pub same_dress : Dress → Dress → Bool
same_dress Roman Roman = true
same_dress Roman Italic = false
same_dress Roman SmallCap = false
same_dress Roman Rule = false
same_dress Roman Missing = false
same_dress Italic Roman = false
same_dress Italic Italic = true
same_dress Italic SmallCap = false
same_dress Italic Rule = false
same_dress Italic Missing = false
same_dress SmallCap Roman = false
same_dress SmallCap Italic = false
same_dress SmallCap SmallCap = true
same_dress SmallCap Rule = false
same_dress SmallCap Missing = false
same_dress Rule Roman = false
same_dress Rule Italic = false
same_dress Rule SmallCap = false
same_dress Rule Rule = true
same_dress Rule Missing = false
same_dress Missing Roman = false
same_dress Missing Italic = false
same_dress Missing SmallCap = false
same_dress Missing Rule = false
same_dress Missing Missing = true

abbrev pub opened : Dress → List ℕ
opened Roman = []
opened Italic = codes "<tspan class=\"i\">"
opened SmallCap = codes "<tspan class=\"s\">"
opened Rule = codes "<tspan class=\"e\">"
opened Missing = codes "<tspan class=\"m\">"

abbrev pub closed : Dress → List ℕ
closed Roman = []
closed Italic = codes "</tspan>"
closed SmallCap = codes "</tspan>"
closed Rule = codes "</tspan>"
closed Missing = codes "</tspan>"

-- from one dress to another
abbrev pub changed : Dress → Dress → List ℕ
changed worn next = if same_dress worn next then [] else closed worn ++ opened next

-- symbols after one of this dress
abbrev pub letters_from : CaseValues → Dress → List Symbol → List ℕ
letters_from case worn [] = closed worn
letters_from case worn (symbol ∷ word) =
    changed worn (dress_of case symbol) ++ escaped_char symbol.ch ++ letters_from case (dress_of case symbol) word

-- the symbols of a word
abbrev pub word_letters : CaseValues → List Symbol → List ℕ
word_letters case word = letters_from case Roman word
