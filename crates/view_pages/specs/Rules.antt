-- Thin rules of a line: at the left edge of each matrix of a word but its first, and in place of each dash that the
-- case has, as wide as its matrix but for a gap at each end.
use Rattle.std.specs.Prelude.{ℕ, ◌+◌, ◌-◌, ◌/◌, Bool, true, false, List, [], ◌∷◌, ◌++◌, codes, if◌then◌else◌}
use Rattle.desk_ops.specs.declared.op.Symbol.{Symbol}
use Rattle.desk_lines.specs.declared.words.Word.{Word}
use Rattle.desk_lines.specs.Words.{spelled}
use Rattle.desk_job.specs.Job.{Terms, symbol_width}
use Rattle.view_galley.specs.Galley.{is_faulty}
use Rattle.view_galley.specs.Svg.{hundredths_text}
use Rattle.view_galley.specs.Values.{LineValues}
use Rattle.view_picture.specs.Letters.{dress_of, same_dress}
use Rattle.view_picture.specs.Paper.{across}
use Rattle.view_picture.specs.Places.{after_word}
use Rattle.view_picture.specs.Widths.{drawn_space}
use Rattle.view_picture.specs.declared.letters.Dress.TheVariants as dresses
use Rattle.view_picture.specs.declared.paper.Paper.{Paper}
use Rattle.view_pages.specs.Tags.{path_end}
use Rattle.view_pages.specs.declared.rules.Kind.{Kind}
use Rattle.view_pages.specs.declared.rules.Kind.TheVariants as kinds
use Rattle.view_pages.specs.declared.rules.Pen.{Pen}

-- a rule so many atoms from the edge of the frame, as high as the set
unfoldable pub edge_text : Pen → (here : ℕ) → List ℕ
edge_text pen here =
    codes "M" ++ (hundredths_text (across pen.paper.scale.pica here)
    ++ (codes " " ++ (hundredths_text (pen.y - pen.paper.set) ++ (codes "V" ++ hundredths_text pen.y))))

-- how far the rule of a dash is from the edges of its matrix
abbrev pub gap : ℕ
gap = 40

-- a rule from one place of the frame to another, a quarter of the set above the foot of the letters
unfoldable pub dash_text : Pen → (here end : ℕ) → List ℕ
dash_text pen here end =
    codes "M" ++ (hundredths_text (across pen.paper.scale.pica here + gap)
    ++ (codes " " ++ (hundredths_text (pen.y - pen.paper.set / 4)
    ++ (codes "H" ++ hundredths_text (across pen.paper.scale.pica end - gap)))))

-- that of a symbol that begins here: at its edge, if it is not the first of its word; or in its place, if it is a dash
abbrev pub symbol_rule : Kind → Pen → Terms → (here : ℕ) → (inner : Bool) → Symbol → List ℕ
symbol_rule kinds.Edge pen terms here inner symbol = if inner then edge_text pen here else []
symbol_rule kinds.Dash pen terms here inner symbol =
    if same_dress (dress_of terms.case symbol) dresses.Rule
    then dash_text pen here (here + symbol_width terms symbol)
    else []

-- those of symbols of a word, the first of which begins here
abbrev pub symbol_rules : Pen → Terms → (here : ℕ) → (inner : Bool) → List Symbol → List ℕ
symbol_rules pen terms here inner [] = []
symbol_rules pen terms here inner (symbol ∷ word) =
    symbol_rule pen.kind pen terms here inner symbol
    ++ symbol_rules pen terms (here + symbol_width terms symbol) true word

-- those of words with a space of this width after each
abbrev pub words_rules : Pen → Terms → List Symbol → (space here : ℕ) → List Word → List ℕ
words_rules pen terms copy space here [] = []
words_rules pen terms copy space here (word ∷ words) =
    symbol_rules pen terms here false (spelled copy word)
    ++ words_rules pen terms copy space (after_word terms here (spelled copy word) + space) words

-- those of a line
abbrev pub line_rules : Pen → Terms → List Symbol → LineValues → List ℕ
line_rules pen terms copy line = words_rules pen terms copy (drawn_space terms line) 0 line.words

-- what begins them: those of the dashes of a line with a fault are marked
abbrev pub path_begin : Kind → (faulty : Bool) → List ℕ
path_begin kinds.Edge faulty = codes "<path class=\"r\" d=\""
path_begin kinds.Dash true = codes "<path class=\"d f\" d=\""
path_begin kinds.Dash false = codes "<path class=\"d\" d=\""

-- they are one path, where there are any
abbrev pub one_path : Kind → (faulty : Bool) → List ℕ → List ℕ
one_path kind faulty [] = []
one_path kind faulty (byte ∷ bytes) = path_begin kind faulty ++ ((byte ∷ bytes) ++ path_end)

abbrev pub path_of : Pen → Terms → List Symbol → LineValues → List ℕ
path_of pen terms copy line = one_path pen.kind (is_faulty line) (line_rules pen terms copy line)

-- the rules between the matrices of a line whose letters stand here, and those of its dashes
unfoldable pub rules_text : Terms → List Symbol → Paper → (y : ℕ) → LineValues → List ℕ
rules_text terms copy paper y line =
    path_of (record { kind = kinds.Edge; paper = paper; y = y }) terms copy line
    ++ path_of (record { kind = kinds.Dash; paper = paper; y = y }) terms copy line
