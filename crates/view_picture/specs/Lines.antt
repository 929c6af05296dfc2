-- A line of the galley.
use Rattle.std.specs.Prelude.{ℕ, ◌+◌, ◌-◌, Bool, true, false, List, [], ◌∷◌, ◌++◌, codes, if◌then◌else◌}
use Rattle.std.specs.Fmt.{decimal}
use Rattle.std.specs.List.{zip}
use Rattle.desk_ops.specs.declared.op.Symbol.{Symbol}
use Rattle.desk_job.specs.declared.JobFault.{JobFault}
use Rattle.desk_job.specs.Job.{Terms, fill_widths}
use Rattle.view_galley.specs.Values.{LineValues}
use Rattle.view_galley.specs.Galley.{is_faulty}
use Rattle.view_proof.specs.Parts.{begin_of}
use Rattle.view_proof.specs.Faults.{cause_and_limits}
use Rattle.view_galley.specs.Svg.{attribute_text, text_end}
use Rattle.view_picture.specs.Paper.{across, foot}
use Rattle.view_picture.specs.Widths.{drawn_space, frame_or}
use Rattle.view_picture.specs.Words.{words_text, after_words}
use Rattle.view_picture.specs.Boxes.{fills_text}
use Rattle.view_picture.specs.declared.paper.Paper.{Paper}

-- the beginning of a text of this class that stands here
abbrev pub text_at : (class : List ℕ) (x y : ℕ) → List ℕ
text_at class x y = codes "<text class=\""
    ++ (class ++ (codes "\"" ++ (attribute_text (codes "x") x ++ (attribute_text (codes "y") y ++ codes ">"))))

-- a number at the margin, which ends here
abbrev pub number_text : (x y n : ℕ) → List ℕ
number_text x y n = text_at (codes "n") x y ++ (decimal n ++ text_end)

-- the number of a line and its place
abbrev pub margin_text : (y : ℕ) → LineValues → List ℕ
margin_text y line = number_text 4000 y line.number ++ number_text 8800 y (begin_of line.words)

abbrev pub class_of : Bool → List ℕ
class_of true = codes "w f"
class_of false = codes "w"

-- the beginning of the text of a line
abbrev pub words_at : (y : ℕ) → LineValues → List ℕ
words_at y line = codes "<text class=\""
    ++ (class_of (is_faulty line) ++ (codes "\"" ++ (attribute_text (codes "y") y ++ codes ">")))

-- the words of a line, from the edge of the frame on
abbrev pub line_words : Terms → List Symbol → Paper → (y : ℕ) → LineValues → List ℕ
line_words terms copy paper y line =
    words_at y line ++ (words_text terms copy paper.scale.pica (drawn_space terms line) 0 line.words ++ text_end)

-- where they end, or the added space
abbrev pub words_end : Terms → List Symbol → LineValues → ℕ
words_end terms copy line =
    after_words terms copy (drawn_space terms line) 0 line.words - (if line.added then 0 else drawn_space terms line)

-- the boxes of the fills of a line, whose words end here
abbrev pub boxes_from : Terms → Paper → (y end : ℕ) → LineValues → List ℕ
boxes_from terms paper y end line = fills_text paper y end (zip line.fills (fill_widths terms))

-- those behind its words
abbrev pub line_boxes : Terms → List Symbol → Paper → (y : ℕ) → LineValues → List ℕ
line_boxes terms copy paper y line = boxes_from terms paper y (words_end terms copy line) line

-- where what is written beside a line begins: 6 points from the frame, or from the words where these go further
abbrev pub beside : Terms → Paper → LineValues → ℕ
beside terms paper line = across paper.scale.pica (frame_or terms line) + 600

-- its fault beside it
abbrev pub fault_text : Terms → Paper → (y : ℕ) → LineValues → List JobFault → List ℕ
fault_text terms paper y line [] = []
fault_text terms paper y line (fault ∷ more) =
    text_at (codes "c") (beside terms paper line) y
    ++ (cause_and_limits paper.scale line.wedge_sum fault ++ text_end)

-- a line that stands here
abbrev pub line_at : Terms → List Symbol → Paper → (y : ℕ) → LineValues → List ℕ
line_at terms copy paper y line =
    margin_text y line
    ++ (line_words terms copy paper y line
    ++ (line_boxes terms copy paper y line ++ fault_text terms paper y line line.faults))

abbrev pub line_text : Terms → List Symbol → Paper → LineValues → List ℕ
line_text terms copy paper line = line_at terms copy paper (foot paper line.number) line

abbrev pub lines_text : Terms → List Symbol → Paper → List LineValues → List ℕ
lines_text terms copy paper [] = []
lines_text terms copy paper (line ∷ lines) = line_text terms copy paper line ++ lines_text terms copy paper lines
