-- The pages of a document, each a picture of so many lines of the galley.
use Rattle.std.specs.Prelude.{ℕ, zero, suc, ◌+◌, ◌*◌, List, [], ◌∷◌, ◌++◌, length, codes}
use Rattle.std.specs.Fmt.{decimal}
use Rattle.desk_ops.specs.declared.op.Symbol.{Symbol}
use Rattle.desk_job.specs.Job.{Terms}
use Rattle.view_galley.specs.Svg.{attribute_text, hundredths_text, text_end}
use Rattle.view_galley.specs.Values.{GalleyValues, LineValues}
use Rattle.view_picture.specs.Lines.{line_at, text_at}
use Rattle.view_picture.specs.Paper.{edge, foot}
use Rattle.view_picture.specs.Picture.{frame_height, frame_text, size_text}
use Rattle.view_picture.specs.declared.paper.Paper.{Paper}
use Rattle.view_pages.specs.Layouts.{lines_on}
use Rattle.view_pages.specs.Rules.{rules_text}
use Rattle.view_pages.specs.Tags.{group_end, line_begin, sheet_end, sheet_height, sheet_number, sheet_paper}
use Rattle.view_pages.specs.Ways.{way_if_any}
use Rattle.view_pages.specs.declared.layouts.Layout.{Layout}

-- how large a page is
unfoldable pub extent_text : Layout → List ℕ
extent_text layout = hundredths_text layout.width ++ (sheet_height ++ hundredths_text layout.height)

-- the id of a page by its number from 0, and its paper
unfoldable pub id_text : (number : ℕ) → List ℕ
id_text number = sheet_number ++ (decimal (number + 1) ++ sheet_paper)

-- the beginning of a page
unfoldable pub sheet_text : Layout → (number : ℕ) → List ℕ
sheet_text layout number = size_text layout.width layout.height ++ (extent_text layout ++ id_text number)

-- the number of a page among all
unfoldable pub among_text : Layout → (number : ℕ) → List ℕ
among_text layout number =
    codes ", page " ++ (decimal (number + 1) ++ (codes " of " ++ (decimal layout.pages ++ text_end)))

-- its head: all names, what the lines are set by, and that
unfoldable pub head_text : (heading : List ℕ) → Layout → (number : ℕ) → List ℕ
head_text heading layout number = text_at (codes "h") 1000 2000 ++ (heading ++ among_text layout number)

-- a word above a column
unfoldable pub column_text : (class : List ℕ) → (x : ℕ) → (word : List ℕ) → List ℕ
column_text class x word = text_at class x 3200 ++ (word ++ text_end)

-- the words above the columns
unfoldable pub columns_text : List ℕ
columns_text =
    column_text (codes "n") 4000 (codes "line") ++ (column_text (codes "n") 8800 (codes "place")
    ++ column_text (codes "h") edge (codes "as it is set"))

-- the rules of a line whose letters stand here, and its way out if it is at fault
unfoldable pub line_marks : Terms → List Symbol → Paper → (y : ℕ) → LineValues → List ℕ
line_marks terms copy paper y line =
    rules_text terms copy paper y line ++ way_if_any terms copy paper y line line.faults

-- a line that stands here, which can be linked to by its number in the galley
unfoldable pub linked_line : Terms → List Symbol → Paper → (y : ℕ) → LineValues → List ℕ
linked_line terms copy paper y line =
    line_begin ++ (decimal line.number ++ (codes "\">\n" ++ (line_at terms copy paper y line
    ++ (line_marks terms copy paper y line ++ group_end))))

-- lines under one another, below so many others
abbrev pub lines_below : Terms → List Symbol → Paper → (above : ℕ) → List LineValues → List ℕ
lines_below terms copy paper above [] = []
lines_below terms copy paper above (line ∷ lines) =
    linked_line terms copy paper (foot paper (above + 1)) line ++ lines_below terms copy paper (above + 1) lines

-- the lines of a page, in letters of the size of the set
unfoldable pub lines_text : Terms → List Symbol → Paper → List LineValues → List ℕ
lines_text terms copy paper lines =
    codes "<g" ++ (attribute_text (codes "font-size") paper.set
    ++ (codes ">\n" ++ (lines_below terms copy paper 0 lines ++ group_end)))

-- the frame round so many lines
unfoldable pub frame_of : Paper → GalleyValues → (lines : ℕ) → List ℕ
frame_of paper galley lines = frame_text paper (galley.values.measure * 100) (frame_height paper lines)

-- these lines in their frame
unfoldable pub body_text : List Symbol → Paper → GalleyValues → List LineValues → List ℕ
body_text copy paper galley lines =
    frame_of paper galley (length lines) ++ (lines_text galley.terms copy paper lines ++ sheet_end)

-- what stands on a page by its number from 0
unfoldable pub page_body : List Symbol → GalleyValues → Layout → (heading : List ℕ) → (number : ℕ) → List ℕ
page_body copy galley layout heading number =
    head_text heading layout number
    ++ (columns_text ++ body_text copy layout.paper galley (lines_on layout.lines number galley.lines))

-- that page
unfoldable pub page_text : List Symbol → GalleyValues → Layout → (heading : List ℕ) → (number : ℕ) → List ℕ
page_text copy galley layout heading number =
    sheet_text layout number ++ page_body copy galley layout heading number

-- so many pages, from this one on
abbrev pub pages_from : List Symbol → GalleyValues → Layout → (heading : List ℕ) → (number count : ℕ) → List ℕ
pages_from copy galley layout heading number zero = []
pages_from copy galley layout heading number (suc count) =
    page_text copy galley layout heading number ++ pages_from copy galley layout heading (number + 1) count

-- all pages
abbrev pub pages_text : List Symbol → GalleyValues → Layout → (heading : List ℕ) → List ℕ
pages_text copy galley layout heading = pages_from copy galley layout heading 0 layout.pages
