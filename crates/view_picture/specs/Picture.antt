-- A galley as a picture in the form SVG.
use Rattle.std.specs.Prelude.{ℕ, ◌+◌, ◌*◌, ◌/◌, List, ◌++◌, length, codes}
use Rattle.desk_ops.specs.declared.op.Symbol.{Symbol}
use Rattle.desk_ops.specs.declared.fault.CopyFault.{CopyFault}
use Rattle.view_galley.specs.Values.{GalleyValues}
use Rattle.view_proof.specs.Proof.{scale_of}
use Rattle.view_proof.specs.Reasons.{reason_text}
use Rattle.view_proof.specs.declared.reasons.NoGalley.{NoGalley}
use Rattle.view_galley.specs.Svg.{attribute_text, hundredths_text, text_end}
use Rattle.view_picture.specs.Paper.{across, edge, leading}
use Rattle.view_picture.specs.Widths.{widest}
use Rattle.view_picture.specs.Lines.{lines_text, text_at}
use Rattle.view_picture.specs.Heads.{copy_faults, head_count, head_y, heads_text}
use Rattle.view_picture.specs.declared.paper.Paper.{Paper}

-- how the classes of texts and boxes look: letters of a line from left to right as they stand in the copy and none of
-- them joined, italic, small capitals, and those that the case lacks; lines at fault, causes, heads, numbers at the
-- margin; boxes and the frame
unfoldable pub looks_text : List ℕ
looks_text =
    codes "text{font-family:Times New Roman,Liberation Serif,Times,serif;white-space:pre}"
    ++ (codes ".w{direction:ltr;unicode-bidi:bidi-override;font-variant-ligatures:none;font-kerning:none}"
    ++ (codes ".i{font-style:italic}.s{font-variant:small-caps;font-variant-caps:all-small-caps}.m{fill:#c00}"
    ++ (codes ".f,.c{fill:#b00}.c,.h,.n{font-family:sans-serif;font-size:8px}"
    ++ (codes ".n{fill:#777;text-anchor:end;user-select:none}.b{fill:#e4e9ef;stroke:#a9b4c0;stroke-width:.3}"
    ++ codes ".frame{fill:#fff;stroke:#999;stroke-width:.5}"))))

abbrev pub style_text : List ℕ
style_text = codes "<style>" ++ (looks_text ++ codes "</style>\n")

-- the beginning of a picture of this size
abbrev pub size_text : (width height : ℕ) → List ℕ
size_text width height =
    codes "<svg xmlns=\"http://www.w3.org/2000/svg\" xml:space=\"preserve\" viewBox=\"0 0 "
    ++ (hundredths_text width ++ (codes " " ++ (hundredths_text height ++ codes "\" width=\"")))

abbrev pub points_text : (width height : ℕ) → List ℕ
points_text width height = hundredths_text width
    ++ (codes "pt\" height=\"" ++ (hundredths_text height ++ codes "pt\">\n"))

-- that, the looks, and the paper
abbrev pub begin_text : (width height : ℕ) → List ℕ
begin_text width height =
    size_text width height
    ++ (points_text width height
    ++ (style_text ++ codes "<rect width=\"100%\" height=\"100%\" fill=\"#fbf9f2\"/>\n"))

-- the paper of a galley below so many heads
abbrev pub paper_of : GalleyValues → ℕ → Paper
paper_of galley heads = record { scale = scale_of galley; set = galley.wedge.set_q * 25; top = head_y heads }

-- how high the frame of so many lines is
abbrev pub frame_height : Paper → ℕ → ℕ
frame_height paper lines = leading paper * lines + paper.set / 2

-- the frame of the measure
abbrev pub frame_text : Paper → (width height : ℕ) → List ℕ
frame_text paper width high =
    codes "<rect class=\"frame\"" ++ (attribute_text (codes "x") edge ++ (attribute_text (codes "y") paper.top
    ++ (attribute_text (codes "width") width ++ (attribute_text (codes "height") high ++ codes "/>\n"))))

-- the lines, in letters of the size of the set
abbrev pub group_text : List Symbol → Paper → GalleyValues → List ℕ
group_text copy paper galley =
    codes "<g" ++
    (attribute_text (codes "font-size") paper.set
    ++ (codes ">\n" ++ (lines_text galley.terms copy paper galley.lines ++ codes "</g>\n")))

-- beside the frame, or the widest line, there are 270 points for the causes
abbrev pub page_width : Paper → GalleyValues → ℕ
page_width paper galley = across paper.scale.pica (widest galley.terms galley.lines) + 27000

-- the frame of a galley, as high as its lines
abbrev pub galley_height : Paper → GalleyValues → ℕ
galley_height paper galley = frame_height paper (length galley.lines)

-- below the frame there are 10 points
abbrev pub page_height : Paper → GalleyValues → ℕ
page_height paper galley = paper.top + (galley_height paper galley + 1000)

abbrev pub page_text : Paper → GalleyValues → List ℕ
page_text paper galley = begin_text (page_width paper galley) (page_height paper galley)

abbrev pub galley_frame : Paper → GalleyValues → List ℕ
galley_frame paper galley = frame_text paper (galley.values.measure * 100) (galley_height paper galley)

-- a galley of a copy, with the faults of the copy, on a paper
abbrev pub picture_on : List Symbol → List CopyFault → GalleyValues → Paper → List ℕ
picture_on copy faults galley paper =
    page_text paper galley
    ++ (heads_text copy faults galley
    ++ (galley_frame paper galley ++ (group_text copy paper galley ++ codes "</svg>\n")))

abbrev pub picture_text : List Symbol → List CopyFault → GalleyValues → List ℕ
picture_text copy faults galley = picture_on copy faults galley (paper_of galley (head_count faults galley))

-- why there is no galley, in words
abbrev pub why_words : NoGalley → List ℕ
why_words why = codes "no galley: " ++ reason_text why

abbrev pub why_text : (y : ℕ) → NoGalley → List ℕ
why_text y why = text_at (codes "c") 1000 y ++ (why_words why ++ text_end)

-- where there is no galley: the faults of the copy, and why
abbrev pub no_galley_picture : List CopyFault → NoGalley → List ℕ
no_galley_picture faults why =
    begin_text 50000 (head_y (length faults + 1))
    ++ (copy_faults 0 faults ++ (why_text (head_y (length faults)) why ++ codes "</svg>\n"))
