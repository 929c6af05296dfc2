-- How the pages of a galley are laid out.
use Rattle.std.specs.Prelude.{ℕ, ◌+◌, ◌-◌, ◌*◌, ◌/◌, max, List, length, take, drop}
use Rattle.std.specs.Int.{div_ceil}
use Rattle.view_galley.specs.Values.{GalleyValues}
use Rattle.view_picture.specs.Paper.{leading}
use Rattle.view_picture.specs.Picture.{frame_height, page_width, paper_of}
use Rattle.view_picture.specs.declared.paper.Paper.{Paper}
use Rattle.view_pages.specs.declared.layouts.Layout.{Layout}

-- how high a page of so many lines is, with 10 points below the frame
abbrev pub height_of : Paper → (lines : ℕ) → ℕ
height_of paper lines = paper.top + (frame_height paper lines + 1000)

-- how many lines fit on a page of so many points
abbrev pub fitting : Paper → (height : ℕ) → ℕ
fitting paper height = (height * 100 - height_of paper 0) / leading paper

-- so many stand on a page: as many as fit, and one at least
abbrev pub lines_a_page : Paper → (height : ℕ) → ℕ
lines_a_page paper height = max 1 (fitting paper height)

-- how high a page is: so many points, or as high as one line needs
abbrev pub page_height : Paper → (height : ℕ) → ℕ
page_height paper height = max (height * 100) (height_of paper 1)

-- the pages of a galley on this paper
abbrev pub layout_on : Paper → GalleyValues → (height : ℕ) → Layout
layout_on paper galley height = record {
  paper = paper;
  width = page_width paper galley + 5000;
  height = page_height paper height;
  lines = lines_a_page paper height;
  pages = div_ceil (length galley.lines) (lines_a_page paper height);
}

-- those of a galley, each below two heads
abbrev pub layout_of : GalleyValues → (height : ℕ) → Layout
layout_of galley height = layout_on (paper_of galley 2) galley height

-- the lines on a page of so many, by its number from 0
abbrev pub lines_on : {X : Type 0} → (count number : ℕ) → List X → List X
lines_on count number lines = take count (drop (number * count) lines)
