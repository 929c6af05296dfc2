-- The pages of a galley, each as a picture of its own.
use Rattle.std.specs.Prelude.{ℕ, zero, suc, ◌+◌, ◌==◌, List, [], ◌∷◌, ◌++◌, length, codes, if◌then◌else◌}
use Rattle.std.specs.Fmt.{decimal}
use Rattle.desk_ops.specs.declared.op.Symbol.{Symbol}
use Rattle.desk_ops.specs.declared.fault.CopyFault.{CopyFault}
use Rattle.view_galley.specs.Values.{GalleyValues}
use Rattle.view_picture.specs.Picture.{looks_text, size_text}
use Rattle.view_preview.specs.declared.job.Job.{Job}
use Rattle.view_proof.specs.Proof.{head_words}
use Rattle.view_pages.specs.Layouts.{layout_of}
use Rattle.view_pages.specs.Names.{files_text, source_text}
use Rattle.view_pages.specs.Pages.{extent_text, page_body}
use Rattle.view_pages.specs.Tags.{sheet_number}
use Rattle.view_pages.specs.declared.layouts.Layout.{Layout}

-- what ends the beginning of a page, and begins its looks
unfoldable pub looks_begin : List ℕ
looks_begin = codes "\">\n<style>"

-- how its paper and its rules look, and the paper
unfoldable pub paper_looks : List ℕ
paper_looks =
    codes ".paper{fill:#fbf9f2}.r{stroke:#fff;stroke-width:.3;fill:none}.e{fill:none}"
    ++ (codes ".d{stroke:#111;stroke-width:.6;fill:none}.d.f{stroke:#b00;fill:none}"
    ++ (codes ".y{fill:#b00;font-family:sans-serif;font-size:6px}</style>"
    ++ codes "\n<rect class=\"paper\" width=\"100%\" height=\"100%\"/>\n"))

-- how many faults a copy has, where it has any
unfoldable pub faulty_text : (count : ℕ) → List ℕ
faulty_text count = if count == 0 then [] else codes ", " ++ (decimal count ++ codes " faults of the copy")

-- what stands at the head of each page: all names, what the galley has, and how many faults the copy has
unfoldable pub alone_heading : Job → List CopyFault → GalleyValues → List ℕ
alone_heading job faults galley =
    source_text job ++ (files_text job ++ (codes ", " ++ (head_words galley ++ faulty_text (length faults))))

-- the id of a page by its number from 0, its looks and its paper
unfoldable pub id_alone : (number : ℕ) → List ℕ
id_alone number = sheet_number ++ (decimal (number + 1) ++ (looks_begin ++ (looks_text ++ paper_looks)))

-- the beginning of a page
unfoldable pub sheet_alone : Layout → (number : ℕ) → List ℕ
sheet_alone layout number = size_text layout.width layout.height ++ (extent_text layout ++ id_alone number)

-- a page by its number from 0
unfoldable pub page_alone : List Symbol → GalleyValues → Layout → (heading : List ℕ) → (number : ℕ) → List ℕ
page_alone copy galley layout heading number =
    sheet_alone layout number ++ page_body copy galley layout heading number

-- so many pages, from this one on
abbrev pub alone_from : List Symbol → GalleyValues → Layout → (heading : List ℕ) → (number count : ℕ) → List (List ℕ)
alone_from copy galley layout heading number zero = []
alone_from copy galley layout heading number (suc count) =
    page_alone copy galley layout heading number ∷ alone_from copy galley layout heading (number + 1) count

-- all pages
abbrev pub all_alone : List Symbol → GalleyValues → Layout → (heading : List ℕ) → List (List ℕ)
all_alone copy galley layout heading = alone_from copy galley layout heading 0 layout.pages

-- the pages of a galley, each of so many points
abbrev pub pictures_of : Job → (height : ℕ) → List Symbol → List CopyFault → GalleyValues → List (List ℕ)
pictures_of job height copy faults galley =
    all_alone copy galley (layout_of galley height) (alone_heading job faults galley)
