-- The tags of a document.
use Rattle.std.specs.Prelude.{ℕ, List, ◌++◌, codes}

-- what begins the title of a document
unfoldable pub title_begin : List ℕ
title_begin = codes "<title>Proof of "

-- what ends it, and begins the looks
unfoldable pub title_end : List ℕ
title_end = codes "</title>\n<style>"

-- what begins the size of a page on paper
unfoldable pub page_size : List ℕ
page_size = codes "@page{size:"

-- that of a document without a galley, which is 500 points wide
unfoldable pub page_size_alone : List ℕ
page_size_alone = codes "@page{size:500pt "

-- what ends it
unfoldable pub page_size_end : List ℕ
page_size_end = codes "pt;margin:0}"

-- what ends the looks, and begins the first page and its title
unfoldable pub main_begin : List ℕ
main_begin = codes "</style>\n</head>\n<body>\n<main>\n<h1>Proof of "

-- what ends that title
unfoldable pub main_next : List ℕ
main_next = codes "</h1>\n"

-- what stands before the number of the case
unfoldable pub case_in : List ℕ
case_in = codes "</p>\n<p>Case "

-- what stands before the number of the wedge
unfoldable pub wedge_in : List ℕ
wedge_in = codes ", wedge "

-- what ends the names of both files
unfoldable pub names_end : List ℕ
names_end = codes ".</p>\n"

-- what begins the faults of a copy
unfoldable pub faults_begin : List ℕ
faults_begin = codes "<h2>Faults of the copy</h2>\n<ul>\n"

-- what begins the symbols that the case lacks
unfoldable pub sorts_begin : List ℕ
sorts_begin = codes "<h2>Missing sorts</h2>\n<ul>\n"

-- what ends either list
unfoldable pub list_end : List ℕ
list_end = codes "</ul>\n"

-- what ends an item of a list
unfoldable pub item_end : List ℕ
item_end = codes "</li>\n"

-- what stands where no line is at fault
unfoldable pub no_fault : List ℕ
no_fault = codes "<p>No line is at fault.</p>\n"

-- what begins the lines at fault
unfoldable pub table_begin : List ℕ
table_begin =
    codes "<h2>Lines at fault</h2>\n<table>\n<thead><tr><th>line</th><th>place</th><th>cause</th><th>"
    ++ codes "way out</th></tr></thead>\n<tbody>\n"

-- what ends them
unfoldable pub table_end : List ℕ
table_end = codes "</tbody>\n</table>\n"

-- what begins the row of a line at fault, up to where its link leads
unfoldable pub row_begin : List ℕ
row_begin = codes "<tr><td><a href=\"#line-"

-- what ends its link
unfoldable pub link_end : List ℕ
link_end = codes "</a></td><td>"

-- what stands between cells
unfoldable pub cell_next : List ℕ
cell_next = codes "</td><td>"

-- what ends a row
unfoldable pub row_end : List ℕ
row_end = codes "</td></tr>\n"

-- what stands before the cause where there is no galley
unfoldable pub cause_begin : List ℕ
cause_begin = codes "<p class=\"c\">"

-- what ends it
unfoldable pub cause_end : List ℕ
cause_end = codes "</p>\n"

-- what ends the first page
unfoldable pub main_end : List ℕ
main_end = codes "</main>\n"

-- what ends a document
unfoldable pub document_end : List ℕ
document_end = codes "</body>\n</html>\n"

-- what stands between the width and the height of a page
unfoldable pub sheet_height : List ℕ
sheet_height = codes "pt\" height=\""

-- what stands between its height and its number
unfoldable pub sheet_number : List ℕ
sheet_number = codes "pt\" id=\"page-"

-- what ends the beginning of a page, and its paper
unfoldable pub sheet_paper : List ℕ
sheet_paper = codes "\">\n<rect class=\"paper\" width=\"100%\" height=\"100%\"/>\n"

-- what ends a line, or the lines of a page
unfoldable pub group_end : List ℕ
group_end = codes "</g>\n"

-- what ends a page
unfoldable pub sheet_end : List ℕ
sheet_end = codes "</svg>\n"

-- what begins a line, up to its number
unfoldable pub line_begin : List ℕ
line_begin = codes "<g id=\"line-"

-- what ends the rules of a line
unfoldable pub path_end : List ℕ
path_end = codes "\"/>\n"
