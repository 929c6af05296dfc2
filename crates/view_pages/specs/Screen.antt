-- How a document looks on a screen and on paper.
use Rattle.std.specs.Prelude.{ℕ, List, ◌++◌, codes}
use Rattle.std.specs.Fmt.{decimal}
use Rattle.view_galley.specs.Svg.{hundredths_text}
use Rattle.view_pages.specs.Tags.{page_size, page_size_alone, page_size_end}

-- how what is no picture looks, and pages on a screen, light and dark
unfoldable pub page_looks : List ℕ
page_looks =
    codes "body{margin:0;font-family:sans-serif;color:#111;background:#fbf9f2}"
    ++ (codes "main{padding:10pt;font-size:9pt}h1{font-size:13pt}h2{font-size:11pt}"
    ++ (codes "table{border-collapse:collapse}td,th{text-align:left;padding:1pt 6pt;border:1px solid #999}"
    ++ (codes "svg{display:block;break-after:page;max-width:100%;height:auto}main{break-after:page}"
    ++ (codes ".paper{fill:#fbf9f2}.r{stroke:#fff;stroke-width:.3;fill:none}.e{fill:none}"
    ++ (codes ".d{stroke:#111;stroke-width:.6;fill:none}.d.f{stroke:#b00;fill:none}"
    ++ (codes ".y{fill:#b00;font-family:sans-serif;font-size:6px}a{color:#00c}p.c{color:#b00}"
    ++ (codes "@page m{margin:24pt 10pt}@media print{svg{max-width:none}main{page:m;padding:0}}"
    ++ (codes "@media screen and (prefers-color-scheme:dark){body{color:#ddd;background:#16181b}"
    ++ (codes ".paper{fill:#1d2024}.frame{fill:#23272c;stroke:#666}text{fill:#ddd}.r{stroke:#23272c}"
    ++ (codes ".b{fill:#39414a;stroke:#667}.n{fill:#999}.f,.c,.m,.y,p.c{fill:#ff8a80;color:#ff8a80}"
    ++ codes "a{color:#8ab4f8}.d{stroke:#ddd}.d.f{fill:none;stroke:#ff8a80}}"))))))))))

-- the size of a page on paper: so many hundredths of a point wide, and so many points high
unfoldable pub size_rule : (width height : ℕ) → List ℕ
size_rule width height = page_size
    ++ (hundredths_text width ++ (codes "pt " ++ (decimal height ++ page_size_end)))

-- that of a document without a galley
unfoldable pub size_rule_alone : (height : ℕ) → List ℕ
size_rule_alone height = page_size_alone ++ (decimal height ++ page_size_end)
