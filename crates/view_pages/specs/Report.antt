-- The first page of a document: what it is of, the faults of the copy, and what is wrong with the galley.
use Rattle.std.specs.Prelude.{ℕ, List, ◌++◌, codes}
use Rattle.std.specs.Fmt.{decimal}
use Rattle.desk_ops.specs.declared.op.Symbol.{Symbol}
use Rattle.desk_ops.specs.declared.fault.CopyFault.{CopyFault}
use Rattle.desk_job.specs.declared.terms.Values.{Values}
use Rattle.feed_files.specs.Kinds.{document_head}
use Rattle.view_galley.specs.Values.{GalleyValues}
use Rattle.view_picture.specs.Picture.{looks_text, why_words}
use Rattle.view_preview.specs.declared.job.Job.{Job}
use Rattle.view_proof.specs.Proof.{head_words, scale_of}
use Rattle.view_proof.specs.declared.reasons.NoGalley.{NoGalley}
use Rattle.view_pages.specs.Lists.{faults_list, sorts_list}
use Rattle.view_pages.specs.Names.{escaped_text, source_text}
use Rattle.view_pages.specs.Screen.{page_looks}
use Rattle.view_pages.specs.Table.{table_text}
use Rattle.view_pages.specs.Tags.{case_in, cause_begin, cause_end, main_begin, main_end, main_next, names_end, title_begin, title_end, wedge_in}

-- the beginning of a document, up to the size of its pages
unfoldable pub begin_text : Job → List ℕ
begin_text job = document_head
    ++ (title_begin ++ (source_text job ++ (title_end ++ (looks_text ++ page_looks))))

-- what follows it: the first page begins, with the name of the feed or the text
unfoldable pub opening_text : Job → List ℕ
opening_text job = main_begin ++ (source_text job ++ main_next)

-- a file by its name, behind the number in it
unfoldable pub numbered_text : (before : List ℕ) → (number : ℕ) → (name : List ℕ) → List ℕ
numbered_text before number name = before ++ (decimal number ++ (codes " in " ++ escaped_text name))

-- the numbers of the case and the wedge, and their files
unfoldable pub numbers_text : Job → Values → List ℕ
numbers_text job values =
    numbered_text case_in values.case job.case.now ++ (numbered_text wedge_in values.wedge job.wedge.now ++ names_end)

-- how many lines there are, how many are at fault, what they are set by, and that
unfoldable pub summary_text : Job → GalleyValues → List ℕ
summary_text job galley = codes "<p>" ++ (head_words galley ++ numbers_text job galley.values)

-- the faults of the copy, the symbols that the case lacks, and the lines at fault
unfoldable pub troubles_text : List Symbol → List CopyFault → GalleyValues → List ℕ
troubles_text copy faults galley =
    faults_list faults ++ (sorts_list copy galley.lacking ++ table_text copy (scale_of galley) galley.lines)

-- the first page
unfoldable pub report_text : Job → List Symbol → List CopyFault → GalleyValues → List ℕ
report_text job copy faults galley =
    opening_text job ++ (summary_text job galley ++ (troubles_text copy faults galley ++ main_end))

-- why there is no galley
unfoldable pub cause_line : NoGalley → List ℕ
cause_line why = cause_begin ++ (why_words why ++ cause_end)

-- the first page where there is no galley: the faults of the copy, and why
unfoldable pub refusal_text : Job → List CopyFault → NoGalley → List ℕ
refusal_text job faults why = opening_text job ++ (faults_list faults ++ (cause_line why ++ main_end))
