-- Names of files as they stand in a document.
use Rattle.std.specs.Prelude.{ℕ, List, ◌++◌, codes}
use Rattle.std.specs.Str.{chars}
use Rattle.desk_job.specs.declared.terms.Values.{Values}
use Rattle.view_galley.specs.Svg.{escaped}
use Rattle.view_preview.specs.Proofing.{name_of}
use Rattle.view_preview.specs.declared.job.Job.{Job}
use Rattle.view_proof.specs.Proof.{values_text}

-- a text, each character of it as XML has it
abbrev pub escaped_text : List ℕ → List ℕ
escaped_text text = escaped (chars text)

-- the name of the feed or the text
unfoldable pub source_text : Job → List ℕ
source_text job = escaped_text (name_of job.source)

-- the names of the case and of the wedge
unfoldable pub files_text : Job → List ℕ
files_text job = codes ", case " ++ (escaped_text job.case.now ++ (codes ", wedge " ++ escaped_text job.wedge.now))

-- what stands at the head of each page: all names, and what the lines are set by
unfoldable pub heading_text : Job → Values → List ℕ
heading_text job values = source_text job ++ (files_text job ++ (codes ", " ++ values_text values))
