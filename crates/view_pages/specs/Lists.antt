-- The faults of a copy and the symbols that the case lacks, as lists.
use Rattle.std.specs.Prelude.{ℕ, ◌==◌, List, [], ◌∷◌, ◌++◌, length, codes, if◌then◌else◌}
use Rattle.desk_ops.specs.declared.op.Symbol.{Symbol}
use Rattle.desk_ops.specs.declared.fault.CopyFault.{CopyFault}
use Rattle.desk_ops.specs.Words.{copy_fault_words}
use Rattle.desk_job.specs.declared.JobFault.{JobFault}
use Rattle.view_proof.specs.Faults.{cause_text, meaning_text}
use Rattle.view_picture.specs.Heads.{lacking_of}
use Rattle.view_pages.specs.Tags.{faults_begin, item_end, list_end, sorts_begin}

-- a fault of a copy, and what it means
unfoldable pub fault_item : CopyFault → List ℕ
fault_item fault = codes "<li>" ++ (copy_fault_words fault ++ (meaning_text fault.kind ++ item_end))

abbrev pub fault_items : List CopyFault → List ℕ
fault_items [] = []
fault_items (fault ∷ faults) = fault_item fault ++ fault_items faults

-- the faults of a copy, where it has any
unfoldable pub faults_list : List CopyFault → List ℕ
faults_list faults = if length faults == 0 then [] else faults_begin ++ (fault_items faults ++ list_end)

-- a symbol that the case lacks, and its place
unfoldable pub sort_item : List Symbol → JobFault → List ℕ
sort_item copy fault = codes "<li>" ++ (cause_text fault ++ (lacking_of copy fault ++ item_end))

abbrev pub sort_items : List Symbol → List JobFault → List ℕ
sort_items copy [] = []
sort_items copy (fault ∷ faults) = sort_item copy fault ++ sort_items copy faults

-- the symbols that the case lacks, where it lacks any
unfoldable pub sorts_list : List Symbol → List JobFault → List ℕ
sorts_list copy lacking =
    if length lacking == 0 then [] else sorts_begin ++ (sort_items copy lacking ++ list_end)
