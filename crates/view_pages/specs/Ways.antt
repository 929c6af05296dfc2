-- The way out of a line at fault.
use Rattle.std.specs.Prelude.{ℕ, ◌+◌, List, [], ◌∷◌, ◌++◌, codes}
use Rattle.desk_ops.specs.declared.op.Symbol.{Symbol}
use Rattle.desk_job.specs.Job.{Terms}
use Rattle.desk_job.specs.declared.JobFault.{JobFault}
use Rattle.view_galley.specs.Svg.{text_end}
use Rattle.view_galley.specs.Values.{LineValues}
use Rattle.view_picture.specs.Lines.{beside, text_at}
use Rattle.view_picture.specs.declared.paper.Paper.{Paper}
use Rattle.view_proof.specs.Faults.{way_text}
use Rattle.view_proof.specs.declared.scale.Scale.{Scale}
use Rattle.view_pages.specs.Names.{escaped_text}

-- each character of it as XML has it
abbrev pub escaped_way : List Symbol → Scale → LineValues → JobFault → List ℕ
escaped_way copy scale line fault = escaped_text (way_text copy scale line fault)

-- that of a line whose letters stand here, which has one fault or none: beside it, 6 points below its cause
abbrev pub way_if_any : Terms → List Symbol → Paper → (y : ℕ) → LineValues → List JobFault → List ℕ
way_if_any terms copy paper y line [] = []
way_if_any terms copy paper y line (fault ∷ more) =
    text_at (codes "y") (beside terms paper line) (y + 600)
    ++ (escaped_way copy paper.scale line fault ++ text_end)
