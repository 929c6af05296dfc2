-- A job that has a ribbon.
use Rattle.std.proofs.Common.{◌≡◌, ℕ, List, refl}
use Rattle.std.specs.Prelude.{Result, Ok, Err}
use Rattle.desk_signals.specs.declared.RibbonRow.{RibbonRow}
use Rattle.desk_ribbon.specs.Ribbon.{ribbon}
use Rattle.desk_job.specs.Answer.{IsMade}
use Rattle.desk_job.specs.declared.JobFault.{JobFault}

-- bytes that are made are the ribbon of the rows of the job
pub made_rows : (bytes : List ℕ) (made : Result (List RibbonRow) (List JobFault)) → IsMade bytes made → (rows : List RibbonRow) × (made ≡ Ok rows) × (bytes ≡ ribbon rows)
made_rows bytes (Ok rows) is = (rows, refl, is)
made_rows bytes (Err found) is = absurd is
