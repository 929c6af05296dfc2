-- What is known of a line.
use Rattle.std.specs.Prelude.{ℕ, ℤ, Bool, List, Option}
use Rattle.desk_lines.specs.declared.words.Word.{Word}
use Rattle.desk_wedge.specs.Wedge.{WedgeValues}
use Rattle.desk_job.specs.Job.{Terms}
use Rattle.desk_job.specs.declared.terms.Values.{Values}
use Rattle.desk_job.specs.declared.JobFault.{JobFault}
use Rattle.view_galley.specs.declared.line.Next.{Next}

-- a line: its number, its words by their places, whether it is to be filled, whether a space is added, its spaces, its
-- width at neutral, the rest of the measure, how often each fill is used, the number that drives its spaces, its fault
-- if there is one, and the word after it
pub record LineValues : Type 0 where
  pub number : ℕ
  pub words : List Word
  pub filled : Bool
  pub added : Bool
  pub spaces : ℕ
  pub width : ℕ
  pub rest : ℤ
  pub fills : List ℕ
  pub wedge_sum : Option ℤ
  pub faults : List JobFault
  pub next : Option Next

-- the wedge, the values of the settings, what the lines are set by, the places of symbols that the case lacks, and the
-- lines
pub record GalleyValues : Type 0 where
  pub wedge : WedgeValues
  pub values : Values
  pub terms : Terms
  pub lacking : List JobFault
  pub lines : List LineValues
