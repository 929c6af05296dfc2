-- What is answered in place of a galley.
use Rattle.std.specs.Prelude.{◌≡◌, List, [], ◌∷◌, Result, Ok, Err}
use Rattle.std.specs.List.{flat_map}
use Rattle.desk_ops.specs.declared.op.Symbol.{Symbol}
use Rattle.desk_ops.specs.declared.op.Key.{Key}
use Rattle.desk_wedge.specs.Wedge.{WedgeValues}
use Rattle.desk_case.specs.Case.{CaseValues}
use Rattle.desk_signals.specs.declared.RibbonRow.{RibbonRow}
use Rattle.desk_ribbon.specs.Ribbon.{head_row}
use Rattle.desk_job.specs.Job.{terms_fault, terms_of}
use Rattle.desk_job.specs.declared.JobFault.{JobFault}
use Rattle.desk_job.specs.declared.JobFault.TheVariants.{MissingSetting}
use Rattle.desk_job.specs.declared.terms.Values.{Values}
use Rattle.view_galley.specs.Values.{GalleyValues}
use Rattle.view_galley.specs.Galley.{rows_of_line}
use Rattle.view_galley.specs.declared.galley.GalleyRefusal.{GalleyRefusal}
use Rattle.view_galley.specs.declared.galley.GalleyRefusal.TheVariants as refusal

-- the rows of the lines of a galley
abbrev pub rows_of_galley : GalleyValues → List Symbol → List RibbonRow
rows_of_galley galley copy = head_row ∷ flat_map (rows_of_line galley.terms.case copy) galley.lines

-- The job has this fault alone; out of memory may come in place of any.
abbrev pub IsRefused : GalleyRefusal → Result (List RibbonRow) (List JobFault) → Type 0
IsRefused (refusal.Fault fault) made = made ≡ Err (fault ∷ [])
IsRefused refusal.NoMemory made = Unit {0}

-- why nothing is set by what the settings give, a case and a wedge, if so: a key has no value, or what these have
-- against one another
abbrev pub no_terms : CaseValues → WedgeValues → Result Values Key → List JobFault
no_terms case wedge (Err key) = MissingSetting key ∷ []
no_terms case wedge (Ok values) = terms_fault (terms_of case wedge values) values

-- There is no galley for this fault of the settings, the case and the wedge; out of memory comes only where there is
-- none.
abbrev pub IsOfTerms : GalleyRefusal → List JobFault → Type 0
IsOfTerms (refusal.Fault fault) found = found ≡ fault ∷ []
IsOfTerms refusal.NoMemory found = found ≡ []
