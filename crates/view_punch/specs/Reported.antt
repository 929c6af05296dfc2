-- What is reported of a copy by a case: its sorts, and what the case holds.
use Rattle.std.specs.Prelude.{◌≡◌, ◌==◌, ℕ, Bool, List, [], ◌++◌, if◌then◌else◌}
use Rattle.desk_ops.specs.declared.op.Symbol.{Symbol}
use Rattle.desk_case.specs.Case.{CaseValues}
use Rattle.view_punch.specs.declared.sorts.Sort.{Sort}
use Rattle.view_punch.specs.Layout.{case_text}
use Rattle.view_punch.specs.Listing.{missing_of, sorts_text}
use Rattle.view_punch.specs.Sorts.{AreSortsOf}

-- the table of the case, where it is wanted
abbrev pub layout_text : CaseValues → Bool → List ℕ
layout_text case layout = if layout then case_text case else []

-- the list of sorts, and that table after it
abbrev pub reported_text : List Symbol → CaseValues → List Sort → Bool → List ℕ
reported_text copy case sorts layout = sorts_text copy case sorts ++ layout_text case layout

-- what is reported of the sorts of a copy by a case, and whether the case holds each
abbrev pub IsReportedOf : List Symbol → CaseValues → Bool → List ℕ → Bool → Type 0
IsReportedOf copy case layout reported complete =
    (sorts : List Sort) × AreSortsOf copy sorts × (reported ≡ reported_text copy case sorts layout)
    × (complete ≡ (missing_of case sorts == 0))
