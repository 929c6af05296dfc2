-- The case and the wedge among files that are checked: where there is one of each, they are compared.
use Rattle.std.specs.Prelude.{◌≡◌, ◌≤◌, ℕ, if◌then◌else◌, List, [], ◌∷◌, ◌++◌, length, codes, Option, Some, None}
use Rattle.std.specs.Prelude.{option_and_then, Result, Ok, Err}
use Rattle.std.specs.List.{flat_map}
use Rattle.std.specs.Result.{is_ok}
use Rattle.desk_case.specs.Case.{CaseValues}
use Rattle.desk_case.specs.File.{case_of, checked}
use Rattle.desk_case.specs.declared.CaseFault.{CaseFault}
use Rattle.text_copy.specs.Plain.{plain_text}
use Rattle.desk_wedge.specs.Wedge.{WedgeValues}
use Rattle.desk_wedge.specs.File.{wedge_of}
use Rattle.desk_wedge.specs.declared.WedgeFault.{WedgeFault}
use Rattle.feed_check.specs.Kinds.{kind_of}
use Rattle.feed_check.specs.declared.kinds.Kind.{Kind}
use Rattle.feed_check.specs.declared.kinds.Kind.TheVariants as kinds
use Rattle.feed_check.specs.declared.metal.Found.{Found}
use Rattle.feed_check.specs.declared.metal.Found.TheVariants as founds
use Rattle.feed_check.specs.declared.metal.Metal.{Metal}
use Rattle.feed_check.specs.declared.metal.Seen.{Seen}
use Rattle.feed_check.specs.declared.metal.Seen.TheVariants as seen

-- ---- what files give

abbrev pub of_case : Result CaseValues CaseFault → Found
of_case (Ok case) = founds.Case case
of_case (Err fault) = founds.Neither

abbrev pub of_wedge : Result WedgeValues WedgeFault → Found
of_wedge (Ok wedge) = founds.Wedge wedge
of_wedge (Err fault) = founds.Neither

abbrev pub found_as : Kind → List ℕ → Found
found_as kinds.Feed bytes = founds.Neither
found_as kinds.Ribbon bytes = founds.Neither
found_as kinds.Case bytes = of_case (case_of bytes)
found_as kinds.Wedge bytes = of_wedge (wedge_of bytes)
found_as kinds.Strange bytes = founds.Neither

-- what bytes give for a cast: a case or a wedge that is in order, or neither
abbrev pub found_in : List ℕ → Found
found_in bytes = found_as (kind_of bytes) bytes

abbrev pub case_in : List ℕ × Found → List (List ℕ × CaseValues)
case_in (name, founds.Case case) = (name, case) ∷ []
case_in (name, founds.Wedge wedge) = []
case_in (name, founds.Neither) = []

abbrev pub wedge_in : List ℕ × Found → List (List ℕ × WedgeValues)
wedge_in (name, founds.Case case) = []
wedge_in (name, founds.Wedge wedge) = (name, wedge) ∷ []
wedge_in (name, founds.Neither) = []

-- the cases and the wedges among files, with their names
abbrev pub cases_in : List (List ℕ × Found) → List (List ℕ × CaseValues)
cases_in files = flat_map case_in files

abbrev pub wedges_in : List (List ℕ × Found) → List (List ℕ × WedgeValues)
wedges_in files = flat_map wedge_in files

-- ---- a case and a wedge

-- the line of a case and a wedge, by their names, that do not go together
abbrev pub unfit_line : (case wedge : List ℕ) → List ℕ
unfit_line case wedge = plain_text case ++ codes " with " ++ plain_text wedge
    ++ codes ": the units of the fills do not descend\n"

abbrev pub pair_line : List ℕ × CaseValues → List ℕ × WedgeValues → Option (List ℕ)
pair_line case wedge = if is_ok (checked wedge.1 case.1) then None else Some (unfit_line case.0 wedge.0)

-- the only one, where there is one
abbrev pub only : {A : Type 0} → List A → Option A
only [] = None
only (x ∷ []) = Some x
only (x ∷ y ∷ more) = None

abbrev pub line_of_pair : Option (List ℕ × CaseValues) → Option (List ℕ × WedgeValues) → Option (List ℕ)
line_of_pair case wedge = option_and_then (λ c. option_and_then (pair_line c) wedge) case

-- the line of the only case and the only wedge among files, where they do not go together
abbrev pub unfit_among : List (List ℕ × Found) → Option (List ℕ)
unfit_among files = line_of_pair (only (cases_in files)) (only (wedges_in files))

-- ---- what is kept of files

-- there are no files of one kind, or this one, or several
abbrev pub AreSeen : {T : Type 0} → Seen T → List (List ℕ × T) → Type 0
AreSeen seen.Nothing found = found ≡ []
AreSeen (seen.One name value) found = found ≡ (name.now, value) ∷ []
AreSeen seen.Several found = 2 ≤ length found

-- the cases and the wedges among files
abbrev pub IsMetal : Metal → List (List ℕ × Found) → Type 0
IsMetal metal files = AreSeen metal.cases (cases_in files) × AreSeen metal.wedges (wedges_in files)

-- the one that is kept
abbrev pub kept : {T : Type 0} → Seen T → Option (List ℕ × T)
kept seen.Nothing = None
kept (seen.One name value) = Some (name.now, value)
kept seen.Several = None

abbrev pub unfit_of : Metal → Option (List ℕ)
unfit_of metal = line_of_pair (kept metal.cases) (kept metal.wedges)
