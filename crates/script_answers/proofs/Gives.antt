-- The files of a command.
use Rattle.std.proofs.Common.{◌≡◌, ℕ, ◌∙◌, List, ap, arith, inl, inr, refl, subst, sym}
use Rattle.std.specs.Prelude.{◌≢◌, Option, Some, None, Result, Ok, Err}
use Rattle.toml.specs.Errors.{IsBlank}
use Rattle.script_answers.specs.declared.text.Refusal.{Refusal}
use Rattle.script_answers.specs.declared.text.Refusal.TheVariants as refusals
use Rattle.script_answers.specs.declared.failure.Failure.{Failure}
use Rattle.script_answers.specs.declared.failure.Failure.TheVariants as failures
use Rattle.script_answers.specs.Failure.{case_refused, failure, file_refused, wedge_refused}
use Rattle.desk_case.specs.Case.{CaseValues}
use Rattle.desk_case.specs.File.{case_of}
use Rattle.desk_case.specs.declared.CaseFault.{CaseFault}
use Rattle.desk_case.specs.declared.CaseFault.TheVariants as cases
use Rattle.desk_wedge.specs.Wedge.{WedgeValues}
use Rattle.desk_wedge.specs.File.{wedge_of}
use Rattle.desk_wedge.specs.declared.WedgeFault.{WedgeFault}
use Rattle.desk_wedge.specs.declared.WedgeFault.TheVariants as wedges
use Rattle.feed_files.specs.declared.files.FileRefusal.{FileRefusal}
use Rattle.feed_files.specs.declared.files.FileRefusal.TheVariants as files
use Rattle.feed_files.specs.Files.{Counts, IsCounted, Reads, Shelf, Stays}
use Rattle.feed_files.proofs.Shelves.{same_shelf}
use Rattle.script_answers.specs.Inputs.{Answers, BothGive, BothLackMemory, FileGives, FileLacksMemory, Reports, ReportsBytes, ThenWedge, with_case}

-- ---- where nothing has changed

-- what holds from one to another holds at the first
pub still_at : (P : Shelf → Shelf → Type 0) (first mid last : Shelf) → mid ≡ first → last ≡ mid → P mid last → P first first
still_at P first mid last same still holds = subst (λ (s : Shelf). P first s) (still ∙ same) (subst (λ (s : Shelf). P s last) same holds)

pub stays_by : {V : Type 0} (result : Result V FileRefusal) (before after : Shelf) → after.kept ≡ before.kept → after.held ≡ before.held → Counts result before after → Stays before after
stays_by (Ok v) before after kept held counts = (kept, omega arith, held)
stays_by (Err files.Missing) before after kept held counts = (kept, omega arith, held)
stays_by (Err files.Device) before after kept held counts = (kept, counts.1, held)
stays_by (Err files.Large) before after kept held counts = (kept, omega arith, held)
stays_by (Err files.NoMemory) before after kept held counts = (kept, omega arith, held)

-- ---- one file

-- it was not read
pub unread : {V E : Type 0} (meaning : List ℕ → Result V E) (refused : E → Option Refusal) (name : List ℕ) (before after : Shelf) (why : FileRefusal)
    → Stays before after → Reads (before.kept name) (Err why) → IsCounted why before after
    → Answers (λ given. FileGives meaning refused name before given after) (FileLacksMemory name before after) (Err (failure (file_refused why)))
unread meaning refused name before after files.Missing stays reads counts = (stays, Err files.Missing, reads, counts, (refusals.FileMissing, refl, refl))
unread meaning refused name before after files.Device stays reads counts = (stays, Err files.Device, reads, counts, (refusals.FileDevice, refl, refl))
unread meaning refused name before after files.Large stays reads counts = (stays, Err files.Large, reads, counts, (refusals.FileLarge, refl, refl))
unread meaning refused name before after files.NoMemory stays reads counts = (same_shelf before after stays counts, Err files.NoMemory, reads, refl)

-- its bytes were read, and mean this
pub read_as : {V E : Type 0} (meaning : List ℕ → Result V E) (refused : E → Option Refusal) (name : List ℕ) (before after : Shelf) (bytes slice : List ℕ) (value : V)
    → Stays before after → Reads (before.kept name) (Ok bytes) → after.failures ≡ before.failures → slice ≡ bytes → meaning slice ≡ Ok value → FileGives meaning refused name before (Ok value) after
read_as {V} {E} meaning refused name before after bytes slice value stays reads counts same means =
    let P : Result V E → Type 0 = λ r. Reports refused r (Ok value) in
    (stays, Ok bytes, reads, counts, subst P (sym means ∙ ap meaning same) refl)

-- its bytes were read, and mean nothing, for this fault
pub misread : {V E : Type 0} (meaning : List ℕ → Result V E) (refused : E → Option Refusal) (name : List ℕ) (before after : Shelf) (bytes slice : List ℕ) (fault : E)
    → Stays before after → Reads (before.kept name) (Ok bytes) → after.failures ≡ before.failures → slice ≡ bytes
    → ((reported : Refusal) → refused fault ≡ Some reported → meaning slice ≡ Err fault) → (refused fault ≡ None → ¬ IsBlank slice)
    → Answers (λ given. FileGives meaning refused name before given after) (FileLacksMemory name before after) (Err (failure (refused fault)))
misread {V} {E} meaning refused name before after bytes slice fault stays reads counts same means more = by (refused fault) refl
  where
    by : (o : Option Refusal) → refused fault ≡ o → Answers (λ given. FileGives meaning refused name before given after) (FileLacksMemory name before after) (Err (failure o))
    by None is = (same_shelf before after stays counts, Ok bytes, reads, subst (λ l. ¬ IsBlank l) same (more is))
    by (Some reported) is =
        let P : Result V E → Type 0 = λ r. Reports refused r (Err reported) in
        (stays, Ok bytes, reads, counts, subst P (sym (means reported is) ∙ ap meaning same) (reported, is, refl))

pub no_memory_case : (fault : CaseFault) (reported : Refusal) → case_refused fault ≡ Some reported → fault ≢ cases.NoMemory
no_memory_case fault reported is none = let e : None ≡ Some reported = ap case_refused (sym none) ∙ is in cc

pub no_memory_wedge : (fault : WedgeFault) (reported : Refusal) → wedge_refused fault ≡ Some reported → fault ≢ wedges.NoMemory
no_memory_wedge fault reported is none = let e : None ≡ Some reported = ap wedge_refused (sym none) ∙ is in cc

pub no_number_case : (fault : CaseFault) → case_refused fault ≡ None → fault ≡ cases.NoMemory
no_number_case cases.NotToml is = let e : Some (refusals.Case 1) ≡ None = is in cc
no_number_case (cases.Missing key) is = let e : Some (refusals.Case 2) ≡ None = is in cc
no_number_case (cases.Shape key) is = let e : Some (refusals.Case 3) ≡ None = is in cc
no_number_case (cases.BadText cell) is = let e : Some (refusals.Case 4) ≡ None = is in cc
no_number_case (cases.Doubled symbol) is = let e : Some (refusals.Case 5) ≡ None = is in cc
no_number_case (cases.NotBlank cell) is = let e : Some (refusals.Case 6) ≡ None = is in cc
no_number_case cases.FillOrder is = let e : Some (refusals.Case 7) ≡ None = is in cc
no_number_case cases.NoMemory is = refl

pub no_number_wedge : (fault : WedgeFault) → wedge_refused fault ≡ None → fault ≡ wedges.NoMemory
no_number_wedge wedges.NotToml is = let e : Some (refusals.Wedge 1) ≡ None = is in cc
no_number_wedge (wedges.Missing key) is = let e : Some (refusals.Wedge 2) ≡ None = is in cc
no_number_wedge (wedges.Range key) is = let e : Some (refusals.Wedge 3) ≡ None = is in cc
no_number_wedge (wedges.Descending row) is = let e : Some (refusals.Wedge 4) ≡ None = is in cc
no_number_wedge wedges.NoMemory is = refl

-- ---- both

-- no case, for this
pub no_case : (of_case of_wedge : List ℕ) (before after : Shelf) (end : Failure) → Answers (λ given. FileGives case_of case_refused of_case before given after) (FileLacksMemory of_case before after) (Err end)
    → Answers (λ given. BothGive of_case of_wedge before given after) (BothLackMemory of_case of_wedge before after) (Err end)
no_case of_case of_wedge before after (failures.Refused why) given = (Err why, (after, given, (refl, refl)))
no_case of_case of_wedge before after failures.NoMemory given = inl given

-- a case, and no wedge, for this
pub no_wedge : (of_case of_wedge : List ℕ) (before mid after : Shelf) (case : CaseValues) (end : Failure) → mid ≡ before → FileGives case_of case_refused of_case before (Ok case) mid
    → Answers (λ given. FileGives wedge_of wedge_refused of_wedge mid given after) (FileLacksMemory of_wedge mid after) (Err end)
    → Answers (λ given. BothGive of_case of_wedge before given after) (BothLackMemory of_case of_wedge before after) (Err end)
no_wedge of_case of_wedge before mid after case (failures.Refused why) same first given = (Ok case, (mid, first, (Err why, given, refl)))
no_wedge of_case of_wedge before mid after case failures.NoMemory same first given =
    inr (case, subst (λ (s : Shelf). FileGives case_of case_refused of_case before (Ok case) s) same first, subst (λ (s : Shelf). FileLacksMemory of_wedge s after) same given)

-- a case and a wedge
pub case_and_wedge : (of_case of_wedge : List ℕ) (before mid after : Shelf) (case : CaseValues) (wedge : WedgeValues) → FileGives case_of case_refused of_case before (Ok case) mid
    → FileGives wedge_of wedge_refused of_wedge mid (Ok wedge) after → BothGive of_case of_wedge before (Ok (case, wedge)) after
case_and_wedge of_case of_wedge before mid after case wedge first second = (Ok case, (mid, first, (Ok wedge, second, refl)))

-- ---- out of memory

pub lacking : {V : Type 0} (Holds : Result V Refusal → Type 0) (Lacks : Type 0) (end : Failure) → Answers {V = V} Holds Lacks (Err end) → end ≡ failures.NoMemory → Lacks
lacking Holds Lacks (failures.Refused why) given is = let e : failures.Refused why ≡ failures.NoMemory = is in cc
lacking Holds Lacks failures.NoMemory given is = given

-- ---- where a file gives a value nothing has changed, and nothing failed

given_same : {V E : Type 0} (meaning : List ℕ → Result V E) (refused : E → Option Refusal) (name : List ℕ) (before after : Shelf) (value : V) → FileGives meaning refused name before (Ok value) after → after ≡ before
given_same {V} {E} meaning refused name before after value (stays, read, reads, counts, reports) = by read counts reports
  where
    by : (read : Result (List ℕ) FileRefusal) → Counts read before after → ReportsBytes meaning refused read (Ok value) → after ≡ before
    by (Ok bytes) counts reports = same_shelf before after stays counts
    by (Err why) counts (reported, is, e) = let k : Ok value ≡ Err reported = e in cc

wedge_same : (name : List ℕ) (mid after : Shelf) (case : CaseValues) (both : CaseValues × WedgeValues) (wedge : Result WedgeValues Refusal) → FileGives wedge_of wedge_refused name mid wedge after → Ok both ≡ with_case case wedge → after ≡ mid
wedge_same name mid after case both (Ok wedge) given e = given_same wedge_of wedge_refused name mid after wedge given
wedge_same name mid after case both (Err why) given e = let k : Ok both ≡ Err why = e in cc

case_same : (of_case of_wedge : List ℕ) (before mid after : Shelf) (both : CaseValues × WedgeValues) (case : Result CaseValues Refusal) → FileGives case_of case_refused of_case before case mid → ThenWedge of_wedge case mid (Ok both) after → after ≡ before
case_same of_case of_wedge before mid after both (Ok case) given (wedge, second, e) = wedge_same of_wedge mid after case both wedge second e ∙ given_same case_of case_refused of_case before mid case given
case_same of_case of_wedge before mid after both (Err why) given (e, same) = let k : Ok both ≡ Err why = e in cc

pub both_same : (of_case of_wedge : List ℕ) (before after : Shelf) (both : CaseValues × WedgeValues) → BothGive of_case of_wedge before (Ok both) after → after ≡ before
both_same of_case of_wedge before after both (case, (mid, given, more)) = case_same of_case of_wedge before mid after both case given more
