-- What a stored feed and a case give.
use Rattle.std.proofs.Common.{◌≡◌, List, ℕ, subst}
use Rattle.std.specs.Prelude.{Err}
use Rattle.desk_ops.specs.OpSet.{OpSet}
use Rattle.desk_case.specs.Case.{CaseValues}
use Rattle.desk_case.specs.File.{case_of}
use Rattle.script_answers.specs.Failure.{case_refused}
use Rattle.script_answers.specs.declared.failure.Failure.{Failure}
use Rattle.script_answers.specs.declared.failure.Failure.TheVariants as failures
use Rattle.feed_files.specs.Files.{Shelf}
use Rattle.feed_edit.specs.Exporting.{IsVersion}
use Rattle.feed_edit.specs.declared.exporting.Version.{Version}
use Rattle.script_answers.specs.Inputs.{Answers, FileGives, FileLacksMemory}
use Rattle.view_preview.specs.Sources.{of_input}
use Rattle.view_punch.specs.SortsSources.{AreRefused}

-- the case is not given, where nothing changed as the feed was opened
pub no_inputs : (version : Version) (name : List ℕ) (set : OpSet) (first mid last : Shelf) (end : Failure) → mid ≡ first → IsVersion version first set
    → Answers {V = CaseValues} (λ given. FileGives case_of case_refused name mid given last) (FileLacksMemory name mid last) (Err end) → AreRefused version name first last (of_input end)
no_inputs version name set first mid last (failures.Refused why) same is given = (set, is, subst (λ (s : Shelf). FileGives case_of case_refused name s (Err why) last) same given)
no_inputs version name set first mid last failures.NoMemory same is given = (set, is, subst (λ (s : Shelf). FileLacksMemory name s last) same given)
