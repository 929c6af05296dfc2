-- What is read for a list of sorts: a stored feed, and a case alone.
use Rattle.std.specs.Prelude.{ℕ, List, Ok, Err}
use Rattle.desk_ops.specs.OpSet.{OpSet}
use Rattle.desk_case.specs.Case.{CaseValues}
use Rattle.desk_case.specs.File.{case_of}
use Rattle.script_answers.specs.Failure.{case_refused}
use Rattle.feed_files.specs.Files.{Shelf}
use Rattle.feed_edit.specs.Exporting.{IsUnversioned, IsVersion}
use Rattle.feed_edit.specs.declared.exporting.Version.{Version}
use Rattle.script_answers.specs.Inputs.{FileGives, FileLacksMemory}
use Rattle.view_preview.specs.declared.fault.SourcesFault.{SourcesFault}
use Rattle.view_preview.specs.declared.fault.SourcesFault.TheVariants as refusals

-- the version of the feed has this set, and the file of this name gives this case
abbrev pub Give : Version → List ℕ → Shelf → OpSet → CaseValues → Type 0
Give version name shelf set case = IsVersion version shelf set
    × FileGives case_of case_refused name shelf (Ok case) shelf

-- why they give nothing: the feed is not opened; or it is, and then the case is refused, or memory runs out by it
abbrev pub AreRefused : Version → List ℕ → Shelf → Shelf → SourcesFault → Type 0
AreRefused version name before after (refusals.Feed why) = IsUnversioned version before after why
AreRefused version name before after refusals.TooLong = ⊥
AreRefused version name before after (refusals.Text why) = ⊥
AreRefused version name before after (refusals.Input why) = (set : OpSet) × IsVersion version before set
    × FileGives case_of case_refused name before (Err why) after
AreRefused version name before after refusals.NoMemory = (set : OpSet) × IsVersion version before set
    × FileLacksMemory name before after
