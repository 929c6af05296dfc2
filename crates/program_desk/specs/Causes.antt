-- The cause of what stopped: which file it was, or which end of the program, and why.
use Rattle.std.specs.Prelude.{ℕ, ◌-◌, ◌==◌, List, Option, None, Some, if◌then◌else◌, slice_get}
use Rattle.std.specs.Borrow.{Bor}
use Rattle.clap.specs.Words.{Text}
use Rattle.feed_files.specs.declared.files.FileRefusal.{FileRefusal}
use Rattle.feed_files.specs.declared.files.FileRefusal.TheVariants as refusals
use Rattle.feed_edit.specs.Importing.{max_text}
use Rattle.feed_edit.specs.declared.fault.FeedTrouble.{FeedTrouble}
use Rattle.feed_edit.specs.declared.fault.FeedTrouble.TheVariants as troubles
use Rattle.feed_edit.specs.declared.fault.TakeFault.{TakeFault}
use Rattle.feed_edit.specs.declared.fault.TakeFault.TheVariants as takes
use Rattle.feed_edit.specs.declared.fault.InputFault.{InputFault}
use Rattle.feed_edit.specs.declared.fault.InputFault.TheVariants as inputs
use Rattle.feed_edit.specs.declared.fault.RevisionFault.{RevisionFault}
use Rattle.feed_edit.specs.declared.fault.RevisionFault.TheVariants as revisions
use Rattle.feed_edit.specs.declared.fault.KeepFault.{KeepFault}
use Rattle.feed_edit.specs.declared.fault.KeepFault.TheVariants as keeps
use Rattle.feed_edit.specs.declared.fault.MergeFault.{MergeFault}
use Rattle.feed_edit.specs.declared.fault.MergeFault.TheVariants as merges
use Rattle.feed_edit.specs.declared.fault.ExportFault.{ExportFault}
use Rattle.feed_edit.specs.declared.fault.ExportFault.TheVariants as exports
use Rattle.feed_edit.specs.declared.fault.ImportFault.{ImportFault}
use Rattle.feed_edit.specs.declared.fault.ImportFault.TheVariants as imports
use Rattle.desk_script.specs.declared.fault.RoomFault.{RoomFault}
use Rattle.desk_script.specs.declared.fault.RoomFault.TheVariants as rooms
use Rattle.desk_script.specs.declared.fault.RunFault.{RunFault}
use Rattle.desk_script.specs.declared.fault.RunFault.TheVariants as runs
use Rattle.desk_script.specs.Sheet.{max_sheet}
use Rattle.desk_script.specs.declared.sheet_fault.SheetFault.{SheetFault}
use Rattle.desk_script.specs.declared.sheet_fault.SheetFault.TheVariants as stops
use Rattle.feed_edit.specs.declared.replace_fault.ExchangeFault.TheVariants as exchanges
use Rattle.feed_edit.specs.declared.replace_fault.PlaceFault.TheVariants as places
use Rattle.feed_edit.specs.declared.replace_fault.ReplaceFault.{ReplaceFault}
use Rattle.feed_edit.specs.declared.replace_fault.ReplaceFault.TheVariants as replacements
use Rattle.feed_check.specs.declared.fault.CheckFault.{CheckFault}
use Rattle.feed_check.specs.declared.fault.CheckFault.TheVariants as checks
use Rattle.feed_sites.specs.declared.difference_fault.DifferenceFault.{DifferenceFault}
use Rattle.feed_sites.specs.declared.difference_fault.DifferenceFault.TheVariants as differences
use Rattle.view_proof.specs.declared.reasons.OtherNumber.{OtherNumber}
use Rattle.view_proof.specs.declared.reasons.OtherNumber.TheVariants as others
use Rattle.view_preview.specs.declared.fault.PreviewFault.{PreviewFault}
use Rattle.view_preview.specs.declared.fault.PreviewFault.TheVariants as previews
use Rattle.view_ribbon.specs.declared.comparing.Pair.{Pair}
use Rattle.view_ribbon.specs.declared.fault.ComparisonFault.{ComparisonFault}
use Rattle.view_ribbon.specs.declared.fault.ComparisonFault.TheVariants as comparisons
use Rattle.view_ribbon.specs.declared.sources.Sources as ribbons
use Rattle.view_ribbon.specs.declared.fault.ReadingFault.{ReadingFault}
use Rattle.view_ribbon.specs.declared.fault.ReadingFault.TheVariants as readings
use Rattle.view_preview.specs.declared.sources.Sources.{Sources}
use Rattle.view_punch.specs.Punching.{source_of}
use Rattle.view_punch.specs.declared.punching.Galleys.{Galleys}
use Rattle.view_punch.specs.declared.punching.Stop.{Stop}
use Rattle.view_preview.specs.declared.job.Job.{Job}
use Rattle.view_preview.specs.declared.job.Source.{Source}
use Rattle.view_preview.specs.declared.job.Source.TheVariants as given
use Rattle.feed_stored.specs.declared.last_fault.LastFault.{LastFault}
use Rattle.feed_stored.specs.declared.last_fault.LastFault.TheVariants as lasts
use Rattle.feed_sites.specs.declared.fault.NumberFault.TheVariants as numbers
use Rattle.feed_sites.specs.declared.fault.RenumberFault.{RenumberFault}
use Rattle.feed_sites.specs.declared.fault.RenumberFault.TheVariants as renumberings
use Rattle.feed_sites.specs.declared.renew_fault.RenewFault.{RenewFault}
use Rattle.feed_sites.specs.declared.renew_fault.RenewFault.TheVariants as renewals
use Rattle.text_copy.specs.declared.fault.TextFault.{TextFault}
use Rattle.text_copy.specs.declared.fault.TextFault.TheVariants as texts
use Rattle.view_preview.specs.declared.trial.TrialFault.{TrialFault}
use Rattle.view_preview.specs.declared.trial.TrialFault.TheVariants as trials
use Rattle.program_desk.specs.declared.causes.Cause.{Cause}
use Rattle.program_desk.specs.declared.causes.Cause.TheVariants as causes
use Rattle.program_desk.specs.declared.causes.Origin.{Origin}
use Rattle.program_desk.specs.declared.causes.Origin.TheVariants as origins
use Rattle.program_desk.specs.declared.causes.Said.TheVariants as saids

-- ---- files and feeds

-- a file was refused
abbrev pub file_cause : Bor Text → FileRefusal → Cause
file_cause name refusals.Missing = causes.File name
file_cause name refusals.Device = causes.File name
file_cause name refusals.Large = causes.File name
file_cause name refusals.NoMemory = causes.NoMemory name

-- the feed of a file does not come in
abbrev pub feed_cause : Bor Text → FeedTrouble → Cause
feed_cause feed (troubles.File why) = file_cause feed why
feed_cause feed (troubles.Feed fault) = causes.Feed feed fault
feed_cause feed troubles.Full = causes.Full feed
feed_cause feed troubles.NoMemory = causes.NoMemory feed

-- a stored feed was not taken
abbrev pub take_cause : Bor Text → TakeFault → Cause
take_cause feed (takes.Untaken why) = file_cause feed why
take_cause feed (takes.Feed why) = feed_cause feed why

-- what was done was not written, or the feed not stored
abbrev pub keep_cause : Bor Text → KeepFault → Cause
keep_cause feed keeps.Write = causes.Output
keep_cause feed (keeps.Unstored why) = file_cause feed why
keep_cause feed keeps.NoMemory = causes.NoMemory feed

-- ---- commands on a feed

-- one by one
abbrev pub desk_cause : Bor Text → RunFault → Cause
desk_cause feed runs.Read = causes.Input
desk_cause feed runs.Write = causes.Output
desk_cause feed runs.TooLong = causes.Endless
desk_cause feed runs.NoMemory = causes.NoMemory feed
desk_cause feed (runs.Feed fault) = causes.Feed feed fault
desk_cause feed (runs.File why) = causes.File feed
desk_cause feed (runs.Opening stop) = causes.TooMany feed

-- a feed was not let in
abbrev pub last_cause : Bor Text → ℕ → LastFault → Cause
last_cause feed site (lasts.Older made held) = causes.Older feed site made held
last_cause feed site lasts.NoMemory = causes.NoMemory feed

-- in a room
abbrev pub room_cause : Bor Text → ℕ → RoomFault → Cause
room_cause feed site (rooms.Older made held) = causes.Older feed site made held
room_cause feed site (rooms.Run fault) = desk_cause feed fault

-- as a sheet, which has a limit
abbrev pub sheet_cause : Bor Text → RunFault → Cause
sheet_cause feed runs.Read = causes.Input
sheet_cause feed runs.Write = causes.Output
sheet_cause feed runs.TooLong = causes.TooLong max_sheet
sheet_cause feed runs.NoMemory = causes.NoMemory feed
sheet_cause feed (runs.Feed fault) = causes.Feed feed fault
sheet_cause feed (runs.File why) = causes.File feed
sheet_cause feed (runs.Opening stop) = causes.TooMany feed

-- a sheet stopped, at a line of it, or for the feed or the run
abbrev pub stop_cause : Bor Text → ℕ → SheetFault → Cause
stop_cause feed site (stops.Line number) = causes.Line feed number
stop_cause feed site (stops.Older made held) = causes.Older feed site made held
stop_cause feed site (stops.Run fault) = sheet_cause feed fault

-- ---- by hand

-- a text is no copy
abbrev pub text_cause : Bor Text → Origin → TextFault → Cause
text_cause feed origin (texts.At line column why) = causes.Said (saids.Text origin line column why)
text_cause feed origin texts.NoMemory = causes.NoMemory feed

-- no text was read
abbrev pub input_cause : Bor Text → InputFault → Cause
input_cause feed inputs.Read = causes.Input
input_cause feed inputs.TooLong = causes.TooLong max_text
input_cause feed (inputs.Text fault) = text_cause feed origins.Input fault
input_cause feed inputs.NoMemory = causes.NoMemory feed

-- a copy was not made a text
abbrev pub revision_cause : Bor Text → RevisionFault → Cause
revision_cause feed revisions.Full = causes.Unfit feed revisions.Full
revision_cause feed revisions.ClockFull = causes.Unfit feed revisions.ClockFull
revision_cause feed revisions.Value = causes.Unfit feed revisions.Value
revision_cause feed revisions.NoMemory = causes.NoMemory feed

-- another feed does not come in
abbrev pub other_cause : Bor Text → Option (Bor Text) → FeedTrouble → Cause
other_cause feed None why = feed_cause feed why
other_cause feed (Some other) why = feed_cause other why

-- feeds were not merged: of the others the one at the place; the counters of a number that was used twice have a line
-- of their own
abbrev pub merge_cause : {A : Type 0} → Bor Text → List (Bor Text) → MergeFault A → Cause
merge_cause feed others (merges.Take why) = take_cause feed why
merge_cause feed others (merges.Other at why) = other_cause feed (slice_get others at) why
merge_cause feed others (merges.Forks at stamps) = causes.Said saids.Forks
merge_cause feed others (merges.Keep why) = keep_cause feed why

abbrev pub export_cause : Bor Text → ExportFault → Cause
export_cause feed (exports.Feed why) = feed_cause feed why
export_cause feed exports.Write = causes.ReportOutput
export_cause feed exports.NoMemory = causes.NoMemory feed

abbrev pub import_cause : Bor Text → ℕ → ImportFault → Cause
import_cause feed site (imports.Take why) = take_cause feed why
import_cause feed site (imports.Last why) = last_cause feed site why
import_cause feed site (imports.Input why) = input_cause feed why
import_cause feed site (imports.Revision why) = revision_cause feed why
import_cause feed site (imports.Wipes deleted of) = causes.Said (saids.Wipes deleted of)
import_cause feed site (imports.Keep why) = keep_cause feed why

-- a feed got no other number for what another feed bears under the same
abbrev pub renumber_cause : Bor Text → Bor Text → ℕ → RenumberFault → Cause
renumber_cause feed other site (renumberings.Take why) = take_cause feed why
renumber_cause feed other site (renumberings.Other why) = feed_cause other why
renumber_cause feed other site (renumberings.Number numbers.InUse) = causes.Number site numbers.InUse
renumber_cause feed other site (renumberings.Number (numbers.Seen stamp)) = causes.Number site (numbers.Seen stamp)
renumber_cause feed other site (renumberings.Number numbers.Clash) = causes.Number site numbers.Clash
renumber_cause feed other site (renumberings.Number numbers.NoMemory) = causes.NoMemory feed
renumber_cause feed other site (renumberings.Keep why) = keep_cause feed why

-- no new feed was made of a stored one
abbrev pub renew_cause : Bor Text → Bor Text → RenewFault → Cause
renew_cause new feed (renewals.Take why) = take_cause new why
renew_cause new feed renewals.There = causes.There new
renew_cause new feed (renewals.Feed why) = feed_cause feed why
renew_cause new feed (renewals.Keep why) = keep_cause new why

-- nothing was replaced; the places are on standard output
abbrev pub replace_cause : Bor Text → ℕ → ReplaceFault → Cause
replace_cause feed site (replacements.Exchange (exchanges.Old fault)) = text_cause feed origins.Old fault
replace_cause feed site (replacements.Exchange (exchanges.New fault)) = text_cause feed origins.New fault
replace_cause feed site (replacements.Exchange exchanges.NoMemory) = causes.NoMemory feed
replace_cause feed site (replacements.Take why) = take_cause feed why
replace_cause feed site (replacements.Last why) = last_cause feed site why
replace_cause feed site (replacements.Place places.NoPlace) = causes.Said saids.NoPlace
replace_cause feed site (replacements.Place (places.ManyPlaces count)) = causes.Said (saids.ManyPlaces count)
replace_cause feed site (replacements.Place places.Write) = causes.ReportOutput
replace_cause feed site (replacements.Place places.NoMemory) = causes.NoMemory feed
replace_cause feed site (replacements.Revision why) = revision_cause feed why
replace_cause feed site (replacements.Keep why) = keep_cause feed why

abbrev pub difference_cause : Bor Text → Bor Text → DifferenceFault → Cause
difference_cause one other (differences.One why) = feed_cause one why
difference_cause one other (differences.Other why) = feed_cause other why
difference_cause one other differences.Write = causes.ReportOutput
difference_cause one other differences.NoMemory = causes.NoMemory one

-- ---- what is made of a feed or of a ribbon; what was not stored is the target

abbrev pub unstored_cause : Bor Text → Bor Text → FileRefusal → Cause
unstored_cause source target refusals.Missing = causes.File target
unstored_cause source target refusals.Device = causes.File target
unstored_cause source target refusals.Large = causes.File target
unstored_cause source target refusals.NoMemory = causes.NoMemory source

-- the file whose number is another, with the feed of the setting, and both numbers
abbrev pub number_cause : Sources → OtherNumber → Cause
number_cause from (others.Case set number) = causes.Other from.case from.version.feed (others.Case set number)
number_cause from (others.Wedge set number) = causes.Other from.wedge from.version.feed (others.Wedge set number)

-- the faults of a copy or of a job are on standard output
abbrev pub preview_cause : Sources → Bor Text → PreviewFault → Cause
preview_cause from target (previews.Feed why) = feed_cause from.version.feed why
preview_cause from target (previews.Text why) = text_cause from.version.feed origins.Sought why
preview_cause from target previews.TooLong = causes.LongText from.version.feed
preview_cause from target (previews.Input why) = causes.CaseOrWedge from.case from.wedge why
preview_cause from target previews.CopyFaults = causes.CopyFaults from.version.feed
preview_cause from target (previews.Faulty None) = causes.NoRibbon from.version.feed
preview_cause from target (previews.Faulty (Some other)) = number_cause from other
preview_cause from target previews.Write = causes.ReportOutput
preview_cause from target (previews.Taken kind) = causes.Taken target kind
preview_cause from target (previews.Unstored why) = unstored_cause from.version.feed target why
preview_cause from target previews.NoMemory = causes.NoMemory from.version.feed

-- of two names the second, if there is one
abbrev pub or_first : Bor Text → Option (Bor Text) → Bor Text
or_first first None = first
or_first first (Some other) = other

-- the feed at a place: 0 is the first
abbrev pub feed_at : Galleys → ℕ → Bor Text
feed_at from at = if at == 0 then from.first else or_first from.first (slice_get from.others.now (at - 1))

-- of a ribbon that would be too long, or else of the feed that stopped it
abbrev pub made_cause : Sources → Bor Text → PreviewFault → Cause
made_cause from target (previews.Feed why) = preview_cause from target (previews.Feed why)
made_cause from target (previews.Text why) = preview_cause from target (previews.Text why)
made_cause from target previews.TooLong = causes.LongRibbon target
made_cause from target (previews.Input why) = preview_cause from target (previews.Input why)
made_cause from target previews.CopyFaults = preview_cause from target previews.CopyFaults
made_cause from target (previews.Faulty other) = preview_cause from target (previews.Faulty other)
made_cause from target previews.Write = preview_cause from target previews.Write
made_cause from target (previews.Taken kind) = preview_cause from target (previews.Taken kind)
made_cause from target (previews.Unstored why) = preview_cause from target (previews.Unstored why)
made_cause from target previews.NoMemory = preview_cause from target previews.NoMemory

abbrev pub punch_cause : Galleys → Bor Text → Stop → Cause
punch_cause from target stop = made_cause (source_of from (feed_at from stop.feed)) target stop.why

-- the name of what is set
abbrev pub name_of : Source → Bor Text
name_of (given.Feed version) = version.feed
name_of (given.Text name plain) = name

-- that, and the names of the case and the wedge
abbrev pub named_by : Job → Sources
named_by job = record {
  version = record { feed = name_of job.source; until = None };
  case = job.case;
  wedge = job.wedge;
}

-- a file's text is no copy
abbrev pub unread_cause : Bor Text → TextFault → Cause
unread_cause name (texts.At line column why) = causes.Unread name line column why
unread_cause name texts.NoMemory = causes.NoMemory name

-- of a galley, where a text that is refused is that of a file
abbrev pub proof_cause : Job → Bor Text → PreviewFault → Cause
proof_cause job target (previews.Text why) = unread_cause (name_of job.source) why
proof_cause job target (previews.Feed why) = preview_cause (named_by job) target (previews.Feed why)
proof_cause job target previews.TooLong = preview_cause (named_by job) target previews.TooLong
proof_cause job target (previews.Input why) = preview_cause (named_by job) target (previews.Input why)
proof_cause job target previews.CopyFaults = preview_cause (named_by job) target previews.CopyFaults
proof_cause job target (previews.Faulty other) = preview_cause (named_by job) target (previews.Faulty other)
proof_cause job target previews.Write = preview_cause (named_by job) target previews.Write
proof_cause job target (previews.Taken kind) = preview_cause (named_by job) target (previews.Taken kind)
proof_cause job target (previews.Unstored why) = preview_cause (named_by job) target (previews.Unstored why)
proof_cause job target previews.NoMemory = preview_cause (named_by job) target previews.NoMemory

abbrev pub reading_cause : ribbons.Sources → Bor Text → ReadingFault → Cause
reading_cause from target (readings.Ribbon why) = causes.File from.ribbon
reading_cause from target (readings.Input why) = causes.CaseOrWedge from.case from.wedge why
reading_cause from target readings.Write = causes.ReportOutput
reading_cause from target (readings.Taken kind) = causes.Taken target kind
reading_cause from target (readings.Unstored why) = unstored_cause from.ribbon target why
reading_cause from target readings.NoMemory = causes.NoMemory from.ribbon

abbrev pub comparison_cause : Pair → ComparisonFault → Cause
comparison_cause pair (comparisons.One why) = causes.File pair.one
comparison_cause pair (comparisons.Other why) = causes.File pair.other
comparison_cause pair (comparisons.Input why) = causes.CaseOrWedge pair.case pair.wedge why
comparison_cause pair comparisons.Write = causes.ReportOutput
comparison_cause pair comparisons.NoMemory = causes.NoMemory pair.one

-- the files of a list of sorts, which has no wedge and no target
abbrev pub listed_from : Bor Text → Bor Text → Sources
listed_from feed case = record { version = record { feed = feed; until = None }; case = case; wedge = case }

abbrev pub sorts_cause : Bor Text → Bor Text → PreviewFault → Cause
sorts_cause feed case (previews.Input why) = causes.Case case why
sorts_cause feed case (previews.Feed why) = preview_cause (listed_from feed case) case (previews.Feed why)
sorts_cause feed case previews.TooLong = preview_cause (listed_from feed case) case previews.TooLong
sorts_cause feed case (previews.Text why) = preview_cause (listed_from feed case) case (previews.Text why)
sorts_cause feed case previews.CopyFaults = preview_cause (listed_from feed case) case previews.CopyFaults
sorts_cause feed case (previews.Faulty other) = preview_cause (listed_from feed case) case (previews.Faulty other)
sorts_cause feed case previews.Write = preview_cause (listed_from feed case) case previews.Write
sorts_cause feed case (previews.Taken kind) = preview_cause (listed_from feed case) case (previews.Taken kind)
sorts_cause feed case (previews.Unstored why) = preview_cause (listed_from feed case) case (previews.Unstored why)
sorts_cause feed case previews.NoMemory = preview_cause (listed_from feed case) case previews.NoMemory

-- the text at a place tries no setting
abbrev pub unset_cause : Option (Bor Text) → Cause
unset_cause None = causes.Said saids.NoMemory
unset_cause (Some text) = causes.NoSetting text

-- texts try no settings
abbrev pub trial_cause : List (Bor Text) → TrialFault → Cause
trial_cause sets (trials.NoSetting place) = unset_cause (slice_get sets place)
trial_cause sets trials.NoMemory = causes.Said saids.NoMemory

-- files are not checked to their end
abbrev pub check_cause : CheckFault → Cause
check_cause checks.NoMemory = causes.Said saids.NoMemory
check_cause checks.Write = causes.ReportOutput
