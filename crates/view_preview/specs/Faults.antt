-- What the fault of a phase is for a preview.
use Rattle.feed_edit.specs.declared.fault.FeedTrouble.TheVariants as troubles
use Rattle.feed_files.specs.declared.files.FileRefusal.{FileRefusal}
use Rattle.feed_files.specs.declared.output_fault.OutputFault.{OutputFault}
use Rattle.feed_files.specs.declared.output_fault.OutputFault.TheVariants as outputs
use Rattle.text_copy.specs.declared.fault.TextFault.{TextFault}
use Rattle.text_copy.specs.declared.fault.TextFault.TheVariants as texts
use Rattle.view_preview.specs.declared.fault.PreviewFault.{PreviewFault}
use Rattle.view_preview.specs.declared.fault.PreviewFault.TheVariants as faults
use Rattle.view_preview.specs.declared.fault.SourcesFault.{SourcesFault}
use Rattle.view_preview.specs.declared.fault.SourcesFault.TheVariants as refusals

-- what a ribbon or a picture that is not stored is for a preview
abbrev pub of_output : OutputFault → PreviewFault
of_output (outputs.Taken kind) = faults.Taken kind
of_output (outputs.File why) = faults.Unstored why

-- what the file of a text that is not read is for the sources of a preview
abbrev pub of_file : FileRefusal → SourcesFault
of_file why = refusals.Feed (troubles.File why)

-- what a text that is no copy is for them
abbrev pub of_reading : TextFault → SourcesFault
of_reading (texts.At line column cause) = refusals.Text (texts.At line column cause)
of_reading texts.NoMemory = refusals.NoMemory

-- what a text that is not read is for a search
abbrev pub of_text : TextFault → PreviewFault
of_text (texts.At line column cause) = faults.Text (texts.At line column cause)
of_text texts.NoMemory = faults.NoMemory
