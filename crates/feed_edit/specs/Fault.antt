-- Why what one asked for was not done, by what a call below answers.
use Rattle.feed_files.specs.declared.input.ReaderFault.{ReaderFault}
use Rattle.feed_files.specs.declared.input.ReaderFault.TheVariants as readers
use Rattle.desk_held.specs.declared.AddRefusal.{AddRefusal}
use Rattle.desk_held.specs.declared.AddRefusal.TheVariants as adds
use Rattle.feed_stored.specs.declared.fault.OpenFault.{OpenFault}
use Rattle.feed_stored.specs.declared.fault.OpenFault.TheVariants as openings
use Rattle.desk_replica.specs.declared.Refusal.{Refusal}
use Rattle.desk_replica.specs.declared.Refusal.TheVariants as refusals
use Rattle.text_copy.specs.declared.fault.TextFault.{TextFault}
use Rattle.text_copy.specs.declared.fault.TextFault.TheVariants as texts
use Rattle.feed_edit.specs.declared.fault.FeedTrouble.{FeedTrouble}
use Rattle.feed_edit.specs.declared.fault.FeedTrouble.TheVariants as troubles
use Rattle.feed_edit.specs.declared.fault.InputFault.{InputFault}
use Rattle.feed_edit.specs.declared.fault.InputFault.TheVariants as inputs
use Rattle.feed_edit.specs.declared.fault.RevisionFault.{RevisionFault}
use Rattle.feed_edit.specs.declared.fault.RevisionFault.TheVariants as revisions

abbrev pub of_opening : OpenFault → FeedTrouble
of_opening (openings.Feed fault) = troubles.Feed fault
of_opening (openings.Opening stop) = troubles.Full
of_opening openings.NoMemory = troubles.NoMemory

abbrev pub of_adding : AddRefusal → FeedTrouble
of_adding adds.Full = troubles.Full
of_adding adds.NoMemory = troubles.NoMemory

abbrev pub of_reader : ReaderFault → InputFault
of_reader readers.Failed = inputs.Read
of_reader readers.TooLong = inputs.TooLong
of_reader readers.NoMemory = inputs.NoMemory

abbrev pub of_text : TextFault → InputFault
of_text (texts.At line column cause) = inputs.Text (texts.At line column cause)
of_text texts.NoMemory = inputs.NoMemory

-- the refusal of an edit that a fault of a revision is
abbrev pub refusal_of : RevisionFault → Refusal
refusal_of revisions.Full = refusals.Full
refusal_of revisions.ClockFull = refusals.ClockFull
refusal_of revisions.Value = refusals.Value
refusal_of revisions.NoMemory = refusals.NoMemory
