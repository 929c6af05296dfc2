-- The first line on standard error of a run that stopped: what stopped it.
use Rattle.std.specs.Prelude.{ℕ, List, ◌++◌, ◌==◌, if◌then◌else◌, codes}
use Rattle.std.specs.Fmt.{decimal}
use Rattle.feed_edit.specs.declared.fault.RevisionFault.{RevisionFault}
use Rattle.feed_edit.specs.declared.fault.RevisionFault.TheVariants as revisions
use Rattle.feed_sites.specs.declared.fault.NumberFault.{NumberFault}
use Rattle.feed_sites.specs.declared.fault.NumberFault.TheVariants as numbers
use Rattle.text_copy.specs.declared.fault.Cause as texts
use Rattle.text_copy.specs.declared.fault.Cause.TheVariants as flaws
use Rattle.program_desk.specs.declared.causes.Cause.{Cause}
use Rattle.program_desk.specs.declared.causes.Cause.TheVariants as causes
use Rattle.program_desk.specs.declared.causes.Origin.{Origin}
use Rattle.program_desk.specs.declared.causes.Origin.TheVariants as origins
use Rattle.program_desk.specs.declared.causes.Said.{Said}
use Rattle.program_desk.specs.declared.causes.Said.TheVariants as saids

-- which text is no copy
abbrev pub origin_words : Origin → List ℕ
origin_words origins.Input = codes "copydesk: line "
origin_words origins.Old = codes "copydesk: OLD, line "
origin_words origins.New = codes "copydesk: NEW, line "
origin_words origins.Sought = codes "copydesk: TEXT, line "

-- what is wrong at a place of a text
abbrev pub flaw_words : texts.Cause → List ℕ
flaw_words flaws.Symbol = codes ": no symbol of a copy\n"
flaw_words flaws.Encoding = codes ": no UTF-8\n"
flaw_words flaws.Escape = codes ": a backslash that escapes nothing\n"
flaw_words flaws.Inside = codes ": a style mark inside the other style\n"
flaw_words flaws.Unclosed = codes ": a style that is open at the end of the line\n"

-- what follows so many places
abbrev pub places_words : ℕ → List ℕ
places_words count = if count == 1 then codes " place\n" else codes " places\n"

-- the line that says all
abbrev pub said_line : Said → List ℕ
said_line saids.NoMemory = codes "copydesk: no memory\n"
said_line saids.Forks = codes "copydesk: number used twice\n"
said_line saids.NoPlace = codes "copydesk: no place\n"
said_line (saids.ManyPlaces count) = codes "copydesk: " ++ (decimal count ++ places_words count)
said_line (saids.Wipes deleted of) =
    codes "copydesk: " ++ (decimal deleted ++ (codes " of " ++ (decimal of ++ codes " symbols would be deleted\n")))
said_line (saids.Text origin line column why) =
    origin_words origin ++ (decimal line ++ (codes ", column " ++ (decimal column ++ flaw_words why)))

-- why a text does not fit into a feed
abbrev pub unfit_line : RevisionFault → List ℕ
unfit_line revisions.Full = codes "copydesk: as many operations are held as may be\n"
unfit_line revisions.ClockFull = codes "copydesk: the greatest counter is held\n"
unfit_line revisions.Value = codes "copydesk: the value is out of its range\n"
unfit_line revisions.NoMemory = codes "copydesk: no memory\n"

-- why a number does not serve
abbrev pub number_line : NumberFault → List ℕ
number_line numbers.InUse = codes "copydesk: number in use\n"
number_line (numbers.Seen stamp) = codes "copydesk: seen by another room\n"
number_line numbers.Clash = codes "copydesk: number in use\n"
number_line numbers.NoMemory = codes "copydesk: no memory\n"

-- the first line on a cause
abbrev pub head_line : Cause → List ℕ
head_line (causes.Said said) = said_line said
head_line (causes.NoMemory feed) = codes "copydesk: no memory\n"
head_line (causes.File name) = codes "copydesk: file fault\n"
head_line (causes.Feed feed fault) = codes "copydesk: feed refused\n"
head_line (causes.TooMany feed) = codes "copydesk: not opened\n"
head_line (causes.Full feed) = codes "copydesk: full\n"
head_line (causes.Unfit feed why) = unfit_line why
head_line (causes.Older feed site made held) = codes "copydesk: older feed\n"
head_line (causes.Taken name kind) = codes "copydesk: not replaced\n"
head_line (causes.There name) = codes "copydesk: already there\n"
head_line (causes.Source name output) = codes "copydesk: file fault\n"
head_line (causes.Number site why) = number_line why
head_line (causes.CaseOrWedge case wedge why) = codes "copydesk: input refused\n"
head_line (causes.Case case why) = codes "copydesk: input refused\n"
head_line (causes.CopyFaults feed) = codes "copydesk: copy faults\n"
head_line (causes.NoRibbon feed) = codes "copydesk: no ribbon\n"
head_line (causes.Other name feed other) = codes "copydesk: no ribbon\n"
head_line (causes.Unread name line column why) = codes "copydesk: input refused\n"
head_line (causes.LongText name) = codes "copydesk: too long\n"
head_line (causes.LongRibbon name) = codes "copydesk: too long\n"
head_line (causes.NoSetting text) = codes "copydesk: input refused\n"
head_line (causes.Line feed number) = codes "copydesk: line " ++ (decimal number ++ codes " refused\n")
head_line causes.Input = codes "copydesk: read fault\n"
head_line causes.Endless = codes "copydesk: too long\n"
head_line (causes.TooLong most) = codes "copydesk: too long\n"
head_line causes.Output = codes "copydesk: write fault\n"
head_line causes.ReportOutput = codes "copydesk: write fault\n"
