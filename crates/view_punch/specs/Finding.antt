-- The places of a text in the copy of a stored feed, each with its line of the galley.
use Rattle.std.specs.Prelude.{◌≡◌, ◌⊎◌, ◌==◌, ℕ, suc, Bool, not, nat_le, List, [], ◌∷◌, ◌++◌, length, map, codes}
use Rattle.std.specs.Prelude.{Option, Some, None, Ok, if◌then◌else◌}
use Rattle.std.specs.List.{flat_map}
use Rattle.std.specs.Borrow.{Bor}
use Rattle.std.specs.Fmt.{decimal}
use Rattle.std.specs.Io.KnownBytes.{Appends}
use Rattle.desk_ops.specs.OpSet.{OpSet}
use Rattle.desk_ops.specs.Shown.{copy_of}
use Rattle.desk_ops.specs.declared.op.Symbol.{Symbol}
use Rattle.text_copy.specs.Places.{places_of}
use Rattle.text_copy.specs.Reading.{Fails, reading}
use Rattle.text_copy.specs.Reporting.{around}
use Rattle.text_copy.specs.Writing.{text_bytes}
use Rattle.text_copy.specs.declared.fault.TextFault.{TextFault}
use Rattle.feed_files.specs.Files.{Shelf}
use Rattle.feed_stored.specs.Sending.{WritesPrefix}
use Rattle.feed_edit.specs.Exporting.{IsClosedBy, IsSetOf}
use Rattle.view_galley.specs.Values.{GalleyValues, LineValues}
use Rattle.view_proof.specs.Parts.{begin_of}
use Rattle.view_proof.specs.Proof.{no_galley_text}
use Rattle.view_proof.specs.declared.reasons.NoGalley.{NoGalley}
use Rattle.view_preview.specs.Faults.{of_text}
use Rattle.view_preview.specs.Trial.{no_trial}
use Rattle.view_preview.specs.Matter.{HasGalley, HasNone, MatterValues}
use Rattle.view_preview.specs.Sources.{of_sources}
use Rattle.view_preview.specs.Taking.{Gives, GivesAll, GivesNone}
use Rattle.view_preview.specs.declared.job.Job.{Job}
use Rattle.view_preview.specs.declared.job.Source.TheVariants as sources
use Rattle.view_punch.specs.declared.finding.Wanted.{Wanted}
use Rattle.view_preview.specs.declared.fault.PreviewFault.{PreviewFault}
use Rattle.view_preview.specs.declared.fault.PreviewFault.TheVariants as faults
use Rattle.view_preview.specs.declared.fault.SourcesFault.{SourcesFault}
use Rattle.view_preview.specs.declared.fault.SourcesFault.TheVariants as refusals

-- ---- lines of the galley

-- where lines begin: at their first word
abbrev pub begins_of : List LineValues → List ℕ
begins_of lines = map (λ line. begin_of line.words) lines

-- how many lines begin up to a place, before the first that begins behind it
abbrev pub begun : ℕ → List ℕ → ℕ
begun place [] = 0
begun place (begin ∷ begins) = if nat_le begin place then suc (begun place begins) else 0

-- the last of so many lines, counted from 1, if there is one
abbrev pub numbered : ℕ → Option ℕ
numbered count = if count == 0 then None else Some count

-- The line that a place is in: the last that begins up to it. So a space between two lines is in the one before it, as
-- is the end of a paragraph, and a place before the first line is in none.
abbrev pub line_of : ℕ → List ℕ → Option ℕ
line_of place begins = numbered (begun place begins)

-- ---- what is written

-- in which line a place is, if it is in one
abbrev pub line_text : Option ℕ → List ℕ
line_text None = []
line_text (Some line) = codes ", line " ++ decimal line

-- a place of a text of so many symbols, with its line, and what surrounds it as a replacement reports it
abbrev pub place_text : ℕ → List Symbol → ℕ → Option ℕ → List ℕ
place_text count copy place line =
    codes "place " ++ decimal place ++ line_text line
    ++ (codes ": " ++ text_bytes (around count copy place) ++ 10 ∷ [])

-- a line for each of these places, or that there is none
abbrev pub places_text : ℕ → List Symbol → List ℕ → List ℕ → List ℕ
places_text count copy begins places =
    if length places == 0 then codes "no place\n"
    else flat_map (λ place. place_text count copy place (line_of place begins)) places

-- all places of a text in a copy, by where the lines of its galley begin
abbrev pub found_text : List Symbol → List Symbol → List ℕ → List ℕ
found_text text copy begins = places_text (length text) copy begins (places_of text copy)

-- whether the text has a place
abbrev pub is_found : List Symbol → List Symbol → Bool
is_found text copy = not (length (places_of text copy) == 0)

-- ---- in a stored feed

-- the lines of a matter's galley begin at these places; or it has none, and this line says why, as a proof does
abbrev pub HasLines : MatterValues → List ℕ → List ℕ → Type 0
HasLines matter head begins =
    ((galley : GalleyValues) × HasGalley matter no_trial galley × (head ≡ []) × (begins ≡ begins_of galley.lines))
    ⊎ ((why : NoGalley) × HasNone matter no_trial why × (head ≡ no_galley_text [] why) × (begins ≡ []))

-- the names of a case and a wedge, where lines are wanted by them
abbrev pub Metal : Type 0
Metal = Option (Bor (List ℕ) × Bor (List ℕ))

-- a feed as it is, a case and a wedge
abbrev pub job : (feed case wedge : Bor (List ℕ)) → Job
job feed case wedge =
    record { source = sources.Feed (record { feed = feed; until = None }); case = case; wedge = wedge }

-- what is written of a text in a set, and whether it has a place: without lines, or with those by a case and a wedge
abbrev pub IsFoundIn : Bor (List ℕ) → Metal → List Symbol → Shelf → List ℕ → Bool → Type 0
IsFoundIn feed None text shelf reported found = (set : OpSet) × IsSetOf feed.now shelf set
    × (reported ≡ found_text text (copy_of set) []) × (found ≡ is_found text (copy_of set))
IsFoundIn feed (Some (case, wedge)) text shelf reported found =
    (matter : MatterValues) × Gives (job feed case wedge) shelf matter
    × (head begins : List ℕ) × HasLines matter head begins
    × (reported ≡ head ++ found_text text matter.copy begins) × (found ≡ is_found text matter.copy)

-- it was written
abbrev pub IsFound : Bor (List ℕ) → Wanted → Shelf → Option (List ℕ) → Option (List ℕ) → Bool → Type 0
IsFound feed asked shelf before after found = (text : List Symbol) × (reading asked.plain (asked.text).now ≡ Ok text)
    × (reported : List ℕ) × IsFoundIn feed asked.metal text shelf reported found
    × Appends before after reported

-- ---- why it was not

-- all that is to be read gives something
abbrev pub AllGive : Bor (List ℕ) → Metal → Shelf → Type 0
AllGive feed None shelf = (set : OpSet) × IsSetOf feed.now shelf set
AllGive feed (Some (case, wedge)) shelf = GivesAll (job feed case wedge) shelf

-- why it does not
abbrev pub GiveNothing : Bor (List ℕ) → Metal → Shelf → Shelf → SourcesFault → Type 0
GiveNothing feed None first last (refusals.Feed why) = IsClosedBy feed.now first last why
GiveNothing feed None first last refusals.TooLong = ⊥
GiveNothing feed None first last (refusals.Text why) = ⊥
GiveNothing feed None first last (refusals.Input why) = ⊥
GiveNothing feed None first last refusals.NoMemory = ⊥
GiveNothing feed (Some (case, wedge)) first last why = GivesNone (job feed case wedge) first last why

-- nothing is given, for this cause; or all is, and memory ran out, and then no file has changed
abbrev pub IsSearchless : Bor (List ℕ) → Metal → Shelf → Shelf → SourcesFault → Type 0
IsSearchless feed metal first last why = GiveNothing feed metal first last why
    ⊎ ((why ≡ refusals.NoMemory) × (last ≡ first) × AllGive feed metal first)

-- the text is not read, or memory ran out as it was
abbrev pub IsUnread : Wanted → PreviewFault → Type 0
IsUnread asked fault = (why : TextFault) × Fails why (reading asked.plain (asked.text).now) × (fault ≡ of_text why)

-- Why not all of it was written, and what was: the text is not read, and nothing was begun; or there is nothing to
-- search, or memory ran out, and nothing was written; or a prefix was, under Write.
abbrev pub IsUnfound : Bor (List ℕ) → Wanted → Shelf → Shelf → Option (List ℕ) → Option (List ℕ) → PreviewFault → Type 0
IsUnfound feed asked first last before after fault =
    (IsUnread asked fault × (last ≡ first) × (after ≡ before))
    ⊎ ((text : List Symbol) × (reading asked.plain (asked.text).now ≡ Ok text)
    × (((after ≡ before) × (why : SourcesFault) × (fault ≡ of_sources why)
    × IsSearchless feed asked.metal first last why)
    ⊎ ((fault ≡ faults.Write) × (last ≡ first) × (reported : List ℕ) × (found : Bool)
    × IsFoundIn feed asked.metal text first reported found × WritesPrefix before after reported)))
