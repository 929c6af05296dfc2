-- What the program has done, by its status and by the files before and after.
use Rattle.std.specs.Prelude.{ℕ, Bool, true, false, List, Option, None, Some}
use Rattle.std.specs.Option.{option_copied}
use Rattle.std.specs.Borrow.{Bor}
use Rattle.clap.specs.Words.{Text}
use Rattle.feed_files.specs.Files.{Shelf, Stays}
use Rattle.feed_edit.specs.Exporting.{IsExported}
use Rattle.feed_edit.specs.Importing.{IsImported}
use Rattle.program_words.specs.Words.{AsksFor, texts_of}
use Rattle.feed_sites.specs.Renewing.{IsRenewed}
use Rattle.feed_sites.specs.Renumbering.{IsRenumbered}
use Rattle.program_desk.specs.ByHand.{IsMergedAs, IsNotExported, IsNotImported, IsNotMadeAnew, IsNotMerged}
use Rattle.program_desk.specs.ByHand.{IsNotNumbered}
use Rattle.program_desk.specs.Compared.{AreCastAlike, AreNotCastAlike, AreNotOne, AreOne}
use Rattle.program_desk.specs.Sheets.{IsOffDesk, IsOnDesk, IsScripted, IsUnscripted}
use Rattle.program_desk.specs.Previews.{IsInFile, IsInNoFile, IsSeen, IsUnseen}
use Rattle.program_desk.specs.Readings.{IsListed, IsNotListed, IsNotReadWhole, IsReadWhole}
use Rattle.program_desk.specs.Wanted.{AreGalleys, preview_of, reading_of}
use Rattle.view_punch.specs.declared.punching.Galleys.{Galleys}
use Rattle.view_ribbon.specs.declared.comparing.Pair.{Pair}
use Rattle.desk_script.specs.declared.feed_run.Room as desk_room
use Rattle.feed_edit.specs.declared.exporting.Version.{Version}
use Rattle.feed_edit.specs.declared.importing.ImportMode.{ImportMode}
use Rattle.feed_edit.specs.declared.room.Room.{Room}
use Rattle.feed_edit.specs.declared.texts.Where.{Where}
use Rattle.feed_edit.specs.declared.texts.Where.TheVariants as wheres
use Rattle.feed_history.specs.Rooms.{IsRoomsOf}
use Rattle.program_desk.specs.History.{AreNoRooms, IsFoundThere, IsLoggedThere, IsNotFound, IsNotLogged, sieve, wanted}
use Rattle.feed_edit.specs.Replacing.{IsReplaced}
use Rattle.program_desk.specs.Texts.{AreFound, AreNotInOrder, IsUnchanged, exchange}
use Rattle.program_words.specs.declared.wishes.Wish.{Wish}
use Rattle.program_words.specs.declared.wishes.Wish.TheVariants as wishes

-- the feed that is compared with a version of one: the other, or the same
abbrev pub other_of : Bor Text → Option (Bor Text) → Bor Text
other_of one None = one
other_of one (Some other) = other

-- where a text is replaced: at a place, at all, or at the only one
abbrev pub where_of : Option ℕ → Bool → Where
where_of (Some place) all = wheres.At place
where_of None true = wheres.All
where_of None false = wheres.Once

-- a version of a feed
abbrev pub version_of : Bor Text → Option ℕ → Version
version_of feed until = record { feed = feed; until = until }

-- a stored feed that a room works on, and so for a desk
abbrev pub room_of : Bor Text → ℕ → Bool → Room
room_of feed site older = record { feed = feed; site = site; older = older }

abbrev pub desk_of : Bor Text → ℕ → Bool → desk_room.Room
desk_of feed site older = record { feed = feed; site = site; older = older }

-- how a text is imported
abbrev pub mode_of : Bool → Bool → ImportMode
mode_of plain all = record { plain = plain; all = all }

-- two ribbons, a case and a wedge
abbrev pub pair_of : Bor Text → Bor Text → Bor Text → Bor Text → Pair
pair_of one other case wedge = record { one = one; other = other; case = case; wedge = wedge }

-- what is asked for was done; a script, an export, a check, a proof and a reading that store nothing, and a list of
-- sorts change no file
abbrev pub Does : Wish → Shelf → Shelf → Option (List ℕ) → Option (List ℕ) → Option (List ℕ) → Type 0
Does (wishes.Script manner) first last input before after = IsScripted manner first last input before after
Does (wishes.Desk feed site older why manner) first last input before after =
    IsOnDesk manner (desk_of feed site older) first last input before after
Does (wishes.Merge feed others forks review) first last input before after =
    IsMergedAs feed.now (texts_of others.items) forks review first last before after
Does (wishes.Diff one until other) first last input before after =
    AreOne (version_of one until) (other_of one other).now first last before after
Does (wishes.Compare one other case wedge) first last input before after =
    AreCastAlike (pair_of one other case wedge) first last before after
Does (wishes.Export feed until) first last input before after =
    Stays first last × IsExported (version_of feed until) first before after
Does (wishes.Import feed site older plain all) first last input before after =
    IsImported (room_of feed site older) (mode_of plain all) first last input before after
Does (wishes.Replace feed site older old new plain at all) first last input before after =
    IsReplaced (room_of feed site older) (exchange old new plain (where_of at all)) first last before after
Does (wishes.Check files) first last input before after = AreFound (texts_of files.items) first last before after
Does (wishes.Proof galley drawings sets) first last input before after =
    IsSeen (preview_of galley drawings) sets.items first last before after
Does (wishes.Punch feeds case wedge target force faulty) first last input before after =
    (from : Galleys) × AreGalleys from feeds.items case wedge
    × IsInFile from target.now force faulty first last before after
Does (wishes.Read from extent picture force) first last input before after =
    IsReadWhole (reading_of from extent picture force) first last before after
Does (wishes.Sorts feed until case layout) first last input before after =
    IsListed (version_of feed until) case.now layout first last before after true
Does (wishes.Renumber feed other site) first last input before after =
    IsRenumbered feed.now other.now site first last before after
Does (wishes.Renew new feed site) first last input before after =
    IsRenewed new.now feed.now site first last before after
Does (wishes.Rooms feed) first last input before after = Stays first last × IsRoomsOf feed.now first before after
Does (wishes.Log feed site since text) first last input before after =
    IsLoggedThere feed.now (sieve site since text) first last before after
Does (wishes.Find feed text plain metal) first last input before after =
    IsFoundThere feed (wanted text plain metal) first last before after true

-- It stopped or was not begun, or a fault or a difference was found, and this is what it left. Standard error has the
-- lines on the fault, or a prefix of them where it failed.
abbrev pub Stops : Wish → Shelf → Shelf → Option (List ℕ) → Option (List ℕ) → Option (List ℕ)
    → Bool → Option (List ℕ) → Option (List ℕ) → Type 0
Stops (wishes.Script manner) first last input before after whole quiet said =
    IsUnscripted manner first last input before after whole quiet said
Stops (wishes.Desk feed site older why manner) first last input before after whole quiet said =
    IsOffDesk manner (desk_of feed site older) why first last input before after whole quiet said
Stops (wishes.Merge feed others forks review) first last input before after whole quiet said =
    IsNotMerged feed others.items forks review first last before after whole quiet said
Stops (wishes.Diff one until other) first last input before after whole quiet said =
    AreNotOne (version_of one until) (other_of one other) first last before after whole quiet said
Stops (wishes.Compare one other case wedge) first last input before after whole quiet said =
    AreNotCastAlike (pair_of one other case wedge) first last before after whole quiet said
Stops (wishes.Export feed until) first last input before after whole quiet said =
    IsNotExported (version_of feed until) first last before after whole quiet said
Stops (wishes.Import feed site older plain all) first last input before after whole quiet said =
    IsNotImported (room_of feed site older) (mode_of plain all) first last input before after whole quiet said
Stops (wishes.Replace feed site older old new plain at all) first last input before after whole quiet said =
    IsUnchanged (room_of feed site older) (exchange old new plain (where_of at all)) first last before after whole
    quiet said
Stops (wishes.Check files) first last input before after whole quiet said =
    AreNotInOrder (texts_of files.items) first last before after whole quiet said
Stops (wishes.Proof galley drawings sets) first last input before after whole quiet said =
    IsUnseen (preview_of galley drawings) sets.items first last before after whole quiet said
Stops (wishes.Punch feeds case wedge target force faulty) first last input before after whole quiet said =
    (from : Galleys) × AreGalleys from feeds.items case wedge
    × IsInNoFile from target force faulty first last before after whole quiet said
Stops (wishes.Read from extent picture force) first last input before after whole quiet said =
    IsNotReadWhole (reading_of from extent picture force) first last before after whole quiet said
Stops (wishes.Sorts feed until case layout) first last input before after whole quiet said =
    IsNotListed (version_of feed until) case layout first last before after whole quiet said
Stops (wishes.Renumber feed other site) first last input before after whole quiet said =
    IsNotNumbered feed other site first last before after whole quiet said
Stops (wishes.Renew new feed site) first last input before after whole quiet said =
    IsNotMadeAnew new feed first last before after whole quiet said
Stops (wishes.Rooms feed) first last input before after whole quiet said =
    AreNoRooms feed first last before after whole quiet said
Stops (wishes.Log feed site since text) first last input before after whole quiet said =
    IsNotLogged feed (sieve site since text) first last before after whole quiet said
Stops (wishes.Find feed text plain metal) first last input before after whole quiet said =
    IsNotFound feed (wanted text plain metal) first last before after whole quiet said

-- what the words ask for was done
abbrev pub IsRun : Shelf → Shelf → List Text → Option (List ℕ) → Option (List ℕ) → Option (List ℕ) → Type 0
IsRun first last words input before after = (wish : Wish) × AsksFor words wish × Does wish first last input before after

-- so of what the words ask for
abbrev pub IsStopped : Shelf → Shelf → List Text → Option (List ℕ) → Option (List ℕ) → Option (List ℕ)
    → Option (List ℕ) → Option (List ℕ) → Type 0
IsStopped first last words input before after quiet said = (wish : Wish) × AsksFor words wish
    × (whole : Bool) × Stops wish first last input before after whole quiet said
