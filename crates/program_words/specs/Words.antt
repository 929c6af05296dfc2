-- What the words of the command line ask for, as `clap` reads them.
use Rattle.std.specs.Prelude.{◌≡◌, ◌≢◌, ◌≤◌, ◌<◌, ◌⊎◌, ℕ, Bool, List, [], Option, Some, None, Vec, true, false, map}
use Rattle.std.specs.Prelude.{◌↔◌, ◌||◌, ◌&&◌, is_some, length, option_map, pos, codes}
use Rattle.std.specs.Borrow.{Bor}
use Rattle.std.specs.declared.alloc.Global.{Global}
use Rattle.clap.specs.Words.{App, IsAmong, Row, Rule, Text, all_of, fault_of, first_of, new_app, new_rule, one_of}
use Rattle.clap.specs.Words.{subcommand_of, with_rule, with_subcommand}
use Rattle.clap.specs.declared.builder.action.ArgAction.TheVariants.{Append, SetTrue}
use Rattle.clap.specs.declared.builder.value_parser.ValueParser.TheVariants as parsers
use Rattle.clap.specs.declared.error.kind.ErrorKind.{ErrorKind}
use Rattle.clap.specs.declared.error.kind.ErrorKind.TheVariants as kind
use Rattle.program_words.specs.Choices.{IsForm, IsNumber, IsPageBy, IsShownBy, IsSource}
use Rattle.program_words.specs.declared.choices.Extent.{Extent}
use Rattle.program_words.specs.declared.choices.Form.{Form}
use Rattle.program_words.specs.declared.choices.Source.{Source}
use Rattle.program_words.specs.declared.wishes.Drawings.{Drawings}
use Rattle.program_words.specs.declared.wishes.Galley.{Galley}
use Rattle.program_words.specs.declared.wishes.Manner.{Manner}
use Rattle.program_words.specs.declared.wishes.Ribbon.{Ribbon}
use Rattle.program_words.specs.declared.wishes.Subcommand.{Subcommand}
use Rattle.program_words.specs.declared.wishes.Subcommand.TheVariants as subcommands
use Rattle.program_words.specs.declared.wishes.Wish.{Wish}
use Rattle.program_words.specs.declared.wishes.Wish.TheVariants as wishes

-- ---- the program's command

abbrev pub feed_rule : Rule
feed_rule = record (new_rule (codes "feed")) { required = true }

abbrev pub site_rule : Rule
site_rule = record (new_rule (codes "site")) {
  long = Some (codes "site");
  parser = Some (parsers.Signed (pos 1) (pos 65535));
  required = true;
}

-- one name or more
abbrev pub names_rule : Text → Rule
names_rule name = record (new_rule name) { action = Some Append; required = true }

abbrev pub others_rule : Rule
others_rule = names_rule (codes "other")

abbrev pub files_rule : Rule
files_rule = names_rule (codes "file")

abbrev pub flag_rule : Text → Rule
flag_rule name = record (new_rule name) { long = Some name; action = Some SetTrue }

-- an option with the name of a file
abbrev pub file_rule : Text → Rule
file_rule name = record (new_rule name) { long = Some name; required = true }

-- an option with the name of a file, which may be left out
abbrev pub choice_rule : Text → Rule
choice_rule name = record (new_rule name) { long = Some name }

-- an option with a number of 64 bits, a counter or a place, which may be left out
abbrev pub number_rule : Text → Rule
number_rule name = record (choice_rule name) { parser = Some (parsers.Unsigned 0 18446744073709551615) }

-- an option with the number of a site, which may be left out
abbrev pub room_rule : Rule
room_rule = record (choice_rule (codes "site")) { parser = Some (parsers.Signed (pos 1) (pos 65535)) }

-- the counter up to which a feed is taken
abbrev pub at_rule : Rule
at_rule = number_rule (codes "at")

-- an option that may stand more than once
abbrev pub each_rule : Text → Rule
each_rule name = record (new_rule name) { long = Some name; action = Some Append }

-- `--output` or `-o`
abbrev pub target_rule : Rule
target_rule = record (file_rule (codes "output")) { short = Some 111 }

-- with the two flags of how commands are carried out
abbrev pub with_manner : App → App
with_manner app = with_rule (with_rule app (flag_rule (codes "strict"))) (flag_rule (codes "number"))

abbrev pub script_app : App
script_app = with_manner (new_app (codes "script"))

-- one text, as the name of a file or what stands in a copy
abbrev pub text_rule : Text → Rule
text_rule name = record (new_rule name) { required = true }

-- a feed that a site works on, though it be older than what was stored there
abbrev pub on_site : Text → App
on_site name = with_rule (with_rule (with_rule (new_app name) feed_rule) site_rule) (flag_rule (codes "older"))

abbrev pub desk_app : App
desk_app = with_manner (with_rule (on_site (codes "desk")) (flag_rule (codes "why")))

abbrev pub merge_app : App
merge_app = with_rule (with_rule (with_rule (with_rule (new_app (codes "merge")) feed_rule) others_rule)
    (flag_rule (codes "forks"))) (flag_rule (codes "review"))

abbrev pub diff_app : App
diff_app = with_rule (with_rule (with_rule (with_rule (with_rule (new_app (codes "diff")) feed_rule)
    (new_rule (codes "other"))) at_rule) (choice_rule (codes "case"))) (choice_rule (codes "wedge"))

abbrev pub export_app : App
export_app = with_rule (with_rule (new_app (codes "export")) feed_rule) at_rule

abbrev pub rooms_app : App
rooms_app = with_rule (new_app (codes "rooms")) feed_rule

abbrev pub log_app : App
log_app = with_rule (with_rule (with_rule (with_rule (new_app (codes "log")) feed_rule) (new_rule (codes "text")))
    room_rule) (number_rule (codes "since"))

abbrev pub find_app : App
find_app = with_rule (with_rule (with_rule (with_rule (with_rule (new_app (codes "find")) feed_rule)
    (text_rule (codes "text"))) (flag_rule (codes "plain"))) (choice_rule (codes "case"))) (choice_rule (codes "wedge"))

abbrev pub import_app : App
import_app = with_rule (with_rule (on_site (codes "import")) (flag_rule (codes "plain"))) (flag_rule (codes "all"))

-- what stands under the name of an output is replaced, whatever it is
abbrev pub force_rule : Rule
force_rule = flag_rule (codes "force")

-- with the name of a file for a picture
abbrev pub with_picture : App → App
with_picture app = with_rule (with_rule app (choice_rule (codes "svg"))) force_rule

-- with the names of files for a picture and a document, and how high pages are
abbrev pub with_drawings : App → App
with_drawings app = with_rule (with_rule (with_rule (with_rule app (choice_rule (codes "svg")))
    (choice_rule (codes "html"))) (choice_rule (codes "page"))) force_rule

-- a feed, which may be left out, a case and a wedge; the name of a text, and whether all of that is Roman
abbrev pub text_app : App
text_app = with_rule (with_rule (with_rule (with_rule (with_rule (new_app (codes "proof")) (new_rule (codes "feed")))
    (file_rule (codes "case"))) (file_rule (codes "wedge"))) (choice_rule (codes "text"))) (flag_rule (codes "plain"))

-- with how a galley is written
abbrev pub form_app : App
form_app = with_rule (with_rule (with_rule text_app (flag_rule (codes "faults"))) (choice_rule (codes "format")))
    (flag_rule (codes "warn"))

abbrev pub proof_app : App
proof_app = with_rule (with_rule (with_drawings form_app) (each_rule (codes "set"))) at_rule

-- feeds, a case and a wedge
abbrev pub feeds_app : App
feeds_app = with_rule (with_rule (with_rule (new_app (codes "punch")) (names_rule (codes "feed")))
    (file_rule (codes "case"))) (file_rule (codes "wedge"))

abbrev pub punch_app : App
punch_app = with_rule (with_rule (with_rule feeds_app target_rule) force_rule) (flag_rule (codes "faulty"))

-- a ribbon, a case and a wedge
abbrev pub ribbon_app : App
ribbon_app = with_rule (with_rule (with_rule (new_app (codes "read")) (text_rule (codes "ribbon")))
    (file_rule (codes "case"))) (file_rule (codes "wedge"))

-- with how much of it is written
abbrev pub extent_app : App
extent_app = with_rule (with_rule (with_rule ribbon_app (choice_rule (codes "lines"))) (flag_rule (codes "stats")))
    (choice_rule (codes "pitch"))

abbrev pub read_app : App
read_app = with_picture extent_app

abbrev pub sorts_app : App
sorts_app = with_rule (with_rule (with_rule (with_rule (new_app (codes "sorts")) feed_rule)
    (file_rule (codes "case"))) (flag_rule (codes "layout"))) at_rule

abbrev pub replace_app : App
replace_app = with_rule (with_rule (with_rule (with_rule (with_rule (on_site (codes "replace"))
    (flag_rule (codes "plain"))) (text_rule (codes "old"))) (text_rule (codes "new"))) at_rule)
    (flag_rule (codes "all"))

abbrev pub check_app : App
check_app = with_rule (new_app (codes "check")) files_rule

abbrev pub renumber_app : App
renumber_app = with_rule (with_rule (with_rule (new_app (codes "renumber")) feed_rule) (text_rule (codes "other")))
    site_rule

abbrev pub renew_app : App
renew_app = with_rule (with_rule (with_rule (new_app (codes "renew")) (text_rule (codes "new"))) feed_rule) site_rule

abbrev pub no_subcommand : App
no_subcommand = record {
  top = record (new_app (codes "copydesk")).top { no_binary_name = true; subcommand_required = true };
  subs = [];
}

-- with its first subcommands, up to `merge`
abbrev pub up_to_merge : App
up_to_merge = with_subcommand (with_subcommand (with_subcommand no_subcommand script_app.top) desk_app.top)
    merge_app.top

-- with those up to `import`
abbrev pub up_to_import : App
up_to_import = with_subcommand (with_subcommand (with_subcommand up_to_merge diff_app.top) export_app.top)
    import_app.top

-- with those up to `proof`
abbrev pub up_to_proof : App
up_to_proof = with_subcommand (with_subcommand (with_subcommand up_to_import replace_app.top) check_app.top)
    proof_app.top

-- with those up to `sorts`
abbrev pub up_to_sorts : App
up_to_sorts = with_subcommand (with_subcommand (with_subcommand up_to_proof punch_app.top) read_app.top) sorts_app.top

-- with those up to `rooms`
abbrev pub up_to_rooms : App
up_to_rooms = with_subcommand (with_subcommand (with_subcommand up_to_sorts renumber_app.top) renew_app.top)
    rooms_app.top

-- with a version
abbrev pub with_version : App → App
with_version app = record app { top = record app.top { has_version = true } }

-- the program with its subcommands
abbrev pub copydesk : App
copydesk = with_version (with_subcommand (with_subcommand up_to_rooms log_app.top) find_app.top)

-- ---- what a subcommand's matches hold

-- the number of a site
abbrev pub HasSite : List Row → ℕ → Type 0
HasSite rows site = (text : Text) × (one_of (codes "site") rows ≡ Some text) × IsNumber text site × (1 ≤ site)
    × (site < 65536)

-- a number of 64 bits
abbrev pub GivesNumber : Text → List Row → ℕ → Type 0
GivesNumber name rows n = (text : Text) × (one_of name rows ≡ Some text) × IsNumber text n × (n < 18446744073709551616)

-- the number that an option gives, or that it gives none
abbrev pub HasNumber : Text → List Row → Option ℕ → Type 0
HasNumber name rows (Some n) = GivesNumber name rows n
HasNumber name rows None = (n : ℕ) → GivesNumber name rows n → ⊥

-- the counter up to which a feed is taken, or all of it
abbrev pub IsUntil : List Row → Option ℕ → Type 0
IsUntil = HasNumber (codes "at")

-- the number of a site, or that none is given
abbrev pub HasRoom : List Row → Option ℕ → Type 0
HasRoom rows (Some site) = HasSite rows site
HasRoom rows None = (site : ℕ) → HasSite rows site → ⊥

-- the name that an argument gives
abbrev pub Names : Text → List Row → Text → Type 0
Names argument rows name = first_of argument rows ≡ Some name

-- the name of a feed
abbrev pub NamesFeed : List Row → Text → Type 0
NamesFeed = Names (codes "feed")

-- both
abbrev pub NamesDesk : List Row → Text → ℕ → Type 0
NamesDesk rows feed site = NamesFeed rows feed × HasSite rows site

-- the names of a ribbon, a case and a wedge
abbrev pub NamesRibbon : List Row → Ribbon → Type 0
NamesRibbon rows from = Names (codes "ribbon") rows from.ribbon.now × Names (codes "case") rows from.case.now
    × Names (codes "wedge") rows from.wedge.now

-- the name that an option gives, or that it was left out
abbrev pub Chooses : Text → List Row → Option (Bor Text) → Type 0
Chooses argument rows name = first_of argument rows ≡ option_map (λ n. n.now) name

-- an argument was left out
abbrev pub IsLeftOut : Text → List Row → Type 0
IsLeftOut argument rows = first_of argument rows ≡ None

-- the names of a case and a wedge, or that both were left out
abbrev pub ChoosesMetal : List Row → Option (Bor Text × Bor Text) → Type 0
ChoosesMetal rows (Some metal) = Names (codes "case") rows metal.0.now × Names (codes "wedge") rows metal.1.now
ChoosesMetal rows None = IsLeftOut (codes "case") rows × IsLeftOut (codes "wedge") rows

-- the texts behind names
abbrev pub texts_of : List (Bor Text) → List Text
texts_of = map (λ name. name.now)

-- the texts that an option gives, none where it was left out
abbrev pub all_given : Option (List Text) → List Text
all_given (Some texts) = texts
all_given None = []

-- the flag is set or not
abbrev pub HasFlag : Text → List Row → Bool → Type 0
HasFlag name rows flag = flag ≡ true ↔ one_of name rows ≡ Some (codes "true")

-- how much is written of a ribbon
abbrev pub Shows : List Row → Extent → Type 0
Shows rows extent = (stats : Bool) × HasFlag (codes "stats") rows stats
    × IsShownBy (first_of (codes "lines") rows) stats (first_of (codes "pitch") rows) extent

-- what a galley is of
abbrev pub Copies : List Row → Source → Type 0
Copies rows source = (until : Option ℕ) × (plain : Bool) × IsUntil rows until × HasFlag (codes "plain") rows plain
    × IsSource (first_of (codes "feed") rows) (first_of (codes "text") rows) until plain source

-- how it is written
abbrev pub Forms : List Row → Form → Type 0
Forms rows form = (faults : Bool) × HasFlag (codes "faults") rows faults
    × IsForm (first_of (codes "format") rows) faults form

-- a galley, by a case and a wedge, and whether second looks are wanted
abbrev pub AsksGalley : List Row → Galley → Type 0
AsksGalley rows galley = Copies rows galley.source × Names (codes "case") rows galley.case.now
    × Names (codes "wedge") rows galley.wedge.now × Forms rows galley.form × HasFlag (codes "warn") rows galley.looks

-- both, and whether a feed that is older is taken
abbrev pub NamesRoom : List Row → Text → ℕ → Bool → Type 0
NamesRoom rows feed site older = NamesDesk rows feed site × HasFlag (codes "older") rows older

-- the name of the file for a picture, or that there is none, and whether whatever stands there is replaced
abbrev pub Pictures : List Row → Option (Bor Text) → Bool → Type 0
Pictures rows picture force = Chooses (codes "svg") rows picture × HasFlag (codes "force") rows force

-- the files that a galley is drawn in, and how high pages are
abbrev pub Draws : List Row → Drawings → Type 0
Draws rows drawings = Pictures rows drawings.picture drawings.force × Chooses (codes "html") rows drawings.document
    × IsPageBy (first_of (codes "page") rows) (first_of (codes "svg") rows) (first_of (codes "html") rows) drawings.page

-- how commands are carried out
abbrev pub HasManner : List Row → Manner → Type 0
HasManner rows manner = HasFlag (codes "strict") rows manner.strict × HasFlag (codes "number") rows manner.number

-- ---- what is asked for

-- the name of a subcommand
abbrev pub name_of : Subcommand → Text
name_of subcommands.Script = codes "script"
name_of subcommands.Desk = codes "desk"
name_of subcommands.Merge = codes "merge"
name_of subcommands.Diff = codes "diff"
name_of subcommands.Export = codes "export"
name_of subcommands.Import = codes "import"
name_of subcommands.Replace = codes "replace"
name_of subcommands.Check = codes "check"
name_of subcommands.Proof = codes "proof"
name_of subcommands.Punch = codes "punch"
name_of subcommands.Read = codes "read"
name_of subcommands.Sorts = codes "sorts"
name_of subcommands.Renumber = codes "renumber"
name_of subcommands.Renew = codes "renew"
name_of subcommands.Rooms = codes "rooms"
name_of subcommands.Log = codes "log"
name_of subcommands.Find = codes "find"

-- the subcommand of a wish
abbrev pub subcommand_asked : Wish → Subcommand
subcommand_asked (wishes.Script manner) = subcommands.Script
subcommand_asked (wishes.Desk feed site older why manner) = subcommands.Desk
subcommand_asked (wishes.Merge feed others forks review) = subcommands.Merge
subcommand_asked (wishes.Diff one until other) = subcommands.Diff
subcommand_asked (wishes.Compare one other case wedge) = subcommands.Diff
subcommand_asked (wishes.Export feed until) = subcommands.Export
subcommand_asked (wishes.Import feed site older plain all) = subcommands.Import
subcommand_asked (wishes.Replace feed site older old new plain at all) = subcommands.Replace
subcommand_asked (wishes.Check files) = subcommands.Check
subcommand_asked (wishes.Proof galley drawings sets) = subcommands.Proof
subcommand_asked (wishes.Punch feeds case wedge target force faulty) = subcommands.Punch
subcommand_asked (wishes.Read from extent picture force) = subcommands.Read
subcommand_asked (wishes.Sorts feed until case layout) = subcommands.Sorts
subcommand_asked (wishes.Renumber feed other site) = subcommands.Renumber
subcommand_asked (wishes.Renew new feed site) = subcommands.Renew
subcommand_asked (wishes.Rooms feed) = subcommands.Rooms
subcommand_asked (wishes.Log feed site since text) = subcommands.Log
subcommand_asked (wishes.Find feed text plain metal) = subcommands.Find

-- its matches hold what the wish says
abbrev pub Reports : List Row → Wish → Type 0
Reports rows (wishes.Script manner) = HasManner rows manner
Reports rows (wishes.Desk feed site older why manner) = NamesRoom rows feed.now site older
    × HasFlag (codes "why") rows why × HasManner rows manner
Reports rows (wishes.Merge feed others forks review) =
    NamesFeed rows feed.now × (all_of (codes "other") rows ≡ Some (texts_of others.items))
    × HasFlag (codes "forks") rows forks × HasFlag (codes "review") rows review
Reports rows (wishes.Diff one until other) = NamesFeed rows one.now × IsUntil rows until
    × Chooses (codes "other") rows other × ((is_some until || is_some other) ≡ true) × ChoosesMetal rows None
Reports rows (wishes.Compare one other case wedge) = NamesFeed rows one.now × Names (codes "other") rows other.now
    × IsUntil rows None × Names (codes "case") rows case.now × Names (codes "wedge") rows wedge.now
Reports rows (wishes.Export feed until) = NamesFeed rows feed.now × IsUntil rows until
Reports rows (wishes.Import feed site older plain all) = NamesRoom rows feed.now site older
    × HasFlag (codes "plain") rows plain × HasFlag (codes "all") rows all
Reports rows (wishes.Replace feed site older old new plain at all) =
    NamesRoom rows feed.now site older × Names (codes "old") rows old.now × Names (codes "new") rows new.now
    × HasFlag (codes "plain") rows plain × HasNumber (codes "at") rows at × HasFlag (codes "all") rows all
    × ((is_some at && all) ≡ false)
Reports rows (wishes.Check files) = all_of (codes "file") rows ≡ Some (texts_of files.items)
Reports rows (wishes.Proof galley drawings sets) = AsksGalley rows galley × Draws rows drawings
    × (texts_of sets.items ≡ all_given (all_of (codes "set") rows))
Reports rows (wishes.Punch feeds case wedge target force faulty) =
    (all_of (codes "feed") rows ≡ Some (texts_of feeds.items)) × (1 ≤ length feeds.items)
    × Names (codes "case") rows case.now × Names (codes "wedge") rows wedge.now
    × Names (codes "output") rows target.now × HasFlag (codes "force") rows force × HasFlag (codes "faulty") rows faulty
Reports rows (wishes.Read from extent picture force) = NamesRibbon rows from × Shows rows extent
    × Pictures rows picture force
Reports rows (wishes.Sorts feed until case layout) = NamesFeed rows feed.now × IsUntil rows until
    × Names (codes "case") rows case.now × HasFlag (codes "layout") rows layout
Reports rows (wishes.Renumber feed other site) = NamesDesk rows feed.now site × Names (codes "other") rows other.now
Reports rows (wishes.Renew new feed site) = NamesDesk rows feed.now site × Names (codes "new") rows new.now
Reports rows (wishes.Rooms feed) = NamesFeed rows feed.now
Reports rows (wishes.Log feed site since text) = NamesFeed rows feed.now × HasRoom rows site
    × HasNumber (codes "since") rows since × Chooses (codes "text") rows text
Reports rows (wishes.Find feed text plain metal) = NamesFeed rows feed.now × Names (codes "text") rows text.now
    × HasFlag (codes "plain") rows plain × ChoosesMetal rows metal

-- a subcommand with its matches asks for this
abbrev pub Wishes : Option (Text × List Row) → Wish → Type 0
Wishes asked wish = (rows : List Row) × (asked ≡ Some (name_of (subcommand_asked wish), rows)) × Reports rows wish

-- the words have no fault, and ask for this
abbrev pub AsksFor : List Text → Wish → Type 0
AsksFor words wish = (fault_of copydesk words ≡ []) × Wishes (subcommand_of copydesk words) wish

-- the words ask for help, or for the program's version
abbrev pub AsksHelp : List Text → Type 0
AsksHelp words = IsAmong kind.DisplayHelp (fault_of copydesk words)
    ⊎ IsAmong kind.DisplayVersion (fault_of copydesk words)

-- the words have a fault
abbrev pub HasFault : List Text → Type 0
HasFault words = (k : ErrorKind) × IsAmong k (fault_of copydesk words) × (k ≢ kind.DisplayHelp)
    × (k ≢ kind.DisplayVersion)

-- the words have a fault, or ask for nothing that can be done
abbrev pub AsksNothing : List Text → Type 0
AsksNothing words = HasFault words ⊎ ((wish : Wish) → AsksFor words wish → ⊥)

-- ---- what is made of the matches

-- the names, or that there are none
abbrev pub AreNames : Option (List Text) → Option (Vec (Bor Text) Global) → Type 0
AreNames asked (Some names) = asked ≡ Some (texts_of names.items)
AreNames asked None = asked ≡ None

-- the names of a case and a wedge, if any, or that one alone is there
abbrev pub AreMetal : List Row → Option (Option (Bor Text × Bor Text)) → Type 0
AreMetal rows (Some metal) = ChoosesMetal rows metal
AreMetal rows None = (metal : _) → ChoosesMetal rows metal → ⊥

-- what is written of a ribbon, what a galley is of, how it is written, the galley, the files that it is drawn in, or
-- that none is asked for
abbrev pub AreShown : List Row → Option Extent → Type 0
AreShown rows (Some extent) = Shows rows extent
AreShown rows None = (extent : Extent) → Shows rows extent → ⊥

abbrev pub AreCopied : List Row → Option Source → Type 0
AreCopied rows (Some source) = Copies rows source
AreCopied rows None = (source : Source) → Copies rows source → ⊥

abbrev pub AreFormed : List Row → Option Form → Type 0
AreFormed rows (Some form) = Forms rows form
AreFormed rows None = (form : Form) → Forms rows form → ⊥

abbrev pub AreGalley : List Row → Option Galley → Type 0
AreGalley rows (Some galley) = AsksGalley rows galley
AreGalley rows None = (galley : Galley) → AsksGalley rows galley → ⊥

abbrev pub AreDrawn : List Row → Option Drawings → Type 0
AreDrawn rows (Some drawings) = Draws rows drawings
AreDrawn rows None = (drawings : Drawings) → Draws rows drawings → ⊥

-- the names of a ribbon, a case and a wedge, or that they are not all there
abbrev pub AreRibbon : List Row → Option Ribbon → Type 0
AreRibbon rows (Some from) = NamesRibbon rows from
AreRibbon rows None = (from : Ribbon) → NamesRibbon rows from → ⊥

-- what the matches of a subcommand hold, or that they hold nothing that can be done
abbrev pub IsReported : List Row → Subcommand → Option Wish → Type 0
IsReported rows subcommand (Some wish) = (subcommand_asked wish ≡ subcommand) × Reports rows wish
IsReported rows subcommand None = (wish : Wish) → subcommand_asked wish ≡ subcommand → Reports rows wish → ⊥

-- the matches of a subcommand hold the list that it may be given: feeds, files, or settings to be tried
abbrev pub HasList : List Row → Subcommand → Type 0
HasList rows subcommands.Script = ⊥
HasList rows subcommands.Desk = ⊥
HasList rows subcommands.Merge = all_of (codes "other") rows ≢ None
HasList rows subcommands.Diff = ⊥
HasList rows subcommands.Export = ⊥
HasList rows subcommands.Import = ⊥
HasList rows subcommands.Replace = ⊥
HasList rows subcommands.Check = all_of (codes "file") rows ≢ None
HasList rows subcommands.Proof = all_of (codes "set") rows ≢ None
HasList rows subcommands.Punch = all_of (codes "feed") rows ≢ None
HasList rows subcommands.Read = ⊥
HasList rows subcommands.Sorts = ⊥
HasList rows subcommands.Renumber = ⊥
HasList rows subcommands.Renew = ⊥
HasList rows subcommands.Rooms = ⊥
HasList rows subcommands.Log = ⊥
HasList rows subcommands.Find = ⊥

-- a subcommand was given such a list
abbrev pub ListsNames : Option (Text × List Row) → Type 0
ListsNames asked = (subcommand : Subcommand) × (rows : List Row) × (asked ≡ Some (name_of subcommand, rows))
    × HasList rows subcommand

-- what a subcommand with its matches asks for, or that it asks for nothing that can be done
abbrev pub IsWished : Option (Text × List Row) → Option Wish → Type 0
IsWished asked (Some wish) = Wishes asked wish
IsWished asked None = (wish : Wish) → Wishes asked wish → ⊥

-- what the words ask for, or that they ask for nothing that can be done
abbrev pub IsAsked : List Text → Option Wish → Type 0
IsAsked words (Some wish) = AsksFor words wish
IsAsked words None = (wish : Wish) → AsksFor words wish → ⊥

-- the number of its site may be one, and feeds are not none
abbrev pub IsLawful : Wish → Type 0
IsLawful (wishes.Script manner) = Unit {0}
IsLawful (wishes.Desk feed site older why manner) = 1 ≤ site
IsLawful (wishes.Merge feed others forks review) = Unit {0}
IsLawful (wishes.Diff one until other) = Unit {0}
IsLawful (wishes.Compare one other case wedge) = Unit {0}
IsLawful (wishes.Export feed until) = Unit {0}
IsLawful (wishes.Import feed site older plain all) = 1 ≤ site
IsLawful (wishes.Replace feed site older old new plain at all) = 1 ≤ site
IsLawful (wishes.Check files) = Unit {0}
IsLawful (wishes.Proof galley drawings sets) = Unit {0}
IsLawful (wishes.Punch feeds case wedge target force faulty) = 1 ≤ length feeds.items
IsLawful (wishes.Read from extent picture force) = Unit {0}
IsLawful (wishes.Sorts feed until case layout) = Unit {0}
IsLawful (wishes.Renumber feed other site) = 1 ≤ site
IsLawful (wishes.Renew new feed site) = 1 ≤ site
IsLawful (wishes.Rooms feed) = Unit {0}
IsLawful (wishes.Log feed site since text) = Unit {0}
IsLawful (wishes.Find feed text plain metal) = Unit {0}
