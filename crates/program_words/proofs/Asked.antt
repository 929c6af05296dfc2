-- What matches hold, by what their getters answered.
use Rattle.std.proofs.Common.{◌≡◌, ◌<◌, ℕ, List, [], Option, Some, None, sym, subst, ap, ap₂, ◌∙◌, codes, refl, arith}
use Rattle.std.specs.Prelude.{◌≤◌, ◌||◌, ◌&&◌, Bool, true, false, Ok, Err, Result, if◌then◌else◌, is_some, length, option_map}
use Rattle.std.specs.Str.{bytes_eq}
use Rattle.std.specs.Str.Parse.{ParsesBool, ParsesUnsigned, digits_value, without_leading_plus}
use Rattle.std.specs.Borrow.{Bor}
use Rattle.clap.specs.Matches.{ReadsOne}
use Rattle.clap.specs.Words.{Row, Text, all_of, fault_of, first_of, first_value, one_of, rows_of, subcommand_of}
use Rattle.clap.specs.declared.parser.matches.Found.{Found}
use Rattle.clap.proofs.WalkLemmas.{first_value-rows}
use Rattle.program_words.specs.Choices.{IsChosen, IsForm, IsPaged, IsShown, IsShownBy, IsSource, IsWritten}
use Rattle.program_words.specs.declared.choices.Extent.{Extent}
use Rattle.program_words.specs.declared.choices.Form.{Form}
use Rattle.program_words.specs.declared.choices.Source.{Source}
use Rattle.program_words.specs.declared.wishes.Drawings.{Drawings}
use Rattle.program_words.specs.declared.wishes.Galley.{Galley}
use Rattle.program_words.specs.declared.wishes.Ribbon.{Ribbon}
use Rattle.program_words.specs.Words.{AreCopied, AreFormed, AreShown, AsksGalley, Chooses, ChoosesMetal, Copies, Draws, Forms, HasFlag, HasNumber, HasSite, IsAsked, IsLeftOut, IsReported, IsUntil, IsWished, Names, NamesDesk, NamesFeed, NamesRibbon, Reports, Shows, copydesk, name_of, subcommand_asked, texts_of}
use Rattle.program_words.specs.declared.wishes.Subcommand.{Subcommand}
use Rattle.program_words.specs.declared.wishes.Subcommand.TheVariants as subcommands
use Rattle.program_words.specs.declared.wishes.Wish.{Wish}
use Rattle.program_words.specs.declared.wishes.Wish.TheVariants as wishes

abbrev pub Reads : {E : Type 0} → (Text → Result ℕ E → Type 0) → Type 0
Reads G = (t : _) (r : _) → G t r → ParsesUnsigned 16 10 t r

-- whether a text is that of a flag that is set
abbrev is_true : Option Text → Bool
is_true None = false
is_true (Some text) = bytes_eq text (codes "true")

-- the text that is given
abbrev text_in : Option Text → Text
text_in None = []
text_in (Some text) = text

-- the number that a getter answered
pub held_site : (E : Type 0) (G : Text → Result ℕ E → Type 0) (only : Reads G) (rows : List Row) (asked : Option Text) (n : ℕ) (r : Option ℕ) → r ≡ Some n
    → asked ≡ one_of (codes "site") rows → (asked ≡ None → r ≡ None) → ((t : Text) → asked ≡ Some t → ReadsOne G t r) → 1 ≤ n → n < 65536 → HasSite rows n
held_site E G only rows None n r is same none value least most =
    let bad : Some n ≡ None = sym is ∙ none refl in
    cc
held_site E G only rows (Some t) n r is same none value least most =
    let parsed = only t (Ok n) (subst (λ o. ReadsOne G t o) is (value t refl)) in
    (t, sym same, (parsed.0.0, sym parsed.1), least, most)

-- no number
pub no_site : (E : Type 0) (G : Text → Result ℕ E → Type 0) (only : Reads G) (rows : List Row) (asked : Option Text) (r : Option ℕ) → r ≡ None
    → asked ≡ one_of (codes "site") rows → ((t : Text) → asked ≡ Some t → ReadsOne G t r) → (n : ℕ) → HasSite rows n → ⊥
no_site E G only rows asked r is same value n (text, found, (numeral, number), least, most) =
    let read : ReadsOne G text None = subst (λ o. ReadsOne G text o) is (value text (same ∙ found)) in
    only text (Err read.0) read.1 (numeral, subst (λ k. k < 65536) (sym number) most)

-- the number 0
pub zero_site : (E : Type 0) (G : Text → Result ℕ E → Type 0) (only : Reads G) (rows : List Row) (asked : Option Text) (r : Option ℕ) → r ≡ Some 0
    → asked ≡ one_of (codes "site") rows → ((t : Text) → asked ≡ Some t → ReadsOne G t r) → (n : ℕ) → HasSite rows n → ⊥
zero_site E G only rows asked r is same value n (text, found, (numeral, number), least, most) =
    let parsed = only text (Ok 0) (subst (λ o. ReadsOne G text o) is (value text (same ∙ found))) in
    let none : n ≡ 0 = sym number ∙ sym parsed.1 in
    let bad : 1 ≤ 0 = subst (λ k. 1 ≤ k) none least in
    absurd (omega arith)

-- ---- a flag, and a number that an option gives

abbrev pub Says : {E : Type 0} → (Text → Result Bool E → Type 0) → Type 0
Says {E} G = (t : Text) (r : Result Bool E) → G t r → ParsesBool t r

-- a flag that a getter answered
pub held_flag : (E : Type 0) (G : Text → Result Bool E → Type 0) (only : Says G) (name : Text) (rows : List Row) (asked : Option Text) (flag : Bool) (r : Option Bool) → r ≡ Some flag
    → asked ≡ one_of name rows → (asked ≡ None → r ≡ None) → ((t : Text) → asked ≡ Some t → ReadsOne G t r) → HasFlag name rows flag
held_flag E G only name rows None flag r is same none value =
    let bad : Some flag ≡ None = sym is ∙ none refl in
    cc
held_flag E G only name rows (Some t) true r is same none value =
    let parsed : t ≡ codes "true" = only t (Ok true) (subst (λ o. ReadsOne G t o) is (value t refl)) in
    ((λ _. sym same ∙ ap Some parsed), (λ _. refl))
held_flag E G only name rows (Some t) false r is same none value =
    let parsed : t ≡ codes "false" = only t (Ok false) (subst (λ o. ReadsOne G t o) is (value t refl)) in (
      (λ set. let bad : false ≡ true = set in cc),
      (λ yes. ap (λ o. is_true o) (sym (ap Some parsed) ∙ same ∙ yes)),
    )

-- a flag that is not given, or whose text is neither
pub no_flag : (E : Type 0) (G : Text → Result Bool E → Type 0) (only : Says G) (name : Text) (rows : List Row) (asked : Option Text) (r : Option Bool) → r ≡ None
    → asked ≡ one_of name rows → ((t : Text) → asked ≡ Some t → ReadsOne G t r) → HasFlag name rows false
no_flag E G only name rows asked r is same value = (
  (λ set. let bad : false ≡ true = set in cc),
  (λ yes.
      let read : ReadsOne G (codes "true") None = subst (λ o. ReadsOne G (codes "true") o) is (value (codes "true") (same ∙ yes)) in
      absurd ((only (codes "true") (Err read.0) read.1).0 refl)),
)

-- one text is not set twice
pub one_flag : (name : Text) (rows : List Row) (flag other : Bool) → HasFlag name rows flag → HasFlag name rows other → flag ≡ true → other ≡ true
one_flag name rows flag other held too set = too.1 (held.0 set)

abbrev pub Counts : {E : Type 0} → (Text → Result ℕ E → Type 0) → Type 0
Counts G = (t : _) (r : _) → G t r → ParsesUnsigned 64 10 t r

-- a number that a getter answered, or none
pub number : (E : Type 0) (G : Text → Result ℕ E → Type 0) (only : Counts G) (name : Text) (rows : List Row) (asked : Option Text) (r : Option ℕ) → ((n : ℕ) → r ≡ Some n → n < 18446744073709551616)
    → asked ≡ one_of name rows → (asked ≡ None → r ≡ None) → ((t : Text) → asked ≡ Some t → ReadsOne G t r) → HasNumber name rows r
number E G only name rows None (Some n) most same none value =
    let bad : Some n ≡ None = none refl in
    cc
number E G only name rows (Some t) (Some n) most same none value =
    let parsed = only t (Ok n) (value t refl) in
    (t, sym same, (parsed.0.0, sym parsed.1), most n refl)
number E G only name rows asked None most same none value = λ n gives.
    let read : ReadsOne G gives.0 None = value gives.0 (same ∙ gives.1) in
    only gives.0 (Err read.0) read.1 (gives.2.0, subst (λ k. k < 18446744073709551616) (sym gives.2.1) gives.3)

-- where one number is given, another list of the same rows gives one too
pub is_given : (name : Text) (rows : List Row) (n other : Option ℕ) → HasNumber name rows n → HasNumber name rows other → is_some n ≡ true → is_some other ≡ true
is_given name rows (Some n) (Some m) held too some = refl
is_given name rows (Some n) None held too some = absurd (too n held)
is_given name rows None other held too some = let bad : false ≡ true = some in cc

pub none_given : (name : Text) (rows : List Row) (n : Option ℕ) → HasNumber name rows n → is_some n ≡ false → HasNumber name rows None
none_given name rows None held none = held
none_given name rows (Some n) held none = let bad : true ≡ false = none in cc

-- neither a counter nor another feed
pub nothing_to_compare : (rows : List Row) (until other : Option ℕ) (name given : Option (Bor Text)) → until ≡ None → name ≡ None → IsUntil rows until → Chooses (codes "other") rows name
    → IsUntil rows other → Chooses (codes "other") rows given → (is_some other || is_some given) ≡ true → ⊥
nothing_to_compare rows None None None None u n held chosen too got some = let bad : false ≡ true = some in cc
nothing_to_compare rows None (Some m) name given u n held chosen too got some = held m too
nothing_to_compare rows None None None (Some g) u n held chosen too got some =
    let bad : None ≡ Some g.now = sym chosen ∙ got in
    cc
nothing_to_compare rows (Some m) other name given u n held chosen too got some = let bad : Some m ≡ None = u in cc
nothing_to_compare rows None None (Some m) given u n held chosen too got some = let bad : Some m ≡ None = n in cc

-- a place and all places
pub both_places : (rows : List Row) (at other : Option ℕ) (all every : Bool) → is_some at ≡ true → all ≡ true → HasNumber (codes "at") rows at → HasFlag (codes "all") rows all
    → HasNumber (codes "at") rows other → HasFlag (codes "all") rows every → (is_some other && every) ≡ false → ⊥
both_places rows at other all every some set held flag too flags not =
    let one : is_some other ≡ true = is_given (codes "at") rows at other held too some in
    let two : every ≡ true = one_flag (codes "all") rows all every flag flags set in
    let bad : true ≡ false = sym (ap₂ (λ a b. a && b) one two) ∙ not in
    cc

-- a case without a wedge, or a wedge without a case
pub half_metal : (rows : List Row) (metal : Option (Bor Text × Bor Text)) → ChoosesMetal rows metal → (IsLeftOut (codes "case") rows → ⊥) → IsLeftOut (codes "wedge") rows → ⊥
half_metal rows (Some m) chosen case wedge =
    let bad : None ≡ Some m.1.now = sym wedge ∙ chosen.1 in
    cc
half_metal rows None chosen case wedge = case chosen.0

pub other_half : (rows : List Row) (metal : Option (Bor Text × Bor Text)) → ChoosesMetal rows metal → IsLeftOut (codes "case") rows → (IsLeftOut (codes "wedge") rows → ⊥) → ⊥
other_half rows (Some m) chosen case wedge =
    let bad : None ≡ Some m.0.now = sym case ∙ chosen.0 in
    cc
other_half rows None chosen case wedge = wedge chosen.1

-- both, where both are left out
pub with_metal : (rows : List Row) (case : Text) → Names (codes "case") rows case → ChoosesMetal rows None → ⊥
with_metal rows case names chosen =
    let bad : None ≡ Some case = sym chosen.0 ∙ names in
    cc

-- ---- what options choose together

-- a flag has one value
pub same_flag : (name : Text) (rows : List Row) (flag other : Bool) → HasFlag name rows flag → HasFlag name rows other → flag ≡ other
same_flag name rows true true held too = refl
same_flag name rows false false held too = refl
same_flag name rows true false held too = sym (too.1 (held.0 refl))
same_flag name rows false true held too = held.1 (too.0 refl)

-- an option gives one number
pub same_number : (name : Text) (rows : List Row) (n other : Option ℕ) → HasNumber name rows n → HasNumber name rows other → n ≡ other
same_number name rows None None held too = refl
same_number name rows (Some n) None held too = absurd (too n held)
same_number name rows None (Some m) held too = absurd (held m too)
same_number name rows (Some n) (Some m) held too =
    let text : Some held.0 ≡ Some too.0 = sym held.1 ∙ too.1 in
    let one : held.0 ≡ too.0 = ap text_in text in
    ap Some (sym held.2.1 ∙ ap (λ t. digits_value 10 (without_leading_plus t)) one ∙ too.2.1)

pub not_shown : (rows : List Row) (stats : Bool) → HasFlag (codes "stats") rows stats → ((extent : Extent) → IsShownBy (first_of (codes "lines") rows) stats (first_of (codes "pitch") rows) extent → ⊥) → (extent : Extent) → Shows rows extent → ⊥
not_shown rows stats held none extent shows =
    none extent (subst (λ flag. IsShownBy (first_of (codes "lines") rows) flag (first_of (codes "pitch") rows) extent) (same_flag (codes "stats") rows shows.0 stats shows.1 held) shows.2)

pub not_copied : (rows : List Row) (until : Option ℕ) (plain : Bool) → IsUntil rows until → HasFlag (codes "plain") rows plain
    → ((source : Source) → IsSource (first_of (codes "feed") rows) (first_of (codes "text") rows) until plain source → ⊥) → (source : Source) → Copies rows source → ⊥
not_copied rows until plain counter held none source copies =
    let one : copies.0 ≡ until = same_number (codes "at") rows copies.0 until copies.2 counter in
    let two : copies.1 ≡ plain = same_flag (codes "plain") rows copies.1 plain copies.3 held in
    none source (subst (λ flag. IsSource (first_of (codes "feed") rows) (first_of (codes "text") rows) until flag source) two
    (subst (λ n. IsSource (first_of (codes "feed") rows) (first_of (codes "text") rows) n copies.1 source) one copies.4))

pub not_formed : (rows : List Row) (faults : Bool) → HasFlag (codes "faults") rows faults → ((form : Form) → IsForm (first_of (codes "format") rows) faults form → ⊥) → (form : Form) → Forms rows form → ⊥
not_formed rows faults held none form forms =
    none form (subst (λ flag. IsForm (first_of (codes "format") rows) flag form) (same_flag (codes "faults") rows forms.0 faults forms.1 held) forms.2)

shown_by : (rows : List Row) (stats : Bool) (o : Option Extent) → HasFlag (codes "stats") rows stats → IsShown (first_of (codes "lines") rows) stats (first_of (codes "pitch") rows) o → AreShown rows o
shown_by rows stats (Some extent) held is = (stats, held, is)
shown_by rows stats None held none = not_shown rows stats held none

copied_by : (rows : List Row) (until : Option ℕ) (plain : Bool) (o : Option Source) → IsUntil rows until → HasFlag (codes "plain") rows plain → IsChosen (first_of (codes "feed") rows) (first_of (codes "text") rows) until plain o
    → AreCopied rows o
copied_by rows until plain (Some source) counter held is = (until, plain, counter, held, is)
copied_by rows until plain None counter held none = not_copied rows until plain counter held none

formed_by : (rows : List Row) (faults : Bool) (o : Option Form) → HasFlag (codes "faults") rows faults → IsWritten (first_of (codes "format") rows) faults o → AreFormed rows o
formed_by rows faults (Some form) held is = (faults, held, is)
formed_by rows faults None held none = not_formed rows faults held none

-- what is made of the options is what the matches hold
pub shown : (rows : List Row) (stats : Bool) (lines pitch : Option Text) (o : Option Extent) → HasFlag (codes "stats") rows stats → first_of (codes "lines") rows ≡ lines → first_of (codes "pitch") rows ≡ pitch
    → IsShown lines stats pitch o → AreShown rows o
shown rows stats lines pitch o held one two is =
    shown_by rows stats o held (subst (λ t. IsShown t stats (first_of (codes "pitch") rows) o) (sym one) (subst (λ t. IsShown lines stats t o) (sym two) is))

pub copied : (rows : List Row) (until : Option ℕ) (plain : Bool) (feed text : Option Text) (o : Option Source) → IsUntil rows until → HasFlag (codes "plain") rows plain → first_of (codes "feed") rows ≡ feed
    → first_of (codes "text") rows ≡ text → IsChosen feed text until plain o → AreCopied rows o
copied rows until plain feed text o counter held one two is =
    copied_by rows until plain o counter held (subst (λ t. IsChosen t (first_of (codes "text") rows) until plain o) (sym one) (subst (λ t. IsChosen feed t until plain o) (sym two) is))

pub formed : (rows : List Row) (faults : Bool) (format : Option Text) (o : Option Form) → HasFlag (codes "faults") rows faults → first_of (codes "format") rows ≡ format → IsWritten format faults o → AreFormed rows o
formed rows faults format o held one is = formed_by rows faults o held (subst (λ t. IsWritten t faults o) (sym one) is)

pub paged : (rows : List Row) (page picture document : Option Text) (o : Option (Option ℕ)) → first_of (codes "page") rows ≡ page → first_of (codes "svg") rows ≡ picture → first_of (codes "html") rows ≡ document
    → IsPaged page picture document o → IsPaged (first_of (codes "page") rows) (first_of (codes "svg") rows) (first_of (codes "html") rows) o
paged rows page picture document o one two three is =
    subst (λ t. IsPaged t (first_of (codes "svg") rows) (first_of (codes "html") rows) o) (sym one)
    (subst (λ t. IsPaged page t (first_of (codes "html") rows) o) (sym two) (subst (λ t. IsPaged page picture t o) (sym three) is))

-- ---- the name that an argument gives

pub named : (argument : Text) (f : Found) (r : Option (Bor Text)) (name : Bor Text) → option_map (λ s. s.now) r ≡ first_value f argument → r ≡ Some name → Names argument (rows_of f) name.now
named argument f r name got is = sym (first_value-rows f argument) ∙ sym got ∙ ap (option_map (λ s. s.now)) is

pub unnamed : (argument : Text) (f : Found) (r : Option (Bor Text)) → option_map (λ s. s.now) r ≡ first_value f argument → r ≡ None → (name : Text) → Names argument (rows_of f) name → ⊥
unnamed argument f r got is name names =
    let empty : None ≡ Some name = sym (ap (option_map (λ s. s.now)) is) ∙ got ∙ first_value-rows f argument ∙ names in
    cc

-- ---- what is lacking

-- two feeds, or one and a counter
abbrev pub LacksFeeds : List Row → Type 0
LacksFeeds rows = (feed : Text) (until : Option ℕ) (other : Option (Bor Text)) → NamesFeed rows feed → IsUntil rows until → Chooses (codes "other") rows other → (is_some until || is_some other) ≡ true → ChoosesMetal rows None → ⊥

-- two ribbons, a case and a wedge
abbrev pub LacksRibbons : List Row → Type 0
LacksRibbons rows = (one other case wedge : Bor Text) → NamesFeed rows one.now → Names (codes "other") rows other.now → IsUntil rows None → Names (codes "case") rows case.now → Names (codes "wedge") rows wedge.now → ⊥

-- what the matches of a subcommand lack, where they hold nothing that can be done
abbrev pub Lacks : List Row → Subcommand → Type 0
Lacks rows subcommands.Script = ⊥
Lacks rows subcommands.Desk = (feed : Text) (site : ℕ) → NamesDesk rows feed site → ⊥
Lacks rows subcommands.Merge = (feed : Text) (others : List Text) → NamesFeed rows feed → all_of (codes "other") rows ≡ Some others → ⊥
Lacks rows subcommands.Diff = LacksFeeds rows × LacksRibbons rows
Lacks rows subcommands.Export = (feed : Text) → NamesFeed rows feed → ⊥
Lacks rows subcommands.Import = (feed : Text) (site : ℕ) → NamesDesk rows feed site → ⊥
Lacks rows subcommands.Replace = (feed : Text) (site : ℕ) (old new : Text) (at : Option ℕ) (all : Bool) → NamesDesk rows feed site → Names (codes "old") rows old → Names (codes "new") rows new → HasNumber (codes "at") rows at → HasFlag (codes "all") rows all → (is_some at && all) ≡ false → ⊥
Lacks rows subcommands.Check = all_of (codes "file") rows ≡ None
Lacks rows subcommands.Proof = (galley : Galley) (drawings : Drawings) → AsksGalley rows galley → Draws rows drawings → ⊥
Lacks rows subcommands.Punch = (feeds : List (Bor Text)) (case wedge target : Text) → all_of (codes "feed") rows ≡ Some (texts_of feeds) → 1 ≤ length feeds → Names (codes "case") rows case → Names (codes "wedge") rows wedge → Names (codes "output") rows target → ⊥
Lacks rows subcommands.Read = (from : Ribbon) (extent : Extent) → NamesRibbon rows from → Shows rows extent → ⊥
Lacks rows subcommands.Sorts = (feed case : Text) → NamesFeed rows feed → Names (codes "case") rows case → ⊥
Lacks rows subcommands.Renumber = (feed : Text) (site : ℕ) (other : Text) → NamesDesk rows feed site → Names (codes "other") rows other → ⊥
Lacks rows subcommands.Renew = (feed : Text) (site : ℕ) (new : Text) → NamesDesk rows feed site → Names (codes "new") rows new → ⊥
Lacks rows subcommands.Rooms = (feed : Text) → NamesFeed rows feed → ⊥
Lacks rows subcommands.Log = (feed : Text) → NamesFeed rows feed → ⊥
Lacks rows subcommands.Find = (feed text : Text) (metal : Option (Bor Text × Bor Text)) → NamesFeed rows feed → Names (codes "text") rows text → ChoosesMetal rows metal → ⊥

-- matches that lack what its subcommand wants ask for no wish
none_reported : (rows : List Row) (wish : Wish) → Lacks rows (subcommand_asked wish) → Reports rows wish → ⊥
none_reported rows (wishes.Script manner) lacks reports = lacks
none_reported rows (wishes.Desk feed site older why manner) lacks reports = lacks feed.now site reports.0.0
none_reported rows (wishes.Merge feed others forks review) lacks reports = lacks feed.now (texts_of others.items) reports.0 reports.1
none_reported rows (wishes.Diff one until other) lacks reports = lacks.0 one.now until other reports.0 reports.1 reports.2 reports.3 reports.4
none_reported rows (wishes.Compare one other case wedge) lacks reports = lacks.1 one other case wedge reports.0 reports.1 reports.2 reports.3 reports.4
none_reported rows (wishes.Export feed until) lacks reports = lacks feed.now reports.0
none_reported rows (wishes.Import feed site older plain all) lacks reports = lacks feed.now site reports.0.0
none_reported rows (wishes.Replace feed site older old new plain at all) lacks reports = lacks feed.now site old.now new.now at all reports.0.0 reports.1 reports.2 reports.4 reports.5 reports.6
none_reported rows (wishes.Check files) lacks reports =
    let bad = sym lacks ∙ reports in
    cc
none_reported rows (wishes.Proof galley drawings sets) lacks reports = lacks galley drawings reports.0 reports.1
none_reported rows (wishes.Punch feeds case wedge target force faulty) lacks reports = lacks feeds.items case.now wedge.now target.now reports.0 reports.1 reports.2 reports.3 reports.4
none_reported rows (wishes.Read from extent picture force) lacks reports = lacks from extent reports.0 reports.1
none_reported rows (wishes.Sorts feed until case layout) lacks reports = lacks feed.now case.now reports.0 reports.2
none_reported rows (wishes.Renumber feed other site) lacks reports = lacks feed.now site other.now reports.0 reports.1
none_reported rows (wishes.Renew new feed site) lacks reports = lacks feed.now site new.now reports.0 reports.1
none_reported rows (wishes.Rooms feed) lacks reports = lacks feed.now reports
none_reported rows (wishes.Log feed site since text) lacks reports = lacks feed.now reports.0
none_reported rows (wishes.Find feed text plain metal) lacks reports = lacks feed.now text.now metal reports.0 reports.1 reports.3

pub no_wish : (rows : List Row) (subcommand : Subcommand) → Lacks rows subcommand → (wish : Wish) → subcommand_asked wish ≡ subcommand → Reports rows wish → ⊥
no_wish rows subcommand lacks wish is = none_reported rows wish (subst (λ t. Lacks rows t) (sym is) lacks)

-- ---- the name of a subcommand

-- the subcommand that a name calls
called : Text → Subcommand
called name =
    if bytes_eq name (codes "desk") then subcommands.Desk else
    if bytes_eq name (codes "merge") then subcommands.Merge else
    if bytes_eq name (codes "diff") then subcommands.Diff else
    if bytes_eq name (codes "export") then subcommands.Export else
    if bytes_eq name (codes "import") then subcommands.Import else
    if bytes_eq name (codes "replace") then subcommands.Replace else
    if bytes_eq name (codes "check") then subcommands.Check else
    if bytes_eq name (codes "proof") then subcommands.Proof else
    if bytes_eq name (codes "punch") then subcommands.Punch else
    if bytes_eq name (codes "read") then subcommands.Read else
    if bytes_eq name (codes "sorts") then subcommands.Sorts else
    if bytes_eq name (codes "renumber") then subcommands.Renumber else
    if bytes_eq name (codes "renew") then subcommands.Renew else
    if bytes_eq name (codes "rooms") then subcommands.Rooms else
    if bytes_eq name (codes "log") then subcommands.Log else
    if bytes_eq name (codes "find") then subcommands.Find else
    subcommands.Script

called_of : (subcommand : Subcommand) → called (name_of subcommand) ≡ subcommand
unfolding called
called_of subcommands.Script = refl
called_of subcommands.Desk = refl
called_of subcommands.Merge = refl
called_of subcommands.Diff = refl
called_of subcommands.Export = refl
called_of subcommands.Import = refl
called_of subcommands.Replace = refl
called_of subcommands.Check = refl
called_of subcommands.Proof = refl
called_of subcommands.Punch = refl
called_of subcommands.Read = refl
called_of subcommands.Sorts = refl
called_of subcommands.Renumber = refl
called_of subcommands.Renew = refl
called_of subcommands.Rooms = refl
called_of subcommands.Log = refl
called_of subcommands.Find = refl

-- two subcommands have two names
pub same_subcommand : (subcommand other : Subcommand) → name_of subcommand ≡ name_of other → subcommand ≡ other
same_subcommand subcommand other same = sym (called_of subcommand) ∙ ap called same ∙ called_of other

abbrev name_in : Option (Text × List Row) → Text
name_in None = []
name_in (Some asked) = asked.0

abbrev rows_in : Option (Text × List Row) → List Row
rows_in None = []
rows_in (Some asked) = asked.1

-- what the matches of a subcommand hold is what is wished
pub wished : (asked : Option (Text × List Row)) (subcommand : Subcommand) (rows : List Row) (o : Option Wish) → asked ≡ Some (name_of subcommand, rows) → IsReported rows subcommand o → IsWished asked o
wished asked subcommand rows (Some wish) is reported = (rows, is ∙ ap (λ t. Some (name_of t, rows)) (sym reported.0), reported.1)
wished asked subcommand rows None is none = λ wish wishes.
    let same : Some (name_of subcommand, rows) ≡ Some (name_of (subcommand_asked wish), wishes.0) = sym is ∙ wishes.1 in
    let names : name_of subcommand ≡ name_of (subcommand_asked wish) = ap name_in same in
    let held : wishes.0 ≡ rows = sym (ap rows_in same) in
    none wish (sym (same_subcommand subcommand (subcommand_asked wish) names)) (subst (λ (rs : List Row). Reports rs wish) held wishes.2)

-- ---- words without a fault

pub asked : (words : List Text) (o : Option Wish) → fault_of copydesk words ≡ [] → IsWished (subcommand_of copydesk words) o → IsAsked words o
asked words None sound wished = λ wish asks. wished wish asks.1
asked words (Some wish) sound wished = (sound, wished)
