-- What each command answers and does.
use Rattle.std.specs.Prelude.{◌≡◌, ◌-◌, ◌⊎◌, take, drop, ◌&&◌, length, nat_le, ℕ, nat_lt, List, Option, Some, None}
use Rattle.std.specs.Prelude.{Result, MatchOption, MatchBool, if◌then◌else◌}
use Rattle.desk_ops.specs.declared.op.Op.{Op}
use Rattle.desk_ops.specs.OpSet.{in_order}
use Rattle.desk_ops.specs.Shown.{copy_of}
use Rattle.desk_ops.specs.Faults.{faults_of}
use Rattle.desk_codec.specs.Feed.{IsFeed}
use Rattle.desk_codec.specs.Runs.{set_feed}
use Rattle.desk_codec.specs.Fault.{IsFirstFault}
use Rattle.desk_codec.specs.declared.fault.FeedFault.{FeedFault}
use Rattle.desk_replica.specs.declared.Count.{Count}
use Rattle.desk_replica.specs.JobSettings.{settings_of}
use Rattle.script_answers.specs.Job.{IsJobByFiles}
use Rattle.script_answers.specs.declared.job.Wanted.{Wanted}
use Rattle.script_answers.specs.declared.job.Wanted.TheVariants as wants
use Rattle.script_answers.specs.NotDone.{event_reply}
use Rattle.script_answers.specs.declared.failure.Failure.{Failure}
use Rattle.script_answers.specs.declared.failure.Failure.TheVariants as failures
use Rattle.script_answers.specs.declared.text.Refusal.{Refusal}
use Rattle.script_answers.specs.declared.text.Refusal.TheVariants as refusals
use Rattle.script_answers.specs.Reply.{ReplyValues, Copy, Refused}
use Rattle.script_answers.specs.Reply as replies
use Rattle.script_answers.specs.Command.{CommandValues, Site, Insert, Delete, SetTo, Take, Send, Merge, Show, Faults}
use Rattle.script_answers.specs.Command.{Settings, Feed, Ribbon, Cast, Restart}
use Rattle.script_world.specs.Sites.{Sites}
use Rattle.script_world.specs.World.{Brings, taken}
use Rattle.script_world.specs.World as events
use Rattle.script_world.specs.declared.world.StepRefusal.{StepRefusal}
use Rattle.desk_script.specs.Desk.{Desk}
use Rattle.desk_script.specs.Event.{Happens, Says, set_of}
use Rattle.desk_script.specs.Insert.{Inserts, all_symbols}

-- operations are brought to a site, wherever they come from, and the reply is that of the result
abbrev pub IsBrought : Sites → ℕ → List Op → ReplyValues → Sites → Type 0
IsBrought old n ops reply new = (result : Result Count StepRefusal) × Brings old n ops result new
    × (event_reply (taken result) ≡ reply)

-- a feed's operations are brought to a site, or its first fault is the reply
abbrev pub Takes : Sites → ℕ → List ℕ → ReplyValues → Sites → Type 0
Takes old n bytes reply new =
    ((ops : List Op) × IsFeed bytes ops × IsBrought old n ops reply new)
    ⊎ ((fault : FeedFault) × IsFirstFault bytes fault × Says (Refused (refusals.Feed fault)) old reply new)

-- the operations at the places of a range, or all
abbrev pub sent : List Op → Option (ℕ × ℕ) → Option (List Op)
sent ops None = Some ops
sent ops (Some range) = if nat_le range.0 range.1 && nat_le range.1 (length ops)
    then Some (take (range.1 - range.0) (drop range.0 ops)) else None

-- there is no part: the places are refused, or no memory was left for it
abbrev pub IsNoPart : Failure → Option (List Op) → Type 0
IsNoPart end part = ((end ≡ failures.Refused refusals.Place) × (part ≡ None)) ⊎ (end ≡ failures.NoMemory)

-- a site is given the operations at the places, or the places are refused
abbrev pub GivesPart : Sites → List Op → Option (ℕ × ℕ) → ℕ → ReplyValues → Sites → Type 0
GivesPart old ops range to reply new =
    MatchOption (sent ops range) (Says (Refused refusals.Place) old reply new)
    (λ part. Happens old (events.Give to part) reply new)

-- what a command that asks for no file answers and does
abbrev pub Does : Sites → CommandValues → ReplyValues → Sites → Type 0
Does old (Site n) reply new =
    MatchBool (nat_lt 65535 n) (Says (Refused refusals.Number) old reply new) (Happens old (events.Site n) reply new)
Does old (Insert n place copy) reply new = MatchOption (set_of old n) (Says (Refused refusals.Site) old reply new)
    (λ set. MatchBool (nat_le place (length (copy_of set)))
    (MatchBool (all_symbols copy) (Inserts old n place copy 0 None reply new)
    (Says (Refused refusals.Value) old reply new))
    (Says (Refused refusals.Place) old reply new))
Does old (Delete n place) reply new =
    MatchOption (set_of old n) (Says (Refused refusals.Site) old reply new)
    (λ set. Happens old (events.Delete n place) reply new)
Does old (SetTo n key value) reply new =
    MatchOption (set_of old n) (Says (Refused refusals.Site) old reply new)
    (λ set. Happens old (events.Set n key value) reply new)
Does old (Take n bytes) reply new =
    MatchOption (set_of old n) (Says (Refused refusals.Site) old reply new) (λ set. Takes old n bytes reply new)
Does old (Send from to range) reply new = MatchOption (set_of old from) (Says (Refused refusals.Site) old reply new)
    (λ set. MatchOption (set_of old to) (Says (Refused refusals.Site) old reply new)
    (λ other. GivesPart old (in_order set) range to reply new))
Does old (Merge to from) reply new = MatchOption (set_of old to) (Says (Refused refusals.Site) old reply new)
    (λ other. MatchOption (set_of old from) (Says (Refused refusals.Site) old reply new)
    (λ set. Happens old (events.Give to (in_order set)) reply new))
Does old (Show n) reply new =
    MatchOption (set_of old n) (Says (Refused refusals.Site) old reply new)
    (λ set. Says (Copy (copy_of set)) old reply new)
Does old (Feed n) reply new =
    MatchOption (set_of old n) (Says (Refused refusals.Site) old reply new)
    (λ set. Says (replies.Feed (set_feed set)) old reply new)
Does old (Restart n) reply new =
    MatchOption (set_of old n) (Says (Refused refusals.Site) old reply new)
    (λ set. Happens old (events.Restart n) reply new)
Does old (Faults n) reply new =
    MatchOption (set_of old n) (Says (Refused refusals.Site) old reply new)
    (λ set. Says (replies.Faults (faults_of set)) old reply new)
Does old (Settings n) reply new =
    MatchOption (set_of old n) (Says (Refused refusals.Site) old reply new)
    (λ set. Says (replies.Settings (settings_of set)) old reply new)
Does old (Ribbon n case wedge) reply new = ⊥
Does old (Cast n case wedge) reply new = ⊥

-- memory is refused, and no site has changed
abbrev pub Lacks : Sites → ReplyValues → Sites → Type 0
Lacks old reply new = Says (Refused refusals.Memory) old reply new

-- what a command that asks for no file answers and does, or memory is refused to it
abbrev pub Tries : Sites → CommandValues → ReplyValues → Sites → Type 0
Tries old command reply new = Does old command reply new ⊎ Lacks old reply new

-- a line or a command is refused, and nothing changes
abbrev pub Refuses : Desk → Refusal → ReplyValues → Desk → Type 0
Refuses old why reply new = (reply ≡ Refused why) × (new ≡ old)

-- memory is refused, neither a site nor a file has changed, and no device has failed
abbrev pub LacksMemory : Desk → ReplyValues → Desk → Type 0
LacksMemory old reply new = Refuses old refusals.Memory reply new

-- A job at a site: the site is looked up, both files are read by their names, and no set changes.
abbrev pub Jobs : Wanted → Desk → ℕ → List ℕ → List ℕ → ReplyValues → Desk → Type 0
Jobs wanted old n of_case of_wedge reply new = MatchOption (set_of old.sites n) (Refuses old refusals.Site reply new)
    (λ set. (new.sites ≡ old.sites) × IsJobByFiles wanted set of_case of_wedge old.shelf reply new.shelf)

-- a command that asks for no file leaves the files as they are
abbrev pub Keeps : Desk → CommandValues → ReplyValues → Desk → Type 0
Keeps old command reply new = Does old.sites command reply new.sites × (new.shelf ≡ old.shelf)

-- what a command answers and does
abbrev pub Performs : Desk → CommandValues → ReplyValues → Desk → Type 0
Performs old (Ribbon n case wedge) reply new = Jobs wants.Ribbon old n case wedge reply new
Performs old (Cast n case wedge) reply new = Jobs wants.Lines old n case wedge reply new
Performs old (Site n) reply new = Keeps old (Site n) reply new
Performs old (Insert n place copy) reply new = Keeps old (Insert n place copy) reply new
Performs old (Delete n place) reply new = Keeps old (Delete n place) reply new
Performs old (SetTo n key value) reply new = Keeps old (SetTo n key value) reply new
Performs old (Take n bytes) reply new = Keeps old (Take n bytes) reply new
Performs old (Send from to range) reply new = Keeps old (Send from to range) reply new
Performs old (Merge to from) reply new = Keeps old (Merge to from) reply new
Performs old (Show n) reply new = Keeps old (Show n) reply new
Performs old (Faults n) reply new = Keeps old (Faults n) reply new
Performs old (Settings n) reply new = Keeps old (Settings n) reply new
Performs old (Feed n) reply new = Keeps old (Feed n) reply new
Performs old (Restart n) reply new = Keeps old (Restart n) reply new

-- what a command answers and does, or memory is refused to it
abbrev pub Attempts : Desk → CommandValues → ReplyValues → Desk → Type 0
Attempts old command reply new = Performs old command reply new ⊎ LacksMemory old reply new
