-- Where an answer may be long no site has changed, and no file; and no device has failed.
use Rattle.std.proofs.Common.{◌≡◌, ℕ, ◌+◌, ◌∙◌, inl, inr, List, [], ◌∷◌, Bool, true, false, refl, ap, sym}
use Rattle.std.specs.Prelude.{Option, Some, None, Result, Ok, Err, length, nat_le, nat_lt, if◌then◌else◌}
use Rattle.desk_ops.specs.declared.op.Op.{Op}
use Rattle.desk_ops.specs.declared.op.Stamp.{Stamp}
use Rattle.desk_ops.specs.declared.op.Symbol.{Symbol}
use Rattle.desk_ops.specs.Op.{stamp_of}
use Rattle.desk_ops.specs.OpSet.{OpSet, in_order}
use Rattle.desk_ops.specs.Shown.{copy_of}
use Rattle.desk_held.specs.declared.AddRefusal.{AddRefusal}
use Rattle.desk_held.specs.declared.AddRefusal.TheVariants as adds
use Rattle.script_answers.specs.Grammar.{command_of}
use Rattle.script_answers.specs.Command.{CommandValues, Site, Insert, Delete, SetTo, Take, Send, Merge, Show, Faults, Settings, Feed, Ribbon, Cast, Restart}
use Rattle.script_answers.specs.NotDone.{event_reply, stopped_after}
use Rattle.script_answers.specs.Reply.{ReplyValues, Refused, Stopped, is_long}
use Rattle.script_answers.specs.Reply as replies
use Rattle.script_answers.specs.declared.text.Refusal.{Refusal}
use Rattle.script_answers.specs.declared.text.Refusal.TheVariants as refusals
use Rattle.feed_files.specs.Files.{Shelf}
use Rattle.script_answers.specs.Job.{IsJobByFiles}
use Rattle.script_answers.proofs.Gives.{both_same}
use Rattle.script_answers.specs.declared.job.Wanted.{Wanted}
use Rattle.script_answers.specs.declared.job.Wanted.TheVariants as wants
use Rattle.script_world.specs.Sites.{Sites}
use Rattle.script_world.specs.World.{taken}
use Rattle.script_world.specs.World as events
use Rattle.script_world.specs.declared.world.Answer.{Answer}
use Rattle.script_world.specs.declared.world.Answer.TheVariants as answers
use Rattle.script_world.specs.declared.world.StepRefusal.{StepRefusal}
use Rattle.script_world.specs.declared.world.StepRefusal.TheVariants as steps
use Rattle.desk_script.specs.Act.{Does, GivesPart, Jobs, Performs, Takes, sent}
use Rattle.desk_script.specs.Desk.{Desk}
use Rattle.desk_script.specs.Event.{Happens, set_of}
use Rattle.desk_script.specs.Insert.{Inserts, after, all_made, all_symbols, first_of, made_of}
use Rattle.desk_script.specs.Line.{Allows, IsAnswered, Bytes, Line, Long}
use Rattle.desk_script.proofs.Keeping.{by_look_up, by_test}

stopped_short : (b : Bool) (taken : ℕ) (why : Refusal) → is_long (if b then Refused why else Stopped taken why) ≡ false
stopped_short true taken why = refl
stopped_short false taken why = refl

halted_short : (taken : ℕ) (why : AddRefusal) → is_long (stopped_after taken why) ≡ false
halted_short taken adds.Full = stopped_short _ taken refusals.Full
halted_short taken adds.NoMemory = stopped_short _ taken refusals.Memory

event_short : (result : Result Answer StepRefusal) → is_long (event_reply result) ≡ false
event_short (Ok (answers.Made op)) = refl
event_short (Ok (answers.Taken count)) = refl
event_short (Ok answers.Done) = refl
event_short (Err steps.Number) = refl
event_short (Err steps.KnownSite) = refl
event_short (Err steps.TooManySites) = refl
event_short (Err steps.NoSite) = refl
event_short (Err steps.Strange) = refl
event_short (Err (steps.Edit why)) = refl
event_short (Err (steps.Halted stop)) = halted_short stop.taken stop.why
event_short (Err steps.NoMemory) = refl

after_short : (k : ℕ) (r : ReplyValues) → is_long r ≡ false → is_long (after k r) ≡ false
after_short k (Refused why) short = stopped_short _ k why
after_short k replies.Done short = short
after_short k (replies.Made stamp) short = short
after_short k (replies.MadeMany first last) short = short
after_short k (replies.Counted news known) short = short
after_short k (replies.Copy copy) short = short
after_short k (replies.Feed bytes) short = short
after_short k (replies.Faults faults) short = short
after_short k (replies.Settings settings) short = short
after_short k (replies.Ribbon ribbon) short = short
after_short k (replies.NoRibbon faults) short = short
after_short k (replies.Lines lines) short = short
after_short k (Stopped taken why) short = short

made_short : (k : ℕ) (made : Option (Stamp × Stamp)) → is_long (all_made k made) ≡ false
made_short k None = refl
made_short k (Some span) = span_short _ span.0 span.1
  where
    span_short : (b : Bool) (first last : Stamp) → is_long (if b then replies.Made first else replies.MadeMany first last) ≡ false
    span_short true first last = refl
    span_short false first last = refl

as_short : (a b : ReplyValues) → a ≡ b → is_long a ≡ false → is_long b ≡ false
as_short a b same short = ap is_long (sym same) ∙ short

inserts_short : (old new : Sites) (n place : ℕ) (copy : List Symbol) (k : ℕ) (made : Option (Stamp × Stamp)) (reply : ReplyValues) → Inserts old n place copy k made reply new → is_long reply ≡ false
inserts_short old new n place [] k made reply h = as_short _ reply (sym h.0) (made_short k made)
inserts_short old new n place (y ∷ ys) k made reply (mid, result, steps, rest) =
    by_look_up (made_of result) _ _ (is_long reply ≡ false) (λ r. as_short _ reply r.0 (after_short k _ (event_short result)))
    (λ op r. inserts_short mid new n place ys (k + 1) (Some (first_of made (stamp_of op), stamp_of op)) reply r) rest

-- a reply that is short is not long
neither : (P : Type 0) (r : ReplyValues) → is_long r ≡ false → is_long r ≡ true → P
neither P r short long = let e : is_long r ≡ false = short in let f : is_long r ≡ true = long in absurd (cc)

happens_same : (old new : Sites) (event : events.EventValues) (reply : ReplyValues) → is_long reply ≡ true → Happens old event reply new → new ≡ old
happens_same old new event reply long h = neither (new ≡ old) reply (as_short _ reply h.2 (event_short h.0)) long

takes_same : (old new : Sites) (n : ℕ) (bytes : List ℕ) (reply : ReplyValues) → is_long reply ≡ true → Takes old n bytes reply new → new ≡ old
takes_same old new n bytes reply long (inl h) = neither (new ≡ old) reply (as_short _ reply h.2.2 (event_short (taken h.2.0))) long
takes_same old new n bytes reply long (inr h) = h.2.1

gives_same : (old new : Sites) (ops : List Op) (range : Option (ℕ × ℕ)) (to : ℕ) (reply : ReplyValues) → is_long reply ≡ true → GivesPart old ops range to reply new → new ≡ old
gives_same old new ops range to reply long h = by_look_up (sent ops range) _ _ (new ≡ old) (λ r. r.1) (λ part. happens_same old new (events.Give to part) reply long) h

does_same : (old new : Sites) (command : CommandValues) (reply : ReplyValues) → is_long reply ≡ true → Does old command reply new → new ≡ old
does_same old new (Site n) reply long h = by_test (nat_lt 65535 n) _ _ (new ≡ old) (λ r. r.1) (happens_same old new (events.Site n) reply long) h
does_same old new (Insert n place copy) reply long h =
    by_look_up (set_of old n) _ _ (new ≡ old) (λ r. r.1)
    (λ set r. by_test (nat_le place (length (copy_of set))) _ _ (new ≡ old)
    (λ inside. by_test (all_symbols copy) _ _ (new ≡ old) (λ i. neither (new ≡ old) reply (inserts_short old new n place copy 0 None reply i) long) (λ u. u.1) inside) (λ u. u.1) r) h
does_same old new (Delete n place) reply long h = by_look_up (set_of old n) _ _ (new ≡ old) (λ r. r.1) (λ set. happens_same old new (events.Delete n place) reply long) h
does_same old new (SetTo n key value) reply long h = by_look_up (set_of old n) _ _ (new ≡ old) (λ r. r.1) (λ set. happens_same old new (events.Set n key value) reply long) h
does_same old new (Take n bytes) reply long h = by_look_up (set_of old n) _ _ (new ≡ old) (λ r. r.1) (λ set. takes_same old new n bytes reply long) h
does_same old new (Send from to range) reply long h =
    by_look_up (set_of old from) _ _ (new ≡ old) (λ r. r.1) (λ set r. by_look_up (set_of old to) _ _ (new ≡ old) (λ u. u.1) (λ other. gives_same old new (in_order set) range to reply long) r) h
does_same old new (Merge to from) reply long h =
    by_look_up (set_of old to) _ _ (new ≡ old) (λ r. r.1)
    (λ other r. by_look_up (set_of old from) _ _ (new ≡ old) (λ u. u.1) (λ set. happens_same old new (events.Give to (in_order set)) reply long) r) h
does_same old new (Show n) reply long h = by_look_up (set_of old n) _ _ (new ≡ old) (λ r. r.1) (λ set r. r.1) h
does_same old new (Feed n) reply long h = by_look_up (set_of old n) _ _ (new ≡ old) (λ r. r.1) (λ set r. r.1) h
does_same old new (Restart n) reply long h = by_look_up (set_of old n) _ _ (new ≡ old) (λ r. r.1) (λ set. happens_same old new (events.Restart n) reply long) h
does_same old new (Faults n) reply long h = by_look_up (set_of old n) _ _ (new ≡ old) (λ r. r.1) (λ set r. r.1) h
does_same old new (Settings n) reply long h = by_look_up (set_of old n) _ _ (new ≡ old) (λ r. r.1) (λ set r. r.1) h
does_same old new (Ribbon n case wedge) reply long h = absurd h
does_same old new (Cast n case wedge) reply long h = absurd h

same_desk : (old new : Desk) → new ≡ old → (new.sites ≡ old.sites) × (new.shelf ≡ old.shelf)
same_desk old new same = (ap (λ (d : Desk). d.sites) same, ap (λ (d : Desk). d.shelf) same)

files_same : (wanted : Wanted) (set : OpSet) (of_case of_wedge : List ℕ) (before after : Shelf) (reply : ReplyValues) → is_long reply ≡ true → IsJobByFiles wanted set of_case of_wedge before reply after → after ≡ before
files_same wanted set of_case of_wedge before after reply long (Ok both, gives, reported) = both_same of_case of_wedge before after both gives
files_same wanted set of_case of_wedge before after reply long (Err why, gives, reported) = neither (after ≡ before) reply (ap is_long reported) long

jobs_same : (wanted : Wanted) (old new : Desk) (n : ℕ) (of_case of_wedge : List ℕ) (reply : ReplyValues) → is_long reply ≡ true → Jobs wanted old n of_case of_wedge reply new → (new.sites ≡ old.sites) × (new.shelf ≡ old.shelf)
jobs_same wanted old new n of_case of_wedge reply long h =
    by_look_up (set_of old.sites n) _ _ ((new.sites ≡ old.sites) × (new.shelf ≡ old.shelf)) (λ r. same_desk old new r.1) (λ set r. (r.0, files_same wanted set of_case of_wedge old.shelf new.shelf reply long r.1)) h

performs_same : (old new : Desk) (command : CommandValues) (reply : ReplyValues) → is_long reply ≡ true → Performs old command reply new → (new.sites ≡ old.sites) × (new.shelf ≡ old.shelf)
performs_same old new (Ribbon n case wedge) reply long h = jobs_same wants.Ribbon old new n case wedge reply long h
performs_same old new (Cast n case wedge) reply long h = jobs_same wants.Lines old new n case wedge reply long h
performs_same old new (Site n) reply long h = (does_same old.sites new.sites (Site n) reply long h.0, h.1)
performs_same old new (Insert n place copy) reply long h = (does_same old.sites new.sites (Insert n place copy) reply long h.0, h.1)
performs_same old new (Delete n place) reply long h = (does_same old.sites new.sites (Delete n place) reply long h.0, h.1)
performs_same old new (SetTo n key value) reply long h = (does_same old.sites new.sites (SetTo n key value) reply long h.0, h.1)
performs_same old new (Take n bytes) reply long h = (does_same old.sites new.sites (Take n bytes) reply long h.0, h.1)
performs_same old new (Send from to range) reply long h = (does_same old.sites new.sites (Send from to range) reply long h.0, h.1)
performs_same old new (Merge to from) reply long h = (does_same old.sites new.sites (Merge to from) reply long h.0, h.1)
performs_same old new (Show n) reply long h = (does_same old.sites new.sites (Show n) reply long h.0, h.1)
performs_same old new (Faults n) reply long h = (does_same old.sites new.sites (Faults n) reply long h.0, h.1)
performs_same old new (Settings n) reply long h = (does_same old.sites new.sites (Settings n) reply long h.0, h.1)
performs_same old new (Feed n) reply long h = (does_same old.sites new.sites (Feed n) reply long h.0, h.1)
performs_same old new (Restart n) reply long h = (does_same old.sites new.sites (Restart n) reply long h.0, h.1)

answers_same : (old new : Desk) (line : Line) (reply : ReplyValues) → is_long reply ≡ true → IsAnswered old line reply new → (new.sites ≡ old.sites) × (new.shelf ≡ old.shelf)
answers_same old new Long reply long h = same_desk old new h.1
answers_same old new (Bytes bytes) reply long h =
    by_look_up (command_of bytes) _ _ ((new.sites ≡ old.sites) × (new.shelf ≡ old.shelf)) (λ r. same_desk old new r.1) (λ command. performs_same old new command reply long) h

-- whatever a line is
pub allows_same : (old new : Desk) (line : Line) (reply : ReplyValues) → is_long reply ≡ true → Allows old line reply new → (new.sites ≡ old.sites) × (new.shelf ≡ old.shelf)
allows_same old new line reply long (inl h) = answers_same old new line reply long h
allows_same old new line reply long (inr (fits, h)) = same_desk old new h.1
