-- No event, no command and no line takes a site away.
use Rattle.std.proofs.Common.{◌≡◌, ℕ, ◌+◌, ◌∙◌, inl, inr, List, [], ◌∷◌, Bool, true, false, cond, refl, ap}
use Rattle.std.specs.Prelude.{Option, Some, None, Result, Ok, Err, MatchBool, MatchOption, length, nat_le, nat_lt}
use Rattle.std.specs.FinMap as fin
use Rattle.std.specs.Cmp.{nat_cmp_total}
use Rattle.desk_ops.specs.declared.op.Op.{Op}
use Rattle.desk_ops.specs.declared.op.Stamp.{Stamp}
use Rattle.desk_ops.specs.declared.op.Symbol.{Symbol}
use Rattle.desk_ops.specs.Op.{stamp_of}
use Rattle.desk_ops.specs.OpSet.{OpSet, in_order}
use Rattle.desk_ops.specs.Shown.{copy_of}
use Rattle.desk_replica.specs.declared.Count.{Count}
use Rattle.script_answers.specs.Grammar.{command_of}
use Rattle.script_answers.specs.Command.{CommandValues, Site, Insert, Delete, SetTo, Take, Send, Merge, Show, Faults, Settings, Feed, Ribbon, Cast, Restart}
use Rattle.script_answers.specs.Reply.{ReplyValues}
use Rattle.script_answers.specs.declared.job.Wanted.{Wanted}
use Rattle.script_answers.specs.declared.job.Wanted.TheVariants as wants
use Rattle.script_world.specs.Sites.{Sites, all_held}
use Rattle.script_world.specs.World.{Brings, EditsSite, Steps, site_refusal}
use Rattle.script_world.specs.World as events
use Rattle.script_world.specs.declared.world.Answer.{Answer}
use Rattle.script_world.specs.declared.world.LocalEdit.{LocalEdit}
use Rattle.script_world.specs.declared.world.LocalEdit.TheVariants as kinds
use Rattle.script_world.specs.declared.world.StepRefusal.{StepRefusal}
use Rattle.desk_script.specs.Act.{Does, GivesPart, Jobs, Performs, Takes, sent}
use Rattle.desk_script.specs.Desk.{Desk, KeepsSites}
use Rattle.desk_script.specs.Event.{Happens, set_of}
use Rattle.desk_script.specs.Insert.{Inserts, all_symbols, first_of, made_of}
use Rattle.desk_script.specs.Line.{Allows, IsAnswered, Bytes, Line, Long}

pub keeps_same : (old new : Sites) → new ≡ old → KeepsSites old new
keeps_same old new same n set there = (set, ap (λ (s : Sites). fin.get s n) same ∙ there)

pub keeps_trans : (old mid new : Sites) → KeepsSites old mid → KeepsSites mid new → KeepsSites old new
keeps_trans old mid new first second n set there = let next = first n set there in second n next.0 next.1

some_of : (b : Bool) (after : OpSet) (o : Option OpSet) (set : OpSet) → o ≡ Some set → (later : OpSet) × (cond b (Some after) o ≡ Some later)
some_of true after o set there = (after, refl)
some_of false after o set there = (set, there)

keeps_insert : (old new : Sites) (n : ℕ) (after : OpSet) → new ≡ fin.insert old n after → KeepsSites old new
keeps_insert old new n after is q set there =
    let got = some_of _ after (fin.get old q) set there in
    (got.0, ap (λ (s : Sites). fin.get s q) is ∙ (fin.get-insert nat_cmp_total old n after q ∙ got.1))

-- whatever a look-up gives
pub by_look_up : {A : Type 0} (o : Option A) (P : Type 0) (Q : A → Type 0) (R : Type 0) → (P → R) → ((x : A) → Q x → R) → MatchOption o P Q → R
by_look_up None P Q R none some h = none h
by_look_up (Some x) P Q R none some h = some x h

pub by_test : (b : Bool) (P Q R : Type 0) → (P → R) → (Q → R) → MatchBool b P Q → R
by_test true P Q R first second h = first h
by_test false P Q R first second h = second h

edit_keeps : (old new : Sites) (n : ℕ) (edit : LocalEdit) (result : Result Answer StepRefusal) → EditsSite old n edit result new → KeepsSites old new
edit_keeps old new n edit result h = by_look_up (fin.get old n) _ _ (KeepsSites old new) (λ r. keeps_same old new r.1) (λ set r. keeps_insert old new n r.0 r.2) h

brings_keep : (old new : Sites) (n : ℕ) (ops : List Op) (result : Result Count StepRefusal) → Brings old n ops result new → KeepsSites old new
brings_keep old new n ops result h = by_look_up (fin.get old n) _ _ (KeepsSites old new) (λ r. keeps_same old new r.1) (λ set r. keeps_insert old new n r.0 r.2) h

adds_keep : (old new : Sites) (n : ℕ) (result : Result Answer StepRefusal) → events.Adds old n result new → KeepsSites old new
adds_keep old new n (Ok answer) h = keeps_insert old new n _ h.1
adds_keep old new n (Err why) h = keeps_same old new h.1

steps_keep : (old new : Sites) (event : events.EventValues) (result : Result Answer StepRefusal) → Steps old event result new → KeepsSites old new
steps_keep old new (events.Site n) result h = by_look_up (site_refusal old n) _ _ (KeepsSites old new) (adds_keep old new n result) (λ why r. keeps_same old new r.1) h
steps_keep old new (events.Insert n place symbol) result h = edit_keeps old new n (kinds.Insert place symbol) result h
steps_keep old new (events.Delete n place) result h = edit_keeps old new n (kinds.Delete place) result h
steps_keep old new (events.Set n key value) result h = edit_keeps old new n (kinds.Set key value) result h
steps_keep old new (events.Give to ops) result h =
    by_look_up (fin.get old to) _ _ (KeepsSites old new) (λ r. keeps_same old new r.1)
    (λ set r. by_test (all_held old ops) _ _ (KeepsSites old new) (λ given. brings_keep old new to ops given.0 given.2) (λ refused. keeps_same old new refused.1) r) h
steps_keep old new (events.Restart n) result h = by_look_up (fin.get old n) _ _ (KeepsSites old new) (λ r. keeps_same old new r.1) (λ set r. keeps_same old new r.1) h

happens_keep : (old new : Sites) (event : events.EventValues) (reply : ReplyValues) → Happens old event reply new → KeepsSites old new
happens_keep old new event reply h = steps_keep old new event h.0 h.1

inserts_keep : (old new : Sites) (n place : ℕ) (copy : List Symbol) (k : ℕ) (made : Option (Stamp × Stamp)) (reply : ReplyValues) → Inserts old n place copy k made reply new → KeepsSites old new
inserts_keep old new n place [] k made reply h = keeps_same old new h.1
inserts_keep old new n place (y ∷ ys) k made reply (mid, result, steps, rest) =
    keeps_trans old mid new (steps_keep old mid (events.Insert n (place + k) y) result steps)
    (by_look_up (made_of result) _ _ (KeepsSites mid new) (λ r. keeps_same mid new r.1) (λ op r. inserts_keep mid new n place ys (k + 1) (Some (first_of made (stamp_of op), stamp_of op)) reply r) rest)

takes_keep : (old new : Sites) (n : ℕ) (bytes : List ℕ) (reply : ReplyValues) → Takes old n bytes reply new → KeepsSites old new
takes_keep old new n bytes reply (inl h) = brings_keep old new n h.0 h.2.0 h.2.1
takes_keep old new n bytes reply (inr h) = keeps_same old new h.2.1

gives_keep : (old new : Sites) (ops : List Op) (range : Option (ℕ × ℕ)) (to : ℕ) (reply : ReplyValues) → GivesPart old ops range to reply new → KeepsSites old new
gives_keep old new ops range to reply h =
    by_look_up (sent ops range) _ _ (KeepsSites old new) (λ r. keeps_same old new r.1) (λ part r. happens_keep old new (events.Give to part) reply r) h

does_keep : (old new : Sites) (command : CommandValues) (reply : ReplyValues) → Does old command reply new → KeepsSites old new
does_keep old new (Site n) reply h = by_test (nat_lt 65535 n) _ _ (KeepsSites old new) (λ r. keeps_same old new r.1) (happens_keep old new (events.Site n) reply) h
does_keep old new (Insert n place copy) reply h =
    by_look_up (set_of old n) _ _ (KeepsSites old new) (λ r. keeps_same old new r.1)
    (λ set r. by_test (nat_le place (length (copy_of set))) _ _ (KeepsSites old new)
    (λ inside. by_test (all_symbols copy) _ _ (KeepsSites old new) (inserts_keep old new n place copy 0 None reply) (λ u. keeps_same old new u.1) inside) (λ u. keeps_same old new u.1) r) h
does_keep old new (Delete n place) reply h = by_look_up (set_of old n) _ _ (KeepsSites old new) (λ r. keeps_same old new r.1) (λ set. happens_keep old new (events.Delete n place) reply) h
does_keep old new (SetTo n key value) reply h = by_look_up (set_of old n) _ _ (KeepsSites old new) (λ r. keeps_same old new r.1) (λ set. happens_keep old new (events.Set n key value) reply) h
does_keep old new (Take n bytes) reply h = by_look_up (set_of old n) _ _ (KeepsSites old new) (λ r. keeps_same old new r.1) (λ set. takes_keep old new n bytes reply) h
does_keep old new (Send from to range) reply h =
    by_look_up (set_of old from) _ _ (KeepsSites old new) (λ r. keeps_same old new r.1)
    (λ set r. by_look_up (set_of old to) _ _ (KeepsSites old new) (λ u. keeps_same old new u.1) (λ other. gives_keep old new (in_order set) range to reply) r) h
does_keep old new (Merge to from) reply h =
    by_look_up (set_of old to) _ _ (KeepsSites old new) (λ r. keeps_same old new r.1)
    (λ other r. by_look_up (set_of old from) _ _ (KeepsSites old new) (λ u. keeps_same old new u.1) (λ set. happens_keep old new (events.Give to (in_order set)) reply) r) h
does_keep old new (Show n) reply h = by_look_up (set_of old n) _ _ (KeepsSites old new) (λ r. keeps_same old new r.1) (λ set r. keeps_same old new r.1) h
does_keep old new (Feed n) reply h = by_look_up (set_of old n) _ _ (KeepsSites old new) (λ r. keeps_same old new r.1) (λ set r. keeps_same old new r.1) h
does_keep old new (Restart n) reply h = by_look_up (set_of old n) _ _ (KeepsSites old new) (λ r. keeps_same old new r.1) (λ set. happens_keep old new (events.Restart n) reply) h
does_keep old new (Faults n) reply h = by_look_up (set_of old n) _ _ (KeepsSites old new) (λ r. keeps_same old new r.1) (λ set r. keeps_same old new r.1) h
does_keep old new (Settings n) reply h = by_look_up (set_of old n) _ _ (KeepsSites old new) (λ r. keeps_same old new r.1) (λ set r. keeps_same old new r.1) h
does_keep old new (Ribbon n case wedge) reply h = absurd h
does_keep old new (Cast n case wedge) reply h = absurd h

jobs_keep : (wanted : Wanted) (old new : Desk) (n : ℕ) (of_case of_wedge : List ℕ) (reply : ReplyValues) → Jobs wanted old n of_case of_wedge reply new → KeepsSites old.sites new.sites
jobs_keep wanted old new n of_case of_wedge reply h =
    by_look_up (set_of old.sites n) _ _ (KeepsSites old.sites new.sites) (λ r. keeps_same old.sites new.sites (ap (λ (d : Desk). d.sites) r.1)) (λ set r. keeps_same old.sites new.sites r.0) h

performs_keep : (old new : Desk) (command : CommandValues) (reply : ReplyValues) → Performs old command reply new → KeepsSites old.sites new.sites
performs_keep old new (Ribbon n case wedge) reply h = jobs_keep wants.Ribbon old new n case wedge reply h
performs_keep old new (Cast n case wedge) reply h = jobs_keep wants.Lines old new n case wedge reply h
performs_keep old new (Site n) reply h = does_keep old.sites new.sites (Site n) reply h.0
performs_keep old new (Insert n place copy) reply h = does_keep old.sites new.sites (Insert n place copy) reply h.0
performs_keep old new (Delete n place) reply h = does_keep old.sites new.sites (Delete n place) reply h.0
performs_keep old new (SetTo n key value) reply h = does_keep old.sites new.sites (SetTo n key value) reply h.0
performs_keep old new (Take n bytes) reply h = does_keep old.sites new.sites (Take n bytes) reply h.0
performs_keep old new (Send from to range) reply h = does_keep old.sites new.sites (Send from to range) reply h.0
performs_keep old new (Merge to from) reply h = does_keep old.sites new.sites (Merge to from) reply h.0
performs_keep old new (Show n) reply h = does_keep old.sites new.sites (Show n) reply h.0
performs_keep old new (Faults n) reply h = does_keep old.sites new.sites (Faults n) reply h.0
performs_keep old new (Settings n) reply h = does_keep old.sites new.sites (Settings n) reply h.0
performs_keep old new (Feed n) reply h = does_keep old.sites new.sites (Feed n) reply h.0
performs_keep old new (Restart n) reply h = does_keep old.sites new.sites (Restart n) reply h.0

answers_keep : (old new : Desk) (line : Line) (reply : ReplyValues) → IsAnswered old line reply new → KeepsSites old.sites new.sites
answers_keep old new Long reply h = keeps_same old.sites new.sites (ap (λ (d : Desk). d.sites) h.1)
answers_keep old new (Bytes bytes) reply h =
    by_look_up (command_of bytes) _ _ (KeepsSites old.sites new.sites) (λ r. keeps_same old.sites new.sites (ap (λ (d : Desk). d.sites) r.1)) (λ command. performs_keep old new command reply) h

-- whatever a line is
pub allows_keep : (old new : Desk) (line : Line) (reply : ReplyValues) → Allows old line reply new → KeepsSites old.sites new.sites
allows_keep old new line reply (inl h) = answers_keep old new line reply h
allows_keep old new line reply (inr (fits, h)) = keeps_same old.sites new.sites (ap (λ (d : Desk). d.sites) h.1)
