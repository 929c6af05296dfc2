-- One reply, memory aside: of an event, of a command, of a line, and of a script.
use Rattle.std.proofs.Common.{◌≡◌, ℕ, ◌+◌, ◌==◌, Bool, true, false, cond, List, [], ◌∷◌, ◌++◌, length, refl, sym, ap, ◌∙◌, subst, inl, inr}
use Rattle.std.proofs.lemmas.List.{append-nil}
use Rattle.std.specs.Prelude.{Option, Some, None, Result, Ok, Err, MatchOption, MatchBool, MatchResult, nat_le, nat_lt}
use Rattle.desk_ops.specs.declared.op.Op.{Op}
use Rattle.desk_ops.specs.declared.op.Stamp.{Stamp}
use Rattle.desk_ops.specs.declared.op.Symbol.{Symbol}
use Rattle.desk_ops.specs.Op.{stamp_of}
use Rattle.desk_ops.specs.OpSet.{OpSet, in_order}
use Rattle.desk_ops.specs.Shown.{copy_of}
use Rattle.desk_ops.specs.Faults.{faults_of}
use Rattle.desk_codec.specs.Runs.{set_feed}
use Rattle.desk_codec.specs.declared.fault.FeedFault.{FeedFault}
use Rattle.desk_codec.proofs.Grammar.{one_list}
use Rattle.desk_codec.proofs.EitherLaw.{feed_or_fault}
use Rattle.desk_held.specs.declared.AddRefusal.{AddRefusal}
use Rattle.desk_held.specs.declared.AddRefusal.TheVariants as adds
use Rattle.desk_replica.specs.declared.Refusal.{Refusal as EditRefusal}
use Rattle.desk_replica.specs.declared.Refusal.TheVariants as edits
use Rattle.desk_replica.specs.JobSettings.{settings_of}
use Rattle.desk_case.specs.Case.{CaseValues}
use Rattle.desk_case.specs.File.{case_of}
use Rattle.desk_wedge.specs.Wedge.{WedgeValues}
use Rattle.desk_wedge.specs.File.{wedge_of}
use Rattle.desk_signals.specs.declared.RibbonRow.{RibbonRow}
use Rattle.desk_ribbon.specs.Ribbon.{ribbon}
use Rattle.desk_caster.specs.Caster.{Line as CastLine, cast}
use Rattle.desk_caster.proofs.Ribbons.{ribbons_have_one_reading}
use Rattle.desk_job.specs.declared.JobFault.{JobFault}
use Rattle.feed_files.specs.declared.files.FileRefusal.{FileRefusal}
use Rattle.feed_files.specs.Files.{Shelf, shelf}
use Rattle.script_answers.specs.NotDone.{event_reply, stopped, stopped_after}
use Rattle.script_answers.specs.Reply.{ReplyValues, Done, Made, MadeMany, Counted, Copy, Refused, Stopped, lines_reported}
use Rattle.script_answers.specs.Reply as kinds
use Rattle.script_answers.specs.Failure.{case_refused, file_refused, wedge_refused}
use Rattle.script_answers.specs.Inputs.{BothGive, FileGives, Reports, ReportsBytes, ThenWedge, with_case}
use Rattle.script_answers.specs.Job.{IsJobByFiles, IsJobOf, ReportsCast, ReportsJob, job_of}
use Rattle.script_answers.specs.declared.job.Wanted.{Wanted}
use Rattle.script_answers.specs.declared.job.Wanted.TheVariants as wants
use Rattle.script_answers.specs.declared.text.Refusal.{Refusal}
use Rattle.script_answers.specs.declared.text.Refusal.TheVariants as refusals
use Rattle.script_answers.specs.Command.{CommandValues, Site, Insert, Delete, SetTo, Take, Send, Merge, Show, Faults, Settings, Feed, Ribbon, Cast, Restart}
use Rattle.script_answers.specs.Grammar.{command_of}
use Rattle.script_world.specs.declared.world.Answer.{Answer}
use Rattle.script_world.specs.declared.world.StepRefusal.{StepRefusal}
use Rattle.script_world.specs.declared.world.StepRefusal.TheVariants as steps
use Rattle.script_world.specs.Sites.{Sites}
use Rattle.script_world.specs.World.{taken}
use Rattle.script_world.specs.World as events
use Rattle.script_world.specs.OneAnswer.{AreWithin, halts_for_memory, is_for_memory}
use Rattle.script_world.proofs.OneAnswer.{brings_within, one_brought, one_step, step_within}
use Rattle.desk_script.specs.Act.{Does, GivesPart, IsBrought, Keeps, Performs, Refuses, Takes, sent}
use Rattle.desk_script.specs.Desk.{Desk, desk}
use Rattle.desk_script.specs.Event.{Happens, Says, set_of}
use Rattle.desk_script.specs.Insert.{Inserts, after, all_made, all_symbols, first_of, made_of}
use Rattle.desk_script.specs.Line.{Line, Bytes, Long, Allows, IsAnswered}
use Rattle.desk_script.specs.Script.{Script}
use Rattle.desk_script.specs.Reads.{FileRead, file_read, wedge_reads, both_reads, job_reads, command_reads, form_reads, answer_reads, line_reads, script_reads}
use Rattle.desk_script.specs.OneReply.{HasMemory, AllHaveMemory, OneReply}

-- ---- what has memory

-- a reply that stops for memory has none
unstopped : {G : Type 0} (k : ℕ) → HasMemory (stopped k refusals.Memory) → G
unstopped {G} k h = at (k == 0) h
  where
    at : (b : Bool) → HasMemory (cond b (Refused refusals.Memory) (Stopped k refusals.Memory)) → G
    at true h = absurd (h.0 refl)
    at false h = absurd (h.1 k refl)

halted_has : (k n : ℕ) (why : AddRefusal) → HasMemory (after k (stopped_after n why)) → halts_for_memory why ≡ false
halted_has k n adds.Full h = refl
halted_has k n adds.NoMemory h = at (n == 0) h
  where
    at : (b : Bool) → HasMemory (after k (cond b (Refused refusals.Memory) (Stopped n refusals.Memory))) → halts_for_memory adds.NoMemory ≡ false
    at true h = unstopped k h
    at false h = absurd (h.1 n refl)

edited_has : (k : ℕ) (why : EditRefusal) → HasMemory (after k (event_reply (Err (steps.Edit why)))) → is_for_memory (Err (steps.Edit why)) ≡ false
edited_has k edits.Full h = refl
edited_has k edits.ClockFull h = refl
edited_has k edits.Place h = refl
edited_has k edits.Value h = refl
edited_has k edits.NoMemory h = unstopped k h

-- where the reply to a refusal after k edits has memory, the event was not refused for memory
refused_has : (k : ℕ) (why : StepRefusal) → HasMemory (after k (event_reply (Err why))) → is_for_memory (Err why) ≡ false
refused_has k steps.Number h = refl
refused_has k steps.KnownSite h = refl
refused_has k steps.TooManySites h = refl
refused_has k steps.NoSite h = refl
refused_has k steps.Strange h = refl
refused_has k (steps.Edit why) h = edited_has k why h
refused_has k (steps.Halted stop) h = halted_has k stop.taken stop.why h
refused_has k steps.NoMemory h = unstopped k h

-- after no edit a refusal is itself
after_none : (reply : ReplyValues) → after 0 reply ≡ reply
after_none Done = refl
after_none (Made stamp) = refl
after_none (MadeMany first last) = refl
after_none (Counted news known) = refl
after_none (Copy copy) = refl
after_none (kinds.Feed bytes) = refl
after_none (kinds.Faults faults) = refl
after_none (kinds.Settings settings) = refl
after_none (kinds.Ribbon ribbon) = refl
after_none (kinds.NoRibbon faults) = refl
after_none (kinds.Lines lines) = refl
after_none (Refused why) = refl
after_none (Stopped n why) = refl

event_has : (result : Result Answer StepRefusal) (reply : ReplyValues) → event_reply result ≡ reply → HasMemory reply → is_for_memory result ≡ false
event_has (Ok answer) reply e h = refl
event_has (Err why) reply e h = refused_has 0 why (subst HasMemory (sym (after_none (event_reply (Err why)) ∙ e)) h)

-- ---- one reply

-- from these sites there is one reply, memory aside, and it leaves the same sites, which hold no more than may be held
record One (P : ReplyValues → Sites → Type 0) : Type 0 where
  same : (reply answer : ReplyValues) (new other : Sites) → P reply new → P answer other → HasMemory reply → HasMemory answer → (reply ≡ answer) × (new ≡ other)
  within : (reply : ReplyValues) (new : Sites) → P reply new → AreWithin new

said_one : (what : ReplyValues) (old : Sites) → AreWithin old → One (Says what old)
said_one what old small = record {
  same = λ reply answer new other p q hr ha. (p.0 ∙ sym q.0, p.1 ∙ sym q.1);
  within = λ reply new p. subst AreWithin (sym p.1) small;
}

bool_one : (b : Bool) (P Q : ReplyValues → Sites → Type 0) → One P → One Q → One (λ reply new. MatchBool b (P reply new) (Q reply new))
bool_one true P Q p q = p
bool_one false P Q p q = q

option_one : {A : Type 0} (o : Option A) (P : ReplyValues → Sites → Type 0) (Q : A → ReplyValues → Sites → Type 0) → One P → ((a : A) → One (Q a)) → One (λ reply new. MatchOption o (P reply new) (λ a. Q a reply new))
option_one None P Q p q = p
option_one (Some a) P Q p q = q a

happens_one : (old : Sites) (event : events.EventValues) → AreWithin old → One (Happens old event)
happens_one old event small = record {
  same = λ reply answer new other p q hr ha.
      let one = one_step old new other event p.0 q.0 small p.1 q.1 (event_has p.0 reply p.2 hr) (event_has q.0 answer q.2 ha) in
      (sym p.2 ∙ ap event_reply one.0 ∙ q.2, one.1);
  within = λ reply new p. step_within old new event p.0 small p.1;
}

brought_one : (old : Sites) (n : ℕ) (ops : List Op) → AreWithin old → One (IsBrought old n ops)
brought_one old n ops small = record {
  same = λ reply answer new other p q hr ha.
      let one = one_brought old new other n ops p.0 q.0 p.1 q.1 (event_has (taken p.0) reply p.2 hr) (event_has (taken q.0) answer q.2 ha) in
      (sym p.2 ∙ ap (λ r. event_reply (taken r)) one.0 ∙ q.2, one.1);
  within = λ reply new p. brings_within old new n ops p.0 small p.1;
}

takes_one : (old : Sites) (n : ℕ) (bytes : List ℕ) → AreWithin old → One (Takes old n bytes)
takes_one old n bytes small = record { same = same; within = within }
  where
    same : (reply answer : ReplyValues) (new other : Sites) → Takes old n bytes reply new → Takes old n bytes answer other → HasMemory reply → HasMemory answer → (reply ≡ answer) × (new ≡ other)
    same reply answer new other (inl p) (inl q) hr ha = (brought_one old n p.0 small).same reply answer new other p.2 (subst (λ (ops : List Op). IsBrought old n ops answer other) (sym (one_list bytes p.0 q.0 p.1 q.1)) q.2) hr ha
    same reply answer new other (inl p) (inr q) hr ha = absurd (feed_or_fault.not_both bytes p.0 q.0 p.1 q.1)
    same reply answer new other (inr p) (inl q) hr ha = absurd (feed_or_fault.not_both bytes q.0 p.0 q.1 p.1)
    same reply answer new other (inr p) (inr q) hr ha = (p.2.0 ∙ ap (λ (f : FeedFault). Refused (refusals.Feed f)) (feed_or_fault.one_fault bytes p.0 q.0 p.1 q.1) ∙ sym q.2.0, p.2.1 ∙ sym q.2.1)

    within : (reply : ReplyValues) (new : Sites) → Takes old n bytes reply new → AreWithin new
    within reply new (inl p) = (brought_one old n p.0 small).within reply new p.2
    within reply new (inr p) = subst AreWithin (sym p.2.1) small

-- ---- symbols inserted one after another

-- what is inserted once the first symbol was
abbrev Goes : ℕ → ℕ → List Symbol → ℕ → Option (Stamp × Stamp) → Sites → Result Answer StepRefusal → ReplyValues → Sites → Type 0
Goes n place ys k made mid result reply new = MatchOption (made_of result) ((after k (event_reply result) ≡ reply) × (new ≡ mid)) (λ op. Inserts mid n place ys (k + 1) (Some (first_of made (stamp_of op), stamp_of op)) reply new)

ended_one : (k : ℕ) (result : Result Answer StepRefusal) (mid : Sites) → AreWithin mid → One (λ reply new. (after k (event_reply result) ≡ reply) × (new ≡ mid))
ended_one k result mid small = record {
  same = λ reply answer new other p q hr ha. (sym p.0 ∙ q.0, p.1 ∙ sym q.1);
  within = λ reply new p. subst AreWithin (sym p.1) small;
}

-- an insert after which the reply has memory was not refused for memory
goes_has : (n place : ℕ) (ys : List Symbol) (k : ℕ) (made : Option (Stamp × Stamp)) (mid : Sites) (result : Result Answer StepRefusal) (reply : ReplyValues) (new : Sites) → Goes n place ys k made mid result reply new → HasMemory reply → is_for_memory result ≡ false
goes_has n place ys k made mid (Ok answer) reply new p h = refl
goes_has n place ys k made mid (Err why) reply new p h = refused_has k why (subst HasMemory (sym p.0) h)

inserts_one : (old : Sites) (n place : ℕ) (ys : List Symbol) (k : ℕ) (made : Option (Stamp × Stamp)) → AreWithin old → One (Inserts old n place ys k made)
inserts_one old n place [] k made small = said_one (all_made k made) old small
inserts_one old n place (y ∷ ys) k made small = record {
  same = λ reply answer new other p q hr ha.
      let first = one_step old p.0 q.0 (events.Insert n (place + k) y) p.1 q.1 small p.2 q.2 (goes_has n place ys k made p.0 p.1 reply new p.3 hr) (goes_has n place ys k made q.0 q.1 answer other q.3 ha) in
      let moved : Goes n place ys k made p.0 q.1 answer other = subst (λ (mid : Sites). Goes n place ys k made mid q.1 answer other) (sym first.1) q.3 in
      let also : Goes n place ys k made p.0 p.1 answer other = subst (λ (result : Result Answer StepRefusal). Goes n place ys k made p.0 result answer other) (sym first.0) moved in
      (option_one (made_of p.1) (λ r s. (after k (event_reply p.1) ≡ r) × (s ≡ p.0)) (λ op. Inserts p.0 n place ys (k + 1) (Some (first_of made (stamp_of op), stamp_of op)))
      (ended_one k p.1 p.0 (step_within old p.0 (events.Insert n (place + k) y) p.1 small p.2))
      (λ op. inserts_one p.0 n place ys (k + 1) (Some (first_of made (stamp_of op), stamp_of op)) (step_within old p.0 (events.Insert n (place + k) y) p.1 small p.2))).same reply answer new other p.3 also hr ha;
  within = λ reply new p.
      (option_one (made_of p.1) (λ r s. (after k (event_reply p.1) ≡ r) × (s ≡ p.0)) (λ op. Inserts p.0 n place ys (k + 1) (Some (first_of made (stamp_of op), stamp_of op)))
      (ended_one k p.1 p.0 (step_within old p.0 (events.Insert n (place + k) y) p.1 small p.2))
      (λ op. inserts_one p.0 n place ys (k + 1) (Some (first_of made (stamp_of op), stamp_of op)) (step_within old p.0 (events.Insert n (place + k) y) p.1 small p.2))).within reply new p.3;
}

-- ---- commands that ask for no file

-- the site is looked up
site_one : (old : Sites) (n : ℕ) (Q : OpSet → ReplyValues → Sites → Type 0) → AreWithin old → ((set : OpSet) → One (Q set)) → One (λ reply new. MatchOption (set_of old n) (Says (Refused refusals.Site) old reply new) (λ set. Q set reply new))
site_one old n Q small q = option_one (set_of old n) (Says (Refused refusals.Site) old) Q (said_one (Refused refusals.Site) old small) q

part_one : (old : Sites) (ops : List Op) (range : Option (ℕ × ℕ)) (to : ℕ) → AreWithin old → One (GivesPart old ops range to)
part_one old ops range to small = option_one (sent ops range) (Says (Refused refusals.Place) old) (λ part. Happens old (events.Give to part)) (said_one (Refused refusals.Place) old small) (λ part. happens_one old (events.Give to part) small)

copy_one : (old : Sites) (n place : ℕ) (copy : List Symbol) → AreWithin old → One (λ reply new. MatchBool (all_symbols copy) (Inserts old n place copy 0 None reply new) (Says (Refused refusals.Value) old reply new))
copy_one old n place copy small = bool_one (all_symbols copy) (Inserts old n place copy 0 None) (Says (Refused refusals.Value) old) (inserts_one old n place copy 0 None small) (said_one (Refused refusals.Value) old small)

does_one : (old : Sites) (command : CommandValues) → AreWithin old → One (Does old command)
does_one old (Site n) small = bool_one (nat_lt 65535 n) (Says (Refused refusals.Number) old) (Happens old (events.Site n)) (said_one (Refused refusals.Number) old small) (happens_one old (events.Site n) small)
does_one old (Insert n place copy) small =
    site_one old n (λ set reply new. MatchBool (nat_le place (length (copy_of set))) (MatchBool (all_symbols copy) (Inserts old n place copy 0 None reply new) (Says (Refused refusals.Value) old reply new)) (Says (Refused refusals.Place) old reply new)) small
    (λ set. bool_one (nat_le place (length (copy_of set))) (λ reply new. MatchBool (all_symbols copy) (Inserts old n place copy 0 None reply new) (Says (Refused refusals.Value) old reply new)) (Says (Refused refusals.Place) old) (copy_one old n place copy small) (said_one (Refused refusals.Place) old small))
does_one old (Delete n place) small = site_one old n (λ set. Happens old (events.Delete n place)) small (λ set. happens_one old (events.Delete n place) small)
does_one old (SetTo n key value) small = site_one old n (λ set. Happens old (events.Set n key value)) small (λ set. happens_one old (events.Set n key value) small)
does_one old (Take n bytes) small = site_one old n (λ set. Takes old n bytes) small (λ set. takes_one old n bytes small)
does_one old (Send from to range) small =
    site_one old from (λ set reply new. MatchOption (set_of old to) (Says (Refused refusals.Site) old reply new) (λ other. GivesPart old (in_order set) range to reply new)) small
    (λ set. site_one old to (λ other. GivesPart old (in_order set) range to) small (λ other. part_one old (in_order set) range to small))
does_one old (Merge to from) small =
    site_one old to (λ other reply new. MatchOption (set_of old from) (Says (Refused refusals.Site) old reply new) (λ set. Happens old (events.Give to (in_order set)) reply new)) small
    (λ other. site_one old from (λ set. Happens old (events.Give to (in_order set))) small (λ set. happens_one old (events.Give to (in_order set)) small))
does_one old (Show n) small = site_one old n (λ set. Says (Copy (copy_of set)) old) small (λ set. said_one (Copy (copy_of set)) old small)
does_one old (Feed n) small = site_one old n (λ set. Says (kinds.Feed (set_feed set)) old) small (λ set. said_one (kinds.Feed (set_feed set)) old small)
does_one old (Restart n) small = site_one old n (λ set. Happens old (events.Restart n)) small (λ set. happens_one old (events.Restart n) small)
does_one old (Faults n) small = site_one old n (λ set. Says (kinds.Faults (faults_of set)) old) small (λ set. said_one (kinds.Faults (faults_of set)) old small)
does_one old (Settings n) small = site_one old n (λ set. Says (kinds.Settings (settings_of set)) old) small (λ set. said_one (kinds.Settings (settings_of set)) old small)
does_one old (Ribbon n case wedge) small = record { same = λ reply answer new other p q hr ha. absurd p; within = λ reply new p. absurd p }
does_one old (Cast n case wedge) small = record { same = λ reply answer new other p q hr ha. absurd p; within = λ reply new p. absurd p }

-- ---- files

same_shelf : (a b : Shelf) → a.kept ≡ b.kept → a.failures ≡ b.failures → a.held ≡ b.held → a ≡ b
same_shelf a b k f h = ap (λ x. shelf x a.failures a.held) k ∙ ap (λ x. shelf b.kept x a.held) f ∙ ap (λ x. shelf b.kept b.failures x) h

same_desk : (a b : Desk) → a.sites ≡ b.sites → a.shelf ≡ b.shelf → a ≡ b
same_desk a b s f = ap (λ x. desk x a.shelf) s ∙ ap (desk b.sites) f

same_some : {A : Type 0} (a b : A) (o : Option A) → o ≡ Some a → o ≡ Some b → a ≡ b
same_some a b o e f = let is : Some a ≡ Some b = sym e ∙ f in cc

same_cons : {A : Type 0} (a b : A) (xs ys : List A) → a ∷ xs ≡ b ∷ ys → (a ≡ b) × (xs ≡ ys)
same_cons a b xs ys e = (cc, cc)

one_report : {V E : Type 0} (refused : E → Option Refusal) (read : Result V E) (given other : Result V Refusal) → Reports refused read given → Reports refused read other → given ≡ other
one_report refused (Ok value) given other p q = p ∙ sym q
one_report refused (Err why) given other p q = p.2 ∙ ap Err (same_some p.0 q.0 (refused why) p.1 q.1) ∙ sym q.2

one_meaning : {V E : Type 0} (meaning : List ℕ → Result V E) (refused : E → Option Refusal) (read : Result (List ℕ) FileRefusal) (given other : Result V Refusal) → ReportsBytes meaning refused read given → ReportsBytes meaning refused read other → given ≡ other
one_meaning meaning refused (Ok bytes) given other p q = one_report refused (meaning bytes) given other p q
one_meaning meaning refused (Err why) given other p q = p.2 ∙ ap Err (same_some p.0 q.0 (file_refused why) p.1 q.1) ∙ sym q.2

-- what a file gave is said by the read
one_file : {V E : Type 0} (meaning : List ℕ → Result V E) (refused : E → Option Refusal) (name : List ℕ) (before also first second : Shelf) (given other : Result V Refusal) (p : FileGives meaning refused name before given first) (q : FileGives meaning refused name also other second)
    → before ≡ also → file_read p.1 first ≡ file_read q.1 second → (given ≡ other) × (first ≡ second)
one_file meaning refused name before also first second given other p q same e = (
  one_meaning meaning refused p.1 given other p.4 (subst (λ (read : Result (List ℕ) FileRefusal). ReportsBytes meaning refused read other) (sym (ap (λ (r : FileRead). r.gave) e)) q.4),
  same_shelf first second (p.0.0 ∙ ap (λ (s : Shelf). s.kept) same ∙ sym q.0.0) (ap (λ (r : FileRead). r.failures) e) (p.0.2 ∙ ap (λ (s : Shelf). s.held) same ∙ sym q.0.2),
)

one_wedge : (name : List ℕ) (case like : Result CaseValues Refusal) (mid also first second : Shelf) (given other : Result (CaseValues × WedgeValues) Refusal) (p : ThenWedge name case mid given first) (q : ThenWedge name like also other second) (xs ys : List FileRead) → case ≡ like → mid ≡ also
    → wedge_reads name case mid given first p ++ xs ≡ wedge_reads name like also other second q ++ ys → (given ≡ other) × (first ≡ second) × (xs ≡ ys)
one_wedge name (Err why) (Err cause) mid also first second given other p q xs ys is same e = let also_why : why ≡ cause = cc in (p.0 ∙ ap Err also_why ∙ sym q.0, p.1 ∙ same ∙ sym q.1, e)
one_wedge name (Err why) (Ok like) mid also first second given other p q xs ys is same e = absurd cc
one_wedge name (Ok case) (Err why) mid also first second given other p q xs ys is same e = absurd cc
one_wedge name (Ok case) (Ok like) mid also first second given other p q xs ys is same e =
    let alike : case ≡ like = cc in
    let split = same_cons (file_read p.1.1 first) (file_read q.1.1 second) xs ys e in
    let one = one_file wedge_of wedge_refused name mid also first second p.0 q.0 p.1 q.1 same split.0 in
    (p.2 ∙ ap (λ c. with_case c p.0) alike ∙ ap (with_case like) one.0 ∙ sym q.2, one.1, split.1)

one_both : (of_case of_wedge : List ℕ) (before first second : Shelf) (given other : Result (CaseValues × WedgeValues) Refusal) (p : BothGive of_case of_wedge before given first) (q : BothGive of_case of_wedge before other second) (xs ys : List FileRead)
    → both_reads of_case of_wedge before given first p ++ xs ≡ both_reads of_case of_wedge before other second q ++ ys → (given ≡ other) × (first ≡ second) × (xs ≡ ys)
one_both of_case of_wedge before first second given other p q xs ys e =
    let split = same_cons (file_read p.1.1.1 p.1.0) (file_read q.1.1.1 q.1.0) (wedge_reads of_wedge p.0 p.1.0 given first p.1.2 ++ xs) (wedge_reads of_wedge q.0 q.1.0 other second q.1.2 ++ ys) e in
    let one = one_file case_of case_refused of_case before before p.1.0 q.1.0 p.0 q.0 p.1.1 q.1.1 refl split.0 in
    one_wedge of_wedge p.0 q.0 p.1.0 q.1.0 first second given other p.1.2 q.1.2 xs ys one.0 one.1 split.1

-- ---- jobs

one_cast : (case : CaseValues) (wedge : WedgeValues) (bytes : List ℕ) (reply answer : ReplyValues) → ReportsCast case wedge bytes reply → ReportsCast case wedge bytes answer → reply ≡ answer
one_cast case wedge bytes reply answer p q =
    let rows = ribbons_have_one_reading bytes p.0 q.0 p.1 q.1 in
    let both : Ok p.2.0 ≡ Ok q.2.0 = sym p.2.1 ∙ ap (cast case wedge) rows ∙ q.2.1 in
    let lines : p.2.0 ≡ q.2.0 = cc in
    p.2.2 ∙ ap (λ (l : List CastLine). kinds.Lines (lines_reported l)) lines ∙ sym q.2.2

one_wanted : (wanted : Wanted) (case : CaseValues) (wedge : WedgeValues) (job : Result (List RibbonRow) (List JobFault)) (reply answer : ReplyValues) → ReportsJob wanted case wedge job reply → ReportsJob wanted case wedge job answer → reply ≡ answer
one_wanted wants.Ribbon case wedge (Ok rows) reply answer p q = p ∙ sym q
one_wanted wants.Ribbon case wedge (Err faults) reply answer p q = p ∙ sym q
one_wanted wants.Lines case wedge (Ok rows) reply answer p q = one_cast case wedge (ribbon rows) reply answer p q
one_wanted wants.Lines case wedge (Err faults) reply answer p q = p ∙ sym q

one_job : (wanted : Wanted) (set : OpSet) (of_case of_wedge : List ℕ) (before first second : Shelf) (reply answer : ReplyValues) (p : IsJobByFiles wanted set of_case of_wedge before reply first) (q : IsJobByFiles wanted set of_case of_wedge before answer second) (xs ys : List FileRead)
    → both_reads of_case of_wedge before p.0 first p.1 ++ xs ≡ both_reads of_case of_wedge before q.0 second q.1 ++ ys → (reply ≡ answer) × (first ≡ second) × (xs ≡ ys)
one_job wanted set of_case of_wedge before first second reply answer p q xs ys e =
    let one = one_both of_case of_wedge before first second p.0 q.0 p.1 q.1 xs ys e in
    (at p.0 p.2 (subst (λ (given : Result (CaseValues × WedgeValues) Refusal). MatchResult given (λ both. IsJobOf wanted set both.0 both.1 answer) (λ why. answer ≡ Refused why)) (sym one.0) q.2), one.1, one.2)
  where
    at : (given : Result (CaseValues × WedgeValues) Refusal) → MatchResult given (λ both. IsJobOf wanted set both.0 both.1 reply) (λ why. reply ≡ Refused why) → MatchResult given (λ both. IsJobOf wanted set both.0 both.1 answer) (λ why. answer ≡ Refused why) → reply ≡ answer
    at (Ok both) x y = one_wanted wanted both.0 both.1 (job_of set both.0 both.1) reply answer x y
    at (Err why) x y = x ∙ sym y

one_asked : (wanted : Wanted) (old new other : Desk) (site : Option OpSet) (of_case of_wedge : List ℕ) (reply answer : ReplyValues)
    (p : MatchOption site (Refuses old refusals.Site reply new) (λ set. (new.sites ≡ old.sites) × IsJobByFiles wanted set of_case of_wedge old.shelf reply new.shelf))
    (q : MatchOption site (Refuses old refusals.Site answer other) (λ set. (other.sites ≡ old.sites) × IsJobByFiles wanted set of_case of_wedge old.shelf answer other.shelf)) (xs ys : List FileRead)
    → job_reads wanted old site of_case of_wedge reply new p ++ xs ≡ job_reads wanted old site of_case of_wedge answer other q ++ ys → (reply ≡ answer) × (new ≡ other) × (xs ≡ ys)
one_asked wanted old new other None of_case of_wedge reply answer p q xs ys e = (p.0 ∙ sym q.0, p.1 ∙ sym q.1, e)
one_asked wanted old new other (Some set) of_case of_wedge reply answer p q xs ys e =
    let one = one_job wanted set of_case of_wedge old.shelf new.shelf other.shelf reply answer p.1 q.1 xs ys e in
    (one.0, same_desk new other (p.0 ∙ sym q.0) one.1, one.2)

asked_within : (wanted : Wanted) (old new : Desk) (site : Option OpSet) (of_case of_wedge : List ℕ) (reply : ReplyValues) → MatchOption site (Refuses old refusals.Site reply new) (λ set. (new.sites ≡ old.sites) × IsJobByFiles wanted set of_case of_wedge old.shelf reply new.shelf)
    → AreWithin old.sites → AreWithin new.sites
asked_within wanted old new None of_case of_wedge reply p small = subst (λ (d : Desk). AreWithin d.sites) (sym p.1) small
asked_within wanted old new (Some set) of_case of_wedge reply p small = subst AreWithin (sym p.0) small

-- ---- lines

one_kept : (old new other : Desk) (command : CommandValues) (reply answer : ReplyValues) → Keeps old command reply new → Keeps old command answer other → AreWithin old.sites → HasMemory reply → HasMemory answer → (reply ≡ answer) × (new ≡ other)
one_kept old new other command reply answer p q small hr ha =
    let one = (does_one old.sites command small).same reply answer new.sites other.sites p.0 q.0 hr ha in
    (one.0, same_desk new other one.1 (p.1 ∙ sym q.1))

one_kept_with : (old new other : Desk) (command : CommandValues) (reply answer : ReplyValues) (xs ys : List FileRead) → Keeps old command reply new → Keeps old command answer other → AreWithin old.sites → HasMemory reply → HasMemory answer → xs ≡ ys → (reply ≡ answer) × (new ≡ other) × (xs ≡ ys)
one_kept_with old new other command reply answer xs ys p q small hr ha e = let one = one_kept old new other command reply answer p q small hr ha in (one.0, one.1, e)

one_performed : (old new other : Desk) (command : CommandValues) (reply answer : ReplyValues) (p : Performs old command reply new) (q : Performs old command answer other) (xs ys : List FileRead) → AreWithin old.sites → HasMemory reply → HasMemory answer
    → command_reads old command reply new p ++ xs ≡ command_reads old command answer other q ++ ys → (reply ≡ answer) × (new ≡ other) × (xs ≡ ys)
one_performed old new other (Ribbon n case wedge) reply answer p q xs ys small hr ha e = one_asked wants.Ribbon old new other (set_of old.sites n) case wedge reply answer p q xs ys e
one_performed old new other (Cast n case wedge) reply answer p q xs ys small hr ha e = one_asked wants.Lines old new other (set_of old.sites n) case wedge reply answer p q xs ys e
one_performed old new other (Site n) reply answer p q xs ys small hr ha e = one_kept_with old new other (Site n) reply answer xs ys p q small hr ha e
one_performed old new other (Insert n place copy) reply answer p q xs ys small hr ha e = one_kept_with old new other (Insert n place copy) reply answer xs ys p q small hr ha e
one_performed old new other (Delete n place) reply answer p q xs ys small hr ha e = one_kept_with old new other (Delete n place) reply answer xs ys p q small hr ha e
one_performed old new other (SetTo n key value) reply answer p q xs ys small hr ha e = one_kept_with old new other (SetTo n key value) reply answer xs ys p q small hr ha e
one_performed old new other (Take n bytes) reply answer p q xs ys small hr ha e = one_kept_with old new other (Take n bytes) reply answer xs ys p q small hr ha e
one_performed old new other (Send from to range) reply answer p q xs ys small hr ha e = one_kept_with old new other (Send from to range) reply answer xs ys p q small hr ha e
one_performed old new other (Merge to from) reply answer p q xs ys small hr ha e = one_kept_with old new other (Merge to from) reply answer xs ys p q small hr ha e
one_performed old new other (Show n) reply answer p q xs ys small hr ha e = one_kept_with old new other (Show n) reply answer xs ys p q small hr ha e
one_performed old new other (Faults n) reply answer p q xs ys small hr ha e = one_kept_with old new other (Faults n) reply answer xs ys p q small hr ha e
one_performed old new other (Settings n) reply answer p q xs ys small hr ha e = one_kept_with old new other (Settings n) reply answer xs ys p q small hr ha e
one_performed old new other (Feed n) reply answer p q xs ys small hr ha e = one_kept_with old new other (Feed n) reply answer xs ys p q small hr ha e
one_performed old new other (Restart n) reply answer p q xs ys small hr ha e = one_kept_with old new other (Restart n) reply answer xs ys p q small hr ha e

performed_within : (old new : Desk) (command : CommandValues) (reply : ReplyValues) → Performs old command reply new → AreWithin old.sites → AreWithin new.sites
performed_within old new (Ribbon n case wedge) reply p small = asked_within wants.Ribbon old new (set_of old.sites n) case wedge reply p small
performed_within old new (Cast n case wedge) reply p small = asked_within wants.Lines old new (set_of old.sites n) case wedge reply p small
performed_within old new (Site n) reply p small = (does_one old.sites (Site n) small).within reply new.sites p.0
performed_within old new (Insert n place copy) reply p small = (does_one old.sites (Insert n place copy) small).within reply new.sites p.0
performed_within old new (Delete n place) reply p small = (does_one old.sites (Delete n place) small).within reply new.sites p.0
performed_within old new (SetTo n key value) reply p small = (does_one old.sites (SetTo n key value) small).within reply new.sites p.0
performed_within old new (Take n bytes) reply p small = (does_one old.sites (Take n bytes) small).within reply new.sites p.0
performed_within old new (Send from to range) reply p small = (does_one old.sites (Send from to range) small).within reply new.sites p.0
performed_within old new (Merge to from) reply p small = (does_one old.sites (Merge to from) small).within reply new.sites p.0
performed_within old new (Show n) reply p small = (does_one old.sites (Show n) small).within reply new.sites p.0
performed_within old new (Faults n) reply p small = (does_one old.sites (Faults n) small).within reply new.sites p.0
performed_within old new (Settings n) reply p small = (does_one old.sites (Settings n) small).within reply new.sites p.0
performed_within old new (Feed n) reply p small = (does_one old.sites (Feed n) small).within reply new.sites p.0
performed_within old new (Restart n) reply p small = (does_one old.sites (Restart n) small).within reply new.sites p.0

one_formed : (old new other : Desk) (command : Option CommandValues) (reply answer : ReplyValues) (p : MatchOption command (Refuses old refusals.Command reply new) (λ c. Performs old c reply new)) (q : MatchOption command (Refuses old refusals.Command answer other) (λ c. Performs old c answer other)) (xs ys : List FileRead)
    → AreWithin old.sites → HasMemory reply → HasMemory answer → form_reads old command reply new p ++ xs ≡ form_reads old command answer other q ++ ys → (reply ≡ answer) × (new ≡ other) × (xs ≡ ys)
one_formed old new other None reply answer p q xs ys small hr ha e = (p.0 ∙ sym q.0, p.1 ∙ sym q.1, e)
one_formed old new other (Some command) reply answer p q xs ys small hr ha e = one_performed old new other command reply answer p q xs ys small hr ha e

formed_within : (old new : Desk) (command : Option CommandValues) (reply : ReplyValues) → MatchOption command (Refuses old refusals.Command reply new) (λ c. Performs old c reply new) → AreWithin old.sites → AreWithin new.sites
formed_within old new None reply p small = subst (λ (d : Desk). AreWithin d.sites) (sym p.1) small
formed_within old new (Some command) reply p small = performed_within old new command reply p small

one_answered : (old new other : Desk) (line : Line) (reply answer : ReplyValues) (p : IsAnswered old line reply new) (q : IsAnswered old line answer other) (xs ys : List FileRead) → AreWithin old.sites → HasMemory reply → HasMemory answer
    → answer_reads old line reply new p ++ xs ≡ answer_reads old line answer other q ++ ys → (reply ≡ answer) × (new ≡ other) × (xs ≡ ys)
one_answered old new other Long reply answer p q xs ys small hr ha e = (p.0 ∙ sym q.0, p.1 ∙ sym q.1, e)
one_answered old new other (Bytes bytes) reply answer p q xs ys small hr ha e = one_formed old new other (command_of bytes) reply answer p q xs ys small hr ha e

answered_within : (old new : Desk) (line : Line) (reply : ReplyValues) → IsAnswered old line reply new → AreWithin old.sites → AreWithin new.sites
answered_within old new Long reply p small = subst (λ (d : Desk). AreWithin d.sites) (sym p.1) small
answered_within old new (Bytes bytes) reply p small = formed_within old new (command_of bytes) reply p small

one_allowed : (old new other : Desk) (line : Line) (reply answer : ReplyValues) (p : Allows old line reply new) (q : Allows old line answer other) (xs ys : List FileRead) → AreWithin old.sites → HasMemory reply → HasMemory answer
    → line_reads old line reply new p ++ xs ≡ line_reads old line answer other q ++ ys → (reply ≡ answer) × (new ≡ other) × (xs ≡ ys)
one_allowed old new other line reply answer (inl p) (inl q) xs ys small hr ha e = one_answered old new other line reply answer p q xs ys small hr ha e
one_allowed old new other line reply answer (inl p) (inr q) xs ys small hr ha e = absurd (ha.0 q.1.0)
one_allowed old new other line reply answer (inr p) q xs ys small hr ha e = absurd (hr.0 p.1.0)

allowed_within : (old new : Desk) (line : Line) (reply : ReplyValues) → Allows old line reply new → AreWithin old.sites → AreWithin new.sites
allowed_within old new line reply (inl p) small = answered_within old new line reply p small
allowed_within old new line reply (inr p) small = subst (λ (d : Desk). AreWithin d.sites) (sym p.1.1) small

one_line : (old new other : Desk) (line : Line) (reply answer : ReplyValues) (a : Allows old line reply new) (b : Allows old line answer other) → AreWithin old.sites → HasMemory reply → HasMemory answer
    → line_reads old line reply new a ≡ line_reads old line answer other b → (reply ≡ answer) × (new ≡ other)
one_line old new other line reply answer a b small hr ha e =
    let one = one_allowed old new other line reply answer a b [] [] small hr ha (append-nil (line_reads old line reply new a) ∙ e ∙ sym (append-nil (line_reads old line answer other b))) in
    (one.0, one.1)

-- ---- scripts

keeps : (old new : Desk) (lines : List Line) (replies : List ReplyValues) → AreWithin old.sites → Script old lines replies new → AreWithin new.sites
keeps old new [] [] small p = subst (λ (d : Desk). AreWithin d.sites) (sym p) small
keeps old new [] (reply ∷ replies) small p = absurd p
keeps old new (line ∷ lines) [] small p = absurd p
keeps old new (line ∷ lines) (reply ∷ replies) small p = keeps p.0 new lines replies (allowed_within old p.0 line reply p.1 small) p.2

one_script : (old new other : Desk) (lines : List Line) (replies answers : List ReplyValues) (a : Script old lines replies new) (b : Script old lines answers other) → AreWithin old.sites → AllHaveMemory replies → AllHaveMemory answers
    → script_reads old lines replies new a ≡ script_reads old lines answers other b → (replies ≡ answers) × (new ≡ other)
one_script old new other [] [] [] a b small hr ha e = (refl, a ∙ sym b)
one_script old new other [] (reply ∷ replies) answers a b small hr ha e = absurd a
one_script old new other [] [] (answer ∷ answers) a b small hr ha e = absurd b
one_script old new other (line ∷ lines) [] answers a b small hr ha e = absurd a
one_script old new other (line ∷ lines) (reply ∷ replies) [] a b small hr ha e = absurd b
one_script old new other (line ∷ lines) (reply ∷ replies) (answer ∷ answers) a b small hr ha e =
    let one = one_allowed old a.0 b.0 line reply answer a.1 b.1 (script_reads a.0 lines replies new a.2) (script_reads b.0 lines answers other b.2) small hr.0 ha.0 e in
    let moved = subst (λ (d : Desk). (q : Script d lines answers other) × (script_reads a.0 lines replies new a.2 ≡ script_reads d lines answers other q)) (sym one.1) (b.2, one.2) in
    let rest = one_script a.0 new other lines replies answers a.2 moved.0 (allowed_within old a.0 line reply a.1 small) hr.1 ha.1 moved.1 in
    (ap (λ x. x ∷ replies) one.0 ∙ ap (λ xs. answer ∷ xs) rest.0, rest.1)

pub one_reply : OneReply
one_reply = record { keeps = keeps; one_line = one_line; one_script = one_script }
