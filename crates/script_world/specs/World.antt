-- What each event does to a world.
use Rattle.std.specs.Prelude.{◌≡◌, ◌≤◌, ℕ, ◌<◌, ◌==◌, nat_le, List, Option, Some, None, Result, Ok, Err, MatchOption}
use Rattle.std.specs.Prelude.{MatchResult, ◌⊎◌, MatchBool, All, ⊤, if◌then◌else◌}
use Rattle.std.specs.FinMap as fin
use Rattle.desk_ops.specs.declared.op.Op.{Op}
use Rattle.desk_ops.specs.Op.{IsLawful}
use Rattle.desk_ops.specs.OpSet.{OpSet, no_ops, with_all, size, max_ops}
use Rattle.desk_replica.specs.declared.Count.{Count}
use Rattle.desk_held.specs.declared.join.Stopped.{Stopped}
use Rattle.desk_ops.specs.declared.op.Symbol.{Symbol}
use Rattle.desk_ops.specs.declared.op.Key.{Key}
use Rattle.desk_held.specs.declared.AddRefusal.TheVariants as adds
use Rattle.desk_replica.specs.declared.Refusal.{Refusal as EditRefusal}
use Rattle.desk_replica.specs.declared.Refusal.TheVariants as edits
use Rattle.desk_replica.specs.Edits.{insert_refusal, delete_refusal, set_refusal, IsInserted, IsDeleted, IsSetTo}
use Rattle.desk_held.specs.Joining.{IsStopped}
use Rattle.desk_replica.specs.State.{State, IsCounted}
use Rattle.script_world.specs.declared.world.Answer.{Answer}
use Rattle.script_world.specs.declared.world.Answer.TheVariants as answers
use Rattle.script_world.specs.declared.world.StepRefusal.{StepRefusal}
use Rattle.script_world.specs.declared.world.StepRefusal.TheVariants as refusals
use Rattle.script_world.specs.declared.world.LocalEdit.{LocalEdit}
use Rattle.script_world.specs.declared.world.LocalEdit.TheVariants as kinds
use Rattle.script_world.specs.declared.world.Event.{Event}
use Rattle.script_world.specs.declared.world.Event.TheVariants as events
use Rattle.script_world.specs.Sites.{Sites, all_held}

-- events, without where they lie in memory
pub data EventValues : Type 0 where
  Site : ℕ → EventValues
  Insert : ℕ → ℕ → Symbol → EventValues
  Delete : ℕ → ℕ → EventValues
  Set : ℕ → Key → ℕ → EventValues
  Give : ℕ → List Op → EventValues
  Restart : ℕ → EventValues

abbrev pub event_values : Event → EventValues
event_values (events.Site n) = Site n
event_values (events.Insert site place symbol) = Insert site place symbol
event_values (events.Delete site place) = Delete site place
event_values (events.Set site key value) = Set site key value
event_values (events.Give to ops) = Give to ops.now
event_values (events.Restart site) = Restart site

-- what is given is lawful
abbrev pub IsSound : EventValues → Type 0
IsSound (Site n) = ⊤
IsSound (Insert site place symbol) = ⊤
IsSound (Delete site place) = ⊤
IsSound (Set site key value) = ⊤
IsSound (Give to ops) = All IsLawful ops
IsSound (Restart site) = ⊤

-- why no site with the number can be added
abbrev pub site_refusal : Sites → ℕ → Option StepRefusal
site_refusal sites n =
    if n == 0 then Some refusals.Number
    else (if fin.contains_key sites n then Some refusals.KnownSite
    else (if nat_le 16 (fin.len sites) then Some refusals.TooManySites else None))

-- nothing has changed
abbrev pub Refuses : Sites → StepRefusal → Result Answer StepRefusal → Sites → Type 0
Refuses old why result new = (result ≡ Err why) × (new ≡ old)

-- a site with no operations is added
abbrev pub Adds : Sites → ℕ → Result Answer StepRefusal → Sites → Type 0
Adds old n result new = MatchResult result
    (λ a. (a ≡ answers.Done) × (new ≡ fin.insert old n no_ops))
    (λ e. (e ≡ refusals.NoMemory) × (new ≡ old))

-- a set gains the operations, or those up to one that is refused; it is then no more than may be held
abbrev pub Gains : OpSet → List Op → Result Count StepRefusal → OpSet → Type 0
Gains set ops result after = MatchResult result
    (λ count. (after ≡ with_all set ops) × IsCounted set after ops count × (size after ≤ max_ops))
    (λ e. (stop : Stopped) × (e ≡ refusals.Halted stop) × IsStopped set after ops stop × (size after ≤ max_ops))

-- a site gains operations, wherever they come from; no other changes
abbrev pub Brings : Sites → ℕ → List Op → Result Count StepRefusal → Sites → Type 0
Brings old n ops result new = MatchOption (fin.get old n) ((result ≡ Err refusals.NoSite) × (new ≡ old))
    (λ set. (after : OpSet) × Gains set ops result after × (new ≡ fin.insert old n after))

-- the counts are an event's answer
abbrev pub taken : Result Count StepRefusal → Result Answer StepRefusal
taken (Ok count) = Ok (answers.Taken count)
taken (Err why) = Err why

-- a site's number, and what it holds; of its room nothing is said
abbrev pub site_with : ℕ → OpSet → State
site_with n set = record { site = n; ops = set; spare = 0 }

-- the first cause that refuses an edit, out of memory aside
abbrev pub refusal_of : OpSet → LocalEdit → Option EditRefusal
refusal_of ops (kinds.Insert place symbol) = insert_refusal ops place symbol
refusal_of ops (kinds.Delete place) = delete_refusal ops place
refusal_of ops (kinds.Set key value) = set_refusal ops key value

-- exactly this operation was made and gained
abbrev pub IsEdited : State → State → LocalEdit → Op → Type 0
IsEdited s t (kinds.Insert place symbol) op = IsInserted s t place symbol op
IsEdited s t (kinds.Delete place) op = IsDeleted s t place op
IsEdited s t (kinds.Set key value) op = IsSetTo s t key value op

-- an operation is made and gained, or nothing changes, for the first cause, or where there is none as memory ran out
abbrev pub Edits : State → LocalEdit → Result Answer StepRefusal → State → Type 0
Edits s edit result t = MatchResult result
    (λ a. (op : Op) × (a ≡ answers.Made op) × (refusal_of s.ops edit ≡ None) × IsEdited s t edit op)
    (λ e. (why : EditRefusal) × (e ≡ refusals.Edit why)
    × (((why ≡ edits.NoMemory) × (refusal_of s.ops edit ≡ None)) ⊎ (refusal_of s.ops edit ≡ Some why))
    × (t.ops ≡ s.ops))

-- a site is edited; no other changes
abbrev pub EditsSite : Sites → ℕ → LocalEdit → Result Answer StepRefusal → Sites → Type 0
EditsSite old n edit result new = MatchOption (fin.get old n) (Refuses old refusals.NoSite result new)
    (λ set. (after : OpSet) × Edits (site_with n set) edit result (site_with n after) × (new ≡ fin.insert old n after))

-- opening a set again succeeds, or stops before anything was taken; full only where the set is more than may be held
abbrev pub IsReopened : OpSet → Result Answer StepRefusal → Type 0
IsReopened set result = MatchResult result (λ a. a ≡ answers.Done)
    (λ e. (stop : Stopped) × (e ≡ refusals.Halted stop) × (stop.taken ≡ 0)
    × (stop.why ≡ adds.Full → max_ops < size set))

-- what an event answers, and the sites after it: no other than the named one changes
abbrev pub Steps : Sites → EventValues → Result Answer StepRefusal → Sites → Type 0
Steps old (Site n) result new =
    MatchOption (site_refusal old n) (Adds old n result new) (λ why. Refuses old why result new)
Steps old (Insert n place symbol) result new = EditsSite old n (kinds.Insert place symbol) result new
Steps old (Delete n place) result new = EditsSite old n (kinds.Delete place) result new
Steps old (Set n key value) result new = EditsSite old n (kinds.Set key value) result new
Steps old (Give to ops) result new = MatchOption (fin.get old to) (Refuses old refusals.NoSite result new)
    (λ set. MatchBool (all_held old ops) ((given : Result Count StepRefusal) × (result ≡ taken given)
    × Brings old to ops given new) (Refuses old refusals.Strange result new))
Steps old (Restart n) result new =
    MatchOption (fin.get old n) (Refuses old refusals.NoSite result new) (λ set. IsReopened set result × (new ≡ old))
