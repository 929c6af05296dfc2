-- Calls of a replica as values: what each answers and leaves, by what its contract says of site and operations.
-- What it says of spare is left aside. No kind of sequence stands in it: a contract is over every kind.
use Rattle.std.specs.Prelude.{◌≡◌, ℕ, Bool, ◌≤◌, ◌-◌, ◌↔◌, ◌⊎◌, false, List, [], ◌∷◌, length, take, drop, Option, None}
use Rattle.std.specs.Prelude.{Some, Result, IfOk, IfErr, OnOk, OnErr, IsOk, IsErrOf, ⊤}
use Rattle.std.specs.List.{list_all}
use Rattle.desk_memory.specs.declared.NoMemory.{NoMemory}
use Rattle.desk_ops.specs.declared.fault.CopyFault.{CopyFault}
use Rattle.desk_ops.specs.declared.op.Key.{Key}
use Rattle.desk_ops.specs.declared.op.Op.{Op}
use Rattle.desk_ops.specs.declared.op.Symbol.{Symbol}
use Rattle.desk_ops.specs.OpSet.{OpSet, has_op, with_op, with_all, in_order, size, max_ops}
use Rattle.desk_ops.specs.Shown.{copy_of}
use Rattle.desk_ops.specs.Faults.{faults_of}
use Rattle.desk_held.specs.declared.AddRefusal.TheVariants as adds
use Rattle.desk_held.specs.declared.join.Stopped.{Stopped}
use Rattle.desk_held.specs.Joining.{IsStopped}
use Rattle.desk_codec.specs.Runs.{set_feed}
use Rattle.desk_replica.specs.declared.Count.{Count}
use Rattle.desk_replica.specs.declared.Refusal.{Refusal}
use Rattle.desk_replica.specs.declared.Refusal.TheVariants as refusals
use Rattle.desk_replica.specs.declared.Took.{Took}
use Rattle.desk_replica.specs.declared.settings.Settings.{Settings as JobSettings}
use Rattle.desk_replica.specs.Edits.{insert_refusal, delete_refusal, set_refusal, IsInserted, IsDeleted, IsSetTo}
use Rattle.desk_replica.specs.JobSettings.{settings_of}
use Rattle.desk_replica.specs.State.{State, took_by, IsCounted}

-- a merge has the set of the replica that it reads
pub data Call : Type 0 where
  Insert : ℕ → Symbol → Call
  Delete : ℕ → Call
  Set : Key → ℕ → Call
  Take : Op → Call
  TakeAll : List Op → Call
  Merge : OpSet → Call
  Reserve : ℕ → Call
  Site : Call
  Length : Call
  HasAll : List Op → Call
  Text : Call
  Letters : Call
  Settings : Call
  Faults : Call
  Order : Call
  Range : ℕ → ℕ → Call
  Feed : Call

pub data Answer : Type 0 where
  Edited : Result Op Refusal → Answer
  Taken : Result Took Refusal → Answer
  Joined : Result Count Stopped → Answer
  Reserved : Result ⊤ NoMemory → Answer
  Symbols : Result (List Symbol) NoMemory → Answer
  CopyFaults : Result (List CopyFault) NoMemory → Answer
  Operations : Result (List Op) NoMemory → Answer
  Bytes : Result (List ℕ) NoMemory → Answer
  Number : ℕ → Answer
  Truth : Bool → Answer
  Values : JobSettings → Answer

-- the clauses site, made, allowed, same and refused of `insert_at`, `delete_at` and `set`
pub record IsEdited (old new : State) (cause : Option Refusal) (Made : Op → Type 0) (result : Result Op Refusal)
    : Type 0 where
  pub site : new.site ≡ old.site
  pub made : IfOk result Made
  pub allowed : OnOk result (cause ≡ None)
  pub same : OnErr result (new.ops ≡ old.ops)
  pub refused : IfErr result (λ e. (e ≡ refusals.NoMemory) ⊎ (cause ≡ Some e))

-- the clauses site, took, ok, err, full and causes of `take`
pub record IsTaken (old new : State) (op : Op) (result : Result Took Refusal) : Type 0 where
  pub site : new.site ≡ old.site
  pub took : IfOk result (λ t. t ≡ took_by old.ops op)
  pub ok : OnOk result (new.ops ≡ with_op old.ops op)
  pub err : OnErr result (new.ops ≡ old.ops)
  pub full : IsErrOf result refusals.Full ↔ ((has_op old.ops op ≡ false) × (size old.ops ≡ max_ops))
  pub causes : IfErr result (λ e. (e ≡ refusals.Full) ⊎ (e ≡ refusals.NoMemory))

-- the clauses site, ok, counts, within and stopped of `take_all`
-- those of `merge`, over the other's operations in order: there within is by the clauses of `len`
pub record IsJoined (old new : State) (ops : List Op) (result : Result Count Stopped) : Type 0 where
  pub site : new.site ≡ old.site
  pub ok : OnOk result (new.ops ≡ with_all old.ops ops)
  pub counts : IfOk result (λ c. IsCounted old.ops new.ops ops c)
  pub within : OnOk result (size new.ops ≤ max_ops)
  pub stopped : IfErr result (λ s. IsStopped old.ops new.ops ops s)

-- it is this answer, with a result of which P holds
abbrev pub IsAnswer : {X : Type 0} → (X → Answer) → (X → Type 0) → Answer → Type 0
IsAnswer {X} answered P answer = (result : X) × (answer ≡ answered result) × P result

-- the replica is only read: the answer is this, or memory for it was refused
abbrev pub IsRead : {X : Type 0} → State → State → (Result X NoMemory → Answer) → X → Answer → Type 0
IsRead {X} old new answered value answer =
    (new ≡ old) × IsAnswer answered (λ result. IfOk result (λ x. x ≡ value)) answer

-- what a call may answer, and the replica after it
abbrev pub Allows : State → Call → Answer → State → Type 0
Allows old (Insert place symbol) answer new =
    IsAnswer Edited (IsEdited old new (insert_refusal old.ops place symbol) (IsInserted old new place symbol)) answer
Allows old (Delete place) answer new =
    IsAnswer Edited (IsEdited old new (delete_refusal old.ops place) (IsDeleted old new place)) answer
Allows old (Set key value) answer new =
    IsAnswer Edited (IsEdited old new (set_refusal old.ops key value) (IsSetTo old new key value)) answer
Allows old (Take op) answer new = IsAnswer Taken (IsTaken old new op) answer
Allows old (TakeAll ops) answer new = IsAnswer Joined (IsJoined old new ops) answer
Allows old (Merge other) answer new = IsAnswer Joined (IsJoined old new (in_order other)) answer
-- the clauses site and ops of `reserve`
Allows old (Reserve n) answer new =
    IsAnswer Reserved (λ result. (new.site ≡ old.site) × (new.ops ≡ old.ops)) answer
-- the clause value of `site` and of `len`, and that of `has_all`
Allows old Site answer new = (new ≡ old) × (answer ≡ Number old.site)
Allows old Length answer new = (new ≡ old) × (answer ≡ Number (size old.ops))
Allows old (HasAll ops) answer new = (new ≡ old) × (answer ≡ Truth (list_all (has_op old.ops) ops))
-- the clause copy of `copy`, and those of `copy_len` and `settings`
Allows old Text answer new = IsRead old new Symbols (copy_of old.ops) answer
Allows old Letters answer new = (new ≡ old) × (answer ≡ Number (length (copy_of old.ops)))
Allows old Settings answer new = (new ≡ old) × (answer ≡ Values (settings_of old.ops))
-- the clause faults of `copy_faults`, items of `in_order` and `range`, bytes of `write_feed`
Allows old Faults answer new = IsRead old new CopyFaults (faults_of old.ops) answer
Allows old Order answer new = IsRead old new Operations (in_order old.ops) answer
Allows old (Range from until) answer new =
    IsRead old new Operations (take (until - from) (drop from (in_order old.ops))) answer
Allows old Feed answer new = IsRead old new Bytes (set_feed old.ops) answer

-- each call has one answer, and begins with what those before it left
abbrev pub Runs : State → List Call → List Answer → State → Type 0
Runs old [] [] new = new ≡ old
Runs old [] (answer ∷ answers) new = ⊥
Runs old (call ∷ calls) [] new = ⊥
Runs old (call ∷ calls) (answer ∷ answers) new =
    (between : State) × Allows old call answer between × Runs between calls answers new

-- the answer is no refusal for memory
abbrev pub HasMemory : Answer → Type 0
HasMemory (Edited result) = IfErr result (λ e. e ≡ refusals.NoMemory → ⊥)
HasMemory (Taken result) = IfErr result (λ e. e ≡ refusals.NoMemory → ⊥)
HasMemory (Joined result) = IfErr result (λ s. s.why ≡ adds.NoMemory → ⊥)
HasMemory (Reserved result) = IsOk result
HasMemory (Symbols result) = IsOk result
HasMemory (CopyFaults result) = IsOk result
HasMemory (Operations result) = IsOk result
HasMemory (Bytes result) = IsOk result
HasMemory (Number n) = ⊤
HasMemory (Truth is) = ⊤
HasMemory (Values settings) = ⊤
