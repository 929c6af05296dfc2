-- What reading answers.
use Rattle.std.specs.Prelude.{◌≡◌, ℕ, ◌≤◌, List, ◌++◌, length, Result, Ok, Err}
use Rattle.desk_ops.specs.declared.op.Op.{Op}
use Rattle.desk_codec.specs.declared.fault.FeedFault.{FeedFault}
use Rattle.desk_codec.specs.declared.fault.ReadFault.{ReadFault}
use Rattle.desk_codec.specs.declared.fault.ReadFault.TheVariants.{Fault, Failed, NoMemory}
use Rattle.desk_codec.specs.declared.form.FeedForm.{FeedForm}
use Rattle.desk_codec.specs.Feed.{magic_of}
use Rattle.desk_codec.specs.Fault.{IsFirstFault}

-- a fault reported of bytes is their first; Failed is never reported, and out of memory may be reported of any
abbrev pub Reports : List ℕ → ReadFault → Type 0
Reports bytes (Fault fault) = IsFirstFault bytes fault
Reports bytes Failed = ⊥
Reports bytes NoMemory = Unit {0}

-- What a call returned, its value seen as operations, is this answer, unless memory ran out.
abbrev pub Answers : {V : Type 0} → (V → List Op) → Result V ReadFault → Result (List Op) FeedFault → Type 0
Answers view (Ok v) answer = answer ≡ Ok (view v)
Answers view (Err (Fault fault)) answer = answer ≡ Err fault
Answers view (Err Failed) answer = ⊥
Answers view (Err NoMemory) answer = Unit {0}

-- a magic stands there, and after it as many bytes as the shortest item takes: such bytes alone take memory
pub record MayHoldOne (bytes : List ℕ) : Type 0 where
  pub form : FeedForm
  pub body : List ℕ
  pub begins : bytes ≡ magic_of form ++ body
  pub long : 16 ≤ length body
