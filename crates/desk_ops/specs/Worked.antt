-- Worked sets: the operations in their order of arrival, and what they show.
use Rattle.std.specs.Prelude.{◌≡◌, ℕ, List, [], ◌∷◌, map, Some, None}
use Rattle.desk_ops.specs.declared.op.Stamp.{Stamp}
use Rattle.desk_ops.specs.declared.op.Style.TheVariants.{Roman}
use Rattle.desk_ops.specs.declared.op.Key.TheVariants.{Measure, Tight}
use Rattle.desk_ops.specs.declared.op.Op.{Op}
use Rattle.desk_ops.specs.declared.op.Op.TheVariants.{Insert, Delete, Set}
use Rattle.desk_ops.specs.declared.fault.FaultKind.{FaultKind}
use Rattle.desk_ops.specs.declared.fault.FaultKind.TheVariants.{Forked, Void, Waiting}
use Rattle.desk_ops.specs.declared.fault.CopyFault.{CopyFault}
use Rattle.desk_ops.specs.Stamp.{head}
use Rattle.desk_ops.specs.OpSet.{OpSet, no_ops, with_all}
use Rattle.desk_ops.specs.Shown.{copy_of}
use Rattle.desk_ops.specs.Settings.{setting_of}
use Rattle.desk_ops.specs.Faults.{faults_of}

abbrev pub at : ℕ → ℕ → Stamp
at counter site = record { counter = counter; site = site }

-- an insert of a Roman character
abbrev pub typed : Stamp → Stamp → ℕ → Op
typed stamp parent ch = Insert stamp parent (record { style = Roman; ch = ch })

abbrev pub held : List Op → OpSet
held ops = with_all no_ops ops

-- the characters of the copy
abbrev pub text : OpSet → List ℕ
text h = map (λ y. y.ch) (copy_of h)

abbrev pub fault : Stamp → FaultKind → CopyFault
fault stamp kind = record { stamp = stamp; kind = kind }

-- of two that hang on one element the later stands first, whichever came first
pub record LaterSiblingFirst : Type 0 where
  pub one : text (held (typed (at 1 1) head 97 ∷ typed (at 2 1) (at 1 1) 98 ∷ typed (at 2 2) (at 1 1) 99 ∷ []))
      ≡ 97 ∷ 99 ∷ 98 ∷ []
  pub other : text (held (typed (at 1 1) head 97 ∷ typed (at 2 2) (at 1 1) 99 ∷ typed (at 2 1) (at 1 1) 98 ∷ []))
      ≡ 97 ∷ 99 ∷ 98 ∷ []

-- a, ac, ace, aceb, zaceb
pub record FiveArrivals : Type 0 where
  pub first : text (held (typed (at 1 1) head 97 ∷ [])) ≡ 97 ∷ []
  pub second : text (held (typed (at 1 1) head 97 ∷ typed (at 2 2) (at 1 1) 99 ∷ [])) ≡ 97 ∷ 99 ∷ []
  pub third : text (held (typed (at 1 1) head 97 ∷ typed (at 2 2) (at 1 1) 99 ∷ typed (at 3 2) (at 2 2) 101 ∷ []))
      ≡ 97 ∷ 99 ∷ 101 ∷ []
  pub fourth : text (held (typed (at 1 1) head 97 ∷ typed (at 2 2) (at 1 1) 99 ∷ typed (at 3 2) (at 2 2) 101
      ∷ typed (at 2 1) (at 1 1) 98 ∷ [])) ≡ 97 ∷ 99 ∷ 101 ∷ 98 ∷ []
  pub fifth : text (held (typed (at 1 1) head 97 ∷ typed (at 2 2) (at 1 1) 99 ∷ typed (at 3 2) (at 2 2) 101
      ∷ typed (at 2 1) (at 1 1) 98 ∷ typed (at 4 3) head 122 ∷ [])) ≡ 122 ∷ 97 ∷ 99 ∷ 101 ∷ 98 ∷ []

-- a forked stamp acts not at all, and what hangs on it is void
pub record ForkedStamp : Type 0 where
  pub shows : text (held (typed (at 1 1) head 97 ∷ typed (at 2 1) (at 1 1) 98 ∷ typed (at 2 1) (at 1 1) 120
      ∷ typed (at 3 2) (at 2 1) 99 ∷ [])) ≡ 97 ∷ []
  pub faults : faults_of (held (typed (at 1 1) head 97 ∷ typed (at 2 1) (at 1 1) 98 ∷ typed (at 2 1) (at 1 1) 120
      ∷ typed (at 3 2) (at 2 1) 99 ∷ [])) ≡ fault (at 2 1) Forked ∷ fault (at 3 2) Void ∷ []

-- what waits shows nothing; once what it hangs on has come it is live
pub record WaitingThenLive : Type 0 where
  pub empty : text (held (Delete (at 4 2) (at 3 1) ∷ typed (at 3 1) (at 2 1) 99 ∷ typed (at 2 1) (at 1 1) 98 ∷ [])) ≡ []
  pub waiting : faults_of (held (Delete (at 4 2) (at 3 1) ∷ typed (at 3 1) (at 2 1) 99 ∷ typed (at 2 1) (at 1 1) 98
      ∷ [])) ≡ fault (at 2 1) Waiting ∷ fault (at 3 1) Waiting ∷ fault (at 4 2) Waiting ∷ []
  pub shows : text (held (Delete (at 4 2) (at 3 1) ∷ typed (at 3 1) (at 2 1) 99 ∷ typed (at 2 1) (at 1 1) 98
      ∷ typed (at 1 1) head 97 ∷ [])) ≡ 97 ∷ 98 ∷ []
  pub none : faults_of (held (Delete (at 4 2) (at 3 1) ∷ typed (at 3 1) (at 2 1) 99 ∷ typed (at 2 1) (at 1 1) 98
      ∷ typed (at 1 1) head 97 ∷ [])) ≡ []

-- what hangs on a deleted element keeps its place: bd
abbrev pub TombstonesKept : Type 0
TombstonesKept = text (held (typed (at 1 1) head 97 ∷ typed (at 2 1) (at 1 1) 100 ∷ Delete (at 3 1) (at 1 1)
    ∷ typed (at 3 2) (at 1 1) 98 ∷ [])) ≡ 98 ∷ 100 ∷ []

-- a delete at one site and an insert at another act both
abbrev pub ConcurrentDeleteAndInsert : Type 0
ConcurrentDeleteAndInsert = text (held (typed (at 1 1) head 97 ∷ Delete (at 2 1) (at 1 1) ∷ typed (at 2 2) (at 1 1) 98
    ∷ [])) ≡ 98 ∷ []

-- the greater stamp's value stays, whatever came last
pub record SettingsByStamps : Type 0 where
  pub measure : setting_of (held (Set (at 5 2) Measure 144 ∷ Set (at 5 1) Measure 120 ∷ [])) Measure ≡ Some 144
  pub tight : setting_of (held (Set (at 5 2) Measure 144 ∷ Set (at 5 1) Measure 120 ∷ [])) Tight ≡ None
