-- What a replica is: a site, and the operations that it holds.
use Rattle.std.specs.Prelude.{◌≡◌, ℕ, ◌+◌, ◌<◌, ◌≤◌, ◌⊎◌, true, false, cond, refl, List, [], ◌∷◌, length}
use Rattle.std.specs.Prelude.{slice_index_or}
use Rattle.std.specs.Coded.{Coded, code_by, coded×, coded_ℕ}
use Rattle.desk_ops.specs.declared.op.Op.{Op}
use Rattle.desk_ops.specs.Op.{stamp_of}
use Rattle.desk_ops.specs.Stamp.{before}
use Rattle.desk_ops.specs.OpSet.{OpSet, op_set_code, has_op, with_op, size, AllLawful, max_ops}
use Rattle.desk_ops.specs.Held.{is_borne_in}
use Rattle.desk_held.specs.declared.AddRefusal.{AddRefusal}
use Rattle.desk_held.specs.declared.AddRefusal.TheVariants as add
use Rattle.desk_replica.specs.declared.Count.{Count}
use Rattle.desk_replica.specs.declared.Refusal.{Refusal}
use Rattle.desk_replica.specs.declared.Refusal.TheVariants.{Full, NoMemory}
use Rattle.desk_replica.specs.declared.Took.{Took}
use Rattle.desk_replica.specs.declared.Took.TheVariants.{New, Known}

-- and how many more operations it takes with no new memory, where none of them forks a stamp
pub record State : Type 0 where
  pub site : ℕ
  pub ops : OpSet
  pub spare : ℕ

abbrev pub state_code : Coded State
state_code =
    code_by (ℕ × (OpSet × ℕ)) (coded× coded_ℕ (coded× op_set_code coded_ℕ)) (λ s. (s.site, (s.ops, s.spare)))
    (λ p. record { site = p.0; ops = p.1.0; spare = p.1.1 }) (λ _. refl)

-- no site has the number 0, and each operation is lawful
pub record IsKept (site : ℕ) (ops : OpSet) : Type 0 where
  pub numbered : 1 ≤ site
  pub lawful : AllLawful ops

-- what taking in an operation is
abbrev pub took_by : OpSet → Op → Took
took_by ops op = cond (has_op ops op) Known New

-- what a refusal of the set is to one who takes in
abbrev pub refusal_of : AddRefusal → Refusal
refusal_of add.Full = Full
refusal_of add.NoMemory = NoMemory

-- the counts of a list that was taken in, by the sets before and after
pub record IsCounted (old after : OpSet) (ops : List Op) (count : Count) : Type 0 where
  pub news : count.new + size old ≡ size after
  pub all : count.new + count.known ≡ length ops

-- no operation of the list forks a stamp, where they are taken in one after the other
abbrev pub ForksNone : OpSet → List Op → Type 0
ForksNone ops [] = Unit {0}
ForksNone ops (op ∷ rest) = ((has_op ops op ≡ true) ⊎ (is_borne_in ops (stamp_of op) ≡ false))
    × ForksNone (with_op ops op) rest

-- each operation's stamp is greater than that of the one before it
abbrev pub RiseByStamp : List Op → Type 0
RiseByStamp ops = (i : ℕ) (d : Op) → i + 1 < length ops
    → before (stamp_of (slice_index_or ops i d)) (stamp_of (slice_index_or ops (i + 1) d)) ≡ true

-- no operation of the list bears a stamp that is borne, where they are taken in one after the other
abbrev pub AreApart : OpSet → List Op → Type 0
AreApart ops [] = Unit {0}
AreApart ops (op ∷ rest) = (is_borne_in ops (stamp_of op) ≡ false) × AreApart (with_op ops op) rest

-- all of the list can be held, there is room for as many with no new memory, and none forks a stamp
pub record HasRoom (ops : OpSet) (room : ℕ) (list : List Op) : Type 0 where
  pub below : size ops + length list ≤ max_ops
  pub spare : length list ≤ room
  pub unforked : ForksNone ops list
