-- What each of two lists of operations has that the other has not, and what was passed of them.
use Rattle.std.specs.Prelude.{◌≡◌, ◌↔◌, ◌⊎◌, T, false, true, List}
use Rattle.std.specs.BTreeMap.{BTreeMap}
use Rattle.desk_held.specs.Passing.{missing_of}
use Rattle.desk_ops.specs.Lists.{Among}
use Rattle.desk_ops.specs.Op.{stamp_of}
use Rattle.desk_ops.specs.OpSet.{is_rising, no_ops, with_all}
use Rattle.desk_ops.specs.Shown.{deletes}
use Rattle.desk_ops.specs.Stamp.{before}
use Rattle.desk_ops.specs.declared.op.Op.{Op}
use Rattle.desk_ops.specs.declared.op.Stamp.{Stamp}
use Rattle.feed_readings.specs.Parts.{AreNews, IsBeside, is_target}
use Rattle.feed_readings.specs.declared.sides.Pass.{Pass}
use Rattle.feed_readings.specs.declared.sides.Sides.{Sides}

-- what the one list has that the other has not, with the targets of the deletes that both have, and what the other has
pub record AreSides {A : Type 0} (ones ops : List Op) (sides : Sides A) : Type 0 where
  pub olds : IsBeside (with_all no_ops ops) ones sides.olds
  pub news : AreNews (with_all no_ops ones) ops sides.news.items

-- Two lists were passed side by side. Both rise, and none of their stamps comes after the last. No two of their
-- operations bear one stamp. The olds are those of the one alone, the news those of the other, and the targets of what
-- both delete.
pub record ArePassed (ones ops : List Op) (last : Stamp) (olds news : List Op) (shared : BTreeMap Stamp (Unit {0})) :
    Type 0 where
  pub ones_rise : T (is_rising ones)
  pub ops_rise : T (is_rising ops)
  pub ones_end : (op : Op) → Among op ones → before last (stamp_of op) ≡ false
  pub ops_end : (op : Op) → Among op ops → before last (stamp_of op) ≡ false
  pub unforked : (o p : Op) → Among o ones ⊎ Among o ops → Among p ones ⊎ Among p ops → stamp_of o ≡ stamp_of p → o ≡ p
  pub ones_alone : olds ≡ missing_of (with_all no_ops ops) ones
  pub ops_alone : news ≡ missing_of (with_all no_ops ones) ops
  pub both : (s : Stamp) → (is_target shared s ≡ true)
      ↔ ((op : Op) × Among op ones × Among op ops × (deletes s op ≡ true))

abbrev pub IsPass : {A : Type 0} → List Op → List Op → Pass A → Type 0
IsPass ones ops pass = ArePassed ones ops pass.last pass.olds.items pass.news.items pass.shared
