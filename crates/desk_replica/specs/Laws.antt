-- Convergence: what replicas answer depends on which operations they hold, and on nothing else.
-- No kind of sequence changes it.
use Rattle.std.specs.Prelude.{◌≡◌, ◌↔◌, List, ◌++◌}
use Rattle.std.specs.List.{AllByRecursion}
use Rattle.desk_ops.specs.declared.op.Op.{Op}
use Rattle.desk_ops.specs.OpSet.{OpSet, has_op, with_all, union, in_order}
use Rattle.desk_ops.specs.Lists.{Among}
use Rattle.desk_ops.specs.Shown.{copy_of}
use Rattle.desk_ops.specs.Faults.{faults_of}
use Rattle.desk_codec.specs.Runs.{set_feed}
use Rattle.desk_replica.specs.JobSettings.{settings_of}
use Rattle.desk_replica.specs.State.{State}
use Rattle.desk_replica.specs.Calls.{Call, Answer, Runs, HasMemory}

-- replicas of the two sets have the same copy, copy faults, settings, order of operations and feed
pub record AnswerAlike (h g : OpSet) : Type 0 where
  pub copy : copy_of h ≡ copy_of g
  pub faults : faults_of h ≡ faults_of g
  pub settings : settings_of h ≡ settings_of g
  pub order : in_order h ≡ in_order g
  pub feed : set_feed h ≡ set_feed g

-- what stands in the one stands in the other, in whatever order and however often
abbrev pub HaveSameMembers : List Op → List Op → Type 0
HaveSameMembers os ps = (op : Op) → Among op os ↔ Among op ps

pub record Convergence : Type 0 where
  -- replicas that hold the same operations
  pub equal_sets : (h g : OpSet) → ((op : Op) → has_op h op ≡ has_op g op) → (h ≡ g) × AnswerAlike h g
  -- lists of the same operations, taken in: in whatever order, however often, and in whatever parts
  pub any_order : (h : OpSet) (os ps : List Op) → HaveSameMembers os ps → (with_all h os ≡ with_all h ps)
      × AnswerAlike (with_all h os) (with_all h ps)
  pub in_parts : (h : OpSet) (os ps : List Op) → with_all (with_all h os) ps ≡ with_all h (os ++ ps)
  -- replicas merged: either into the other, in whatever groups, and again
  pub either_way : (h g : OpSet) → (union h g ≡ union g h) × AnswerAlike (union h g) (union g h)
  pub in_groups : (h g k : OpSet) → (union (union h g) k ≡ union h (union g k))
      × AnswerAlike (union (union h g) k) (union h (union g k))
  pub again : (h g : OpSet) → (union (union h g) g ≡ union h g) × (union h h ≡ h)

-- the same calls of two replicas of one site and equal operations, over whatever kinds of sequence, where neither is
-- refused memory: the answers are equal, and so are site and operations after them
pub record OneRun : Type 0 where
  pub alike : (s t u v : State) (calls : List Call) (answers others : List Answer) → s.site ≡ t.site → s.ops ≡ t.ops
      → Runs s calls answers u → Runs t calls others v
      → AllByRecursion HasMemory answers → AllByRecursion HasMemory others
      → (answers ≡ others) × ((u.site ≡ v.site) × (u.ops ≡ v.ops))
