-- The walk of a set's first operations, kept by links: the head's node first, then one for each operation.
use Rattle.std.specs.Prelude.{◌≡◌, ◌⊎◌, ℕ, zero, suc, ◌+◌, ◌-◌, ◌<◌, ◌≤◌, Bool, true, false, ◌&&◌, List, [], ◌∷◌, ◌++◌}
use Rattle.std.specs.Prelude.{map, length, take, drop, slice_index_or, slice_set, Some}
use Rattle.std.specs.List.{AllByRecursion, filter}
use Rattle.std.specs.Option.{is_some}
use Rattle.desk_ops.specs.declared.op.Stamp.{Stamp}
use Rattle.desk_ops.specs.declared.op.Symbol.{Symbol}
use Rattle.desk_ops.specs.declared.op.Key.TheVariants.{Measure}
use Rattle.desk_ops.specs.declared.op.Op.{Op}
use Rattle.desk_ops.specs.declared.op.Op.TheVariants.{Insert, Delete, Set}
use Rattle.desk_ops.specs.Stamp.{head}
use Rattle.desk_ops.specs.Op.{stamp_of, target_of, Insertion, IsLawful, space}
use Rattle.desk_ops.specs.OpSet.{OpSet, no_ops, has_op, with_all, in_order, size, AllLawful, max_ops}
use Rattle.desk_ops.specs.Lists.{Among}
use Rattle.desk_ops.specs.Held.{is_clear_in}
use Rattle.desk_ops.specs.Live.{insert_of}
use Rattle.desk_walk.specs.Waiting.{HasTarget}
use Rattle.desk_seq.specs.declared.Entry.{Entry}
use Rattle.desk_seq.specs.Entries.{stamps_of, AreDistinct}
use Rattle.desk_walk.specs.declared.tree.Node.{Node}
use Rattle.desk_walk.specs.Following.{IsSettled, IsFollowing}

abbrev pub no_op : Op
no_op = Set head Measure 0

abbrev pub op_at : List Op → ℕ → Op
op_at ops k = slice_index_or ops k no_op

-- an insert's symbol, and a space of what is none
abbrev pub symbol_of : Op → Symbol
symbol_of (Insert stamp parent symbol) = symbol
symbol_of (Delete stamp target) = space
symbol_of (Set stamp key value) = space

-- the entry of an insert
abbrev pub entry_by : Op → Bool → Entry
entry_by op deleted = record { stamp = stamp_of op; symbol = symbol_of op; deleted = deleted }

-- ---- nodes

abbrev pub no_node : Node
no_node = record { next = 0; linked = false; deleted = false }

abbrev pub node_at : List Node → ℕ → Node
node_at nodes k = slice_index_or nodes k no_node

abbrev pub next_of : List Node → ℕ → ℕ
next_of nodes k = (node_at nodes k).next

-- the indexes that n links from k on lead to
unfoldable pub links : List Node → ℕ → ℕ → List ℕ
links nodes k zero = []
links nodes k (suc n) = next_of nodes k ∷ links nodes (next_of nodes k) n

-- the nodes after the head's, in the order of the walk
abbrev pub order : List Node → ℕ → List ℕ
order nodes count = links nodes 0 count

-- the stamp of a node
abbrev pub stamp_at : List Op → ℕ → Stamp
stamp_at ops zero = head
stamp_at ops (suc k) = stamp_of (op_at ops k)

-- the entry of a node after the head's
abbrev pub entry_at : List Op → List Node → ℕ → Entry
entry_at ops nodes k = entry_by (op_at ops (k - 1)) (node_at nodes k).deleted

abbrev pub walked : OpSet → List Node → ℕ → List Entry
walked h nodes count = map (entry_at (in_order h) nodes) (order nodes count)

-- no number stands twice
abbrev pub IsApart : List ℕ → Type 0
IsApart [] = Unit {0}
IsApart (k ∷ ks) = (Among k ks → ⊥) × IsApart ks

-- with a node that does not stand in the walk
abbrev pub passed : List Node → List Node
passed nodes = nodes ++ no_node ∷ []

-- with a node that stands directly after the p-th
abbrev pub linked : List Node → ℕ → List Node
linked nodes p =
    slice_set (nodes ++ record { next = next_of nodes p; linked = true; deleted = false } ∷ []) p
    (record { next = length nodes; linked = (node_at nodes p).linked; deleted = (node_at nodes p).deleted })

-- the p-th is deleted
abbrev pub crossed : List Node → ℕ → List Node
crossed nodes p =
    slice_set nodes p (record { next = next_of nodes p; linked = (node_at nodes p).linked; deleted = true })

-- what an operation does that hangs on the p-th
abbrev pub IsActing : Op → ℕ → List Node → ℕ → List Node → ℕ → Type 0
IsActing (Insert stamp parent symbol) p old n new m = (new ≡ linked old p) × (m ≡ n + 1)
IsActing (Delete stamp target) p old n new m = (new ≡ passed (crossed old p)) × (m ≡ n)
IsActing (Set stamp key value) p old n new m = (new ≡ passed (crossed old p)) × (m ≡ n)

-- ---- the walk of a set's first operations

-- whether an operation is a clear insert or delete
abbrev pub hangs : OpSet → Op → Bool
hangs h op = is_clear_in h (stamp_of op) && is_some (target_of op)

-- what waits, or was not looked at yet
abbrev pub waits_at : OpSet → List Op → ℕ → Op → Bool
waits_at h waiting i = has_op (with_all no_ops (waiting ++ filter (hangs h) (drop i (in_order h))))

-- the node is of a clear insert
abbrev pub IsClearAt : OpSet → ℕ → Type 0
IsClearAt h k = (x : Insertion) × (op_at (in_order h) (k - 1) ≡ insert_of x) × (is_clear_in h x.stamp ≡ true)

-- the links lead from the head through the nodes that stand in the walk, once each
pub record IsTree (h : OpSet) (nodes : List Node) (count : ℕ) : Type 0 where
  pub some : 0 < length nodes
  pub within : AllByRecursion (λ k. k < length nodes) (order nodes count)
  pub apart : IsApart (0 ∷ order nodes count)
  pub linked : (k : ℕ) → k < length nodes → (node_at nodes k).linked ≡ true → Among k (0 ∷ order nodes count)
  pub on : AllByRecursion (λ k. (node_at nodes k).linked ≡ true) (0 ∷ order nodes count)
  pub clear : AllByRecursion (IsClearAt h) (order nodes count)

-- the first i operations were looked at: the walk follows the set, but for what waits and what was not looked at
pub record IsLinking (h : OpSet) (i : ℕ) (nodes : List Node) (count : ℕ) (waiting : List Op) : Type 0 where
  pub lawful : AllLawful h
  pub small : size h ≤ max_ops
  pub long : length nodes ≡ i + 1
  pub counted : count ≤ i
  pub few : length waiting ≤ i
  pub tree : IsTree h nodes count
  pub distinct : AreDistinct (walked h nodes count)
  pub follows : IsFollowing h (waits_at h waiting i) (walked h nodes count)
  pub seen : (o : Op) → Among o waiting → Among o (take i (in_order h))
  pub idle : (o : Op) → Among o waiting → (t : Stamp) → target_of o ≡ Some t → (t ≡ head)
      ⊎ Among t (stamps_of (walked h nodes count)) → ⊥

-- the p-th stands in the walk and bears the stamp
pub record IsPlaceOf (ops : List Op) (nodes : List Node) (s : Stamp) (p : ℕ) : Type 0 where
  pub within : p < length nodes
  pub linked : (node_at nodes p).linked ≡ true
  pub bears : stamp_at ops p ≡ s

-- the entries are the set's walk, and what waits are these
pub record AreSettled (h : OpSet) (es : List Entry) (waiting : List Op) : Type 0 where
  pub settled : IsSettled h es (with_all no_ops waiting)
  pub distinct : AreDistinct es
  pub lawful : AllByRecursion IsLawful waiting
  pub targets : AllByRecursion HasTarget waiting
  pub few : length waiting ≤ size h
