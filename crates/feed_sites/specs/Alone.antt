-- The operations that one set holds and another does not, by the stamps that they bear.
use Rattle.std.specs.Prelude.{◌≡◌, ◌↔◌, Bool, true, false, not, if◌then◌else◌, List, [], ◌∷◌}
use Rattle.std.specs.List.{filter}
use Rattle.std.specs.List.Sorted.{IsStrictlySortedBy}
use Rattle.std.specs.Ordering.{eq_by_cmp, is_lt}
use Rattle.desk_ops.specs.declared.op.Op.{Op}
use Rattle.desk_ops.specs.Lists.{Among}
use Rattle.desk_ops.specs.Op.{stamp_of}
use Rattle.desk_ops.specs.OpSet.{OpSet, has_op}
use Rattle.desk_ops.specs.Order.{op_cmp}
use Rattle.desk_codec.specs.Runs.{is_among}
use Rattle.feed_edit.specs.Stamps.{site_cmp, site_stamp_of}
use Rattle.feed_edit.specs.declared.stamps.SiteStamp.{SiteStamp}

abbrev pub site_stamp : Op → SiteStamp
site_stamp op = site_stamp_of (stamp_of op)

-- an operation that the one set holds, and the other does not, bears the stamp
abbrev pub IsAlone : OpSet → OpSet → SiteStamp → Type 0
IsAlone one other stamp = (op : Op) × (has_op one op ≡ true) × (has_op other op ≡ false) × (site_stamp op ≡ stamp)

-- the stamps of all such operations, by site and then by counter, each once
pub record AreAlone (one other : OpSet) (stamps : List SiteStamp) : Type 0 where
  pub rise : IsStrictlySortedBy site_cmp stamps
  pub all : (stamp : SiteStamp) → Among stamp stamps ↔ IsAlone one other stamp

-- ---- of lists

-- the operations of one list that another has not
abbrev pub alone : List Op → List Op → List Op
alone one other = filter (λ op. not (is_among op other)) one

-- the stamp of an operation, unless it is held
abbrev pub alone_stamp : Op → Bool → List SiteStamp
alone_stamp op held = if held then [] else site_stamp op ∷ []

-- operations from the first on that does not come before one
abbrev pub skip : Op → List Op → List Op
skip op [] = []
skip op (first ∷ ops) = if is_lt (op_cmp first op) then skip op ops else first ∷ ops

abbrev pub begins : Op → List Op → Bool
begins op [] = false
begins op (first ∷ ops) = eq_by_cmp op_cmp op first
