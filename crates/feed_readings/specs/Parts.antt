-- What tells two sets apart: what each has alone, and what is deleted.
use Rattle.std.specs.Prelude.{◌≡◌, ◌↔◌, All, Bool, true, false, not, ◌&&◌, ◌||◌, List}
use Rattle.std.specs.BTreeMap.{BTreeMap, get}
use Rattle.std.specs.List.{list_any}
use Rattle.std.specs.Option.{is_some}
use Rattle.desk_held.specs.Passing.{IsMissing}
use Rattle.desk_ops.specs.Held.{IsUnforked, is_borne_in}
use Rattle.desk_ops.specs.Live.{insert_of}
use Rattle.desk_ops.specs.Op.{Insertion, IsLawful, stamp_of}
use Rattle.desk_ops.specs.OpSet.{OpSet, has_op, union}
use Rattle.desk_ops.specs.Shown.{deletes}
use Rattle.desk_ops.specs.contracts.op.StampOrd.TheImpl as stamp_ord
use Rattle.desk_ops.specs.declared.op.Op.{Op}
use Rattle.desk_ops.specs.declared.op.Op.TheVariants.{Delete, Insert, Set}
use Rattle.desk_ops.specs.declared.op.Stamp.{Stamp}
use Rattle.desk_seq.specs.declared.Entry.{Entry}
use Rattle.feed_readings.specs.Merged.{in_common}
use Rattle.feed_readings.specs.declared.parts.Beside.{Beside}
use Rattle.feed_readings.specs.declared.parts.Parts.{Parts}

-- ---- targets of deletes

-- whether a stamp is among targets
abbrev pub is_target : BTreeMap Stamp (Unit {0}) → Stamp → Bool
is_target targets stamp = is_some (get (stamp_ord.ghosts).cmp targets stamp)

-- they are the targets of the deletes of a list
abbrev pub AreTargets : List Op → BTreeMap Stamp (Unit {0}) → Type 0
AreTargets ops targets = (stamp : Stamp) → is_target targets stamp ≡ list_any (deletes stamp) ops

-- whether a delete that a set holds targets the stamp
abbrev pub deletes_held : OpSet → Stamp → Op → Bool
deletes_held set stamp op = deletes stamp op && has_op set op

-- they are the targets of those deletes of a list that a set holds
abbrev pub AreShared : OpSet → List Op → BTreeMap Stamp (Unit {0}) → Type 0
AreShared set ops targets = (stamp : Stamp) → is_target targets stamp ≡ list_any (deletes_held set stamp) ops

-- ---- inserts that hang on what another set has alone

-- an insert whose parent the set bears
abbrev pub hangs_on : OpSet → Op → Bool
hangs_on set (Insert stamp parent symbol) = is_borne_in set parent
hangs_on set (Delete stamp target) = false
hangs_on set (Set stamp key value) = false

-- ---- what two sets have alone

-- what a list has that a set has not, and the targets of the deletes that both have; no stamp of the set is forked
pub record IsBeside {A : Type 0} (set : OpSet) (ops : List Op) (beside : Beside A) : Type 0 where
  pub unforked : IsUnforked set
  pub missing : IsMissing set ops beside.alone.items
  pub shared : AreShared set ops beside.shared
  pub lawful : All IsLawful beside.alone.items

-- what a list has that a set has not, of which nothing bears a stamp of the set; no stamp of the set is forked
pub record AreNews (set : OpSet) (ops news : List Op) : Type 0 where
  pub unforked : IsUnforked set
  pub missing : IsMissing set ops news
  pub fresh : list_any (λ op. is_borne_in set (stamp_of op)) news ≡ false
  pub lawful : All IsLawful news

-- a delete that a set holds targets the stamp
abbrev pub Deletes : OpSet → Stamp → Type 0
Deletes set stamp = (op : Op) × (has_op set op ≡ true) × (deletes stamp op ≡ true)

-- The union forks no stamp. These are what the other set has alone, and what the one has. No insert of a set hangs on
-- what the set has not. And the targets are those of the deletes of each, and of what both have in common.
pub record AreParts {A : Type 0} (one other : OpSet) (parts : Parts A) : Type 0 where
  pub unforked : IsUnforked (union one other)
  pub news : (op : Op) → has_op parts.news op ≡ (has_op other op && not (has_op one op))
  pub olds : (op : Op) → has_op parts.olds op ≡ (has_op one op && not (has_op other op))
  pub closed_one : (x : Insertion) → has_op one (insert_of x) ≡ true → is_borne_in parts.news x.parent ≡ false
  pub closed_other : (x : Insertion) → has_op other (insert_of x) ≡ true → is_borne_in parts.olds x.parent ≡ false
  pub by_news : (s : Stamp) → (is_target parts.by_news s ≡ true) ↔ Deletes parts.news s
  pub by_olds : (s : Stamp) → (is_target parts.by_olds s ≡ true) ↔ Deletes parts.olds s
  pub by_both : (s : Stamp) → (is_target parts.by_both s ≡ true) ↔ Deletes (in_common one other) s

-- ---- what they say of an element of the union's walk

-- whether the one shows it: it is not of the other alone, and no delete of the one targets it
abbrev pub one_shows : {A : Type 0} → Parts A → Entry → Bool
one_shows parts e = not (is_borne_in parts.news e.stamp)
    && not (e.deleted && (is_target parts.by_both e.stamp || is_target parts.by_olds e.stamp))

abbrev pub other_shows : {A : Type 0} → Parts A → Entry → Bool
other_shows parts e = not (is_borne_in parts.olds e.stamp)
    && not (e.deleted && (is_target parts.by_both e.stamp || is_target parts.by_news e.stamp))

-- whether what both have in common does
abbrev pub base_shows : {A : Type 0} → Parts A → Entry → Bool
base_shows parts e = not (is_borne_in parts.news e.stamp || is_borne_in parts.olds e.stamp)
    && not (e.deleted && is_target parts.by_both e.stamp)
