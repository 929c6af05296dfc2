-- Changes of a copy, made by operations of one site.
use Rattle.std.specs.Prelude.{◌≡◌, ◌≤◌, ◌⊎◌, ℕ, ◌+◌, true, List, [], ◌∷◌, ◌++◌, length, Option, None, Some}
use Rattle.desk_ops.specs.declared.op.Stamp.{Stamp}
use Rattle.desk_ops.specs.declared.op.Symbol.{Symbol}
use Rattle.desk_ops.specs.declared.op.Op.{Op}
use Rattle.desk_ops.specs.declared.op.Op.TheVariants as kinds
use Rattle.desk_ops.specs.Op.{stamp_of}
use Rattle.desk_ops.specs.OpSet.{OpSet, IsWithin, has_op, with_all, with_op}
use Rattle.desk_ops.specs.Held.{greatest_counter_of}
use Rattle.desk_ops.specs.Shown.{copy_of}
use Rattle.text_copy.specs.Changes.{AreSparing, all_changed, between, changed}
use Rattle.text_copy.specs.Ends.{IsSharedEnd, IsSharedPrefix}
use Rattle.text_copy.specs.declared.making.Change.{Change}
use Rattle.text_copy.specs.declared.making.Change.TheVariants as changes
use Rattle.desk_replica.specs.Edits.{delete_refusal, insert_refusal}
use Rattle.desk_replica.specs.declared.Refusal.{Refusal}
use Rattle.desk_replica.specs.declared.Refusal.TheVariants as refusals
use Rattle.feed_edit.specs.declared.fault.RevisionFault.{RevisionFault}
use Rattle.feed_edit.specs.declared.fault.RevisionFault.TheVariants as revisions

-- ---- how many are inserts, and how many deletes

abbrev pub insert_count : Op → ℕ
insert_count (kinds.Insert stamp parent symbol) = 1
insert_count (kinds.Delete stamp target) = 0
insert_count (kinds.Set stamp key value) = 0

abbrev pub delete_count : Op → ℕ
delete_count (kinds.Insert stamp parent symbol) = 0
delete_count (kinds.Delete stamp target) = 1
delete_count (kinds.Set stamp key value) = 0

abbrev pub inserts_in : List Op → ℕ
inserts_in [] = 0
inserts_in (op ∷ ops) = insert_count op + inserts_in ops

abbrev pub deletes_in : List Op → ℕ
deletes_in [] = 0
deletes_in (op ∷ ops) = delete_count op + deletes_in ops

-- the same of changes

abbrev pub insert_count_of : Change → ℕ
insert_count_of (changes.Delete place) = 0
insert_count_of (changes.Insert place symbol) = 1

abbrev pub delete_count_of : Change → ℕ
delete_count_of (changes.Delete place) = 1
delete_count_of (changes.Insert place symbol) = 0

abbrev pub inserts_of : List Change → ℕ
inserts_of [] = 0
inserts_of (change ∷ made) = insert_count_of change + inserts_of made

abbrev pub deletes_of : List Change → ℕ
deletes_of [] = 0
deletes_of (change ∷ made) = delete_count_of change + deletes_of made

-- ---- operations of a site

-- by the site, and later than all that a set holds
abbrev pub stamp_after : ℕ → OpSet → Stamp
stamp_after site set = record { counter = greatest_counter_of set + 1; site = site }

-- operations that a site makes one after the other: each is later than all that are held then
abbrev pub AreOwn : ℕ → OpSet → List Op → Type 0
AreOwn site set [] = Unit {0}
AreOwn site set (op ∷ ops) = (stamp_of op ≡ stamp_after site set) × AreOwn site (with_op set op) ops

-- what a set holds that the old one does not is by the site, and all that the old one holds is there
pub record Extends (site : ℕ) (old now : OpSet) : Type 0 where
  pub kept : IsWithin old now
  pub own : (op : Op) → has_op now op ≡ true → (has_op old op ≡ true) ⊎ ((stamp_of op).site ≡ site)

-- ---- changes, made one after the other

-- a change was made by one operation of a site
pub record IsMade (site : ℕ) (old now : OpSet) (change : Change) (op : Op) : Type 0 where
  pub own : stamp_of op ≡ stamp_after site old
  pub gained : now ≡ with_op old op
  pub inserts : insert_count op ≡ insert_count_of change
  pub deletes : delete_count op ≡ delete_count_of change
  pub copy : changed change (copy_of old) ≡ Some (copy_of now)

-- changes were made, each by one operation of a site
pub record AreMade (site : ℕ) (old now : OpSet) (made : List Change) (ops : List Op) : Type 0 where
  pub own : AreOwn site old ops
  pub gained : now ≡ with_all old ops
  pub extends : Extends site old now
  pub count : length ops ≡ length made
  pub inserts : inserts_in ops ≡ inserts_of made
  pub deletes : deletes_in ops ≡ deletes_of made
  pub copy : all_changed made (copy_of old) ≡ Some (copy_of now)

-- the first cause that refuses a change in a set, out of memory aside
abbrev pub change_refusal : OpSet → Change → Option Refusal
change_refusal set (changes.Insert place symbol) = insert_refusal set place symbol
change_refusal set (changes.Delete place) = delete_refusal set place

-- a set refuses a change, with this first cause; or it does not, and memory ran out
abbrev pub IsRefusedBy : OpSet → Change → Refusal → Type 0
IsRefusedBy set change why = (change_refusal set change ≡ Some why)
    ⊎ ((why ≡ refusals.NoMemory) × (change_refusal set change ≡ None))

-- so many of the changes were made, by which the old set became this one, and the next one is refused in it
abbrev pub IsRefusedAmong : ℕ → OpSet → OpSet → List Change → Refusal → Type 0
IsRefusedAmong site old now made why =
    (prefix tail : List Change) × (next : Change) × (made ≡ prefix ++ next ∷ tail) × (ops : List Op)
    × AreMade site old now prefix ops × IsRefusedBy now next why

-- ---- a copy that becomes a text

-- The set's copy is the text. It holds all that the old one holds, and with that operations of the site alone, so many
-- inserts and so many deletes.
pub record IsRevised (site : ℕ) (old now : OpSet) (text : List Symbol) (inserted deleted : ℕ) : Type 0 where
  pub copy : copy_of now ≡ text
  pub extends : Extends site old now
  pub ops : List Op
  pub own : AreOwn site old ops
  pub gained : now ≡ with_all old ops
  pub inserts : inserts_in ops ≡ inserted
  pub deletes : deletes_in ops ≡ deleted
  pub all : inserted + deleted ≡ length ops

-- no more than two copies have symbols between what both begin with and what both end with
abbrev pub IsSparing : List Symbol → List Symbol → ℕ → Type 0
IsSparing from to count = (prefix suffix : ℕ) × IsSharedPrefix from to prefix × IsSharedEnd from to prefix suffix
    × (count ≤ between (prefix + suffix) from + between (prefix + suffix) to)

-- of changes that make the copy a text, and leave what both begin with, one is refused with this cause; and the set is
-- what those before it made of the old one
abbrev pub IsRefusedIn : ℕ → OpSet → OpSet → List Symbol → Refusal → Type 0
IsRefusedIn site old now text why = (made : List Change) × (all_changed made (copy_of old) ≡ Some text)
    × AreSparing (copy_of old) text made × IsRefusedAmong site old now made why

-- Why a copy does not become a text, and which set is left: a change is refused, and never for its place; or memory
-- ran out, before any change was made or at one that the set does not refuse.
abbrev pub IsUnrevised : ℕ → OpSet → OpSet → List Symbol → RevisionFault → Type 0
IsUnrevised site old now text revisions.Full = IsRefusedIn site old now text refusals.Full
IsUnrevised site old now text revisions.ClockFull = IsRefusedIn site old now text refusals.ClockFull
IsUnrevised site old now text revisions.Value = IsRefusedIn site old now text refusals.Value
IsUnrevised site old now text revisions.NoMemory = (now ≡ old) ⊎ IsRefusedIn site old now text refusals.NoMemory
