-- The worked sets, computed.
use Rattle.std.proofs.Common.{◌≡◌, ℕ, List, [], ◌∷◌, map, length, refl, sym, ap, ◌∙◌, arith}
use Rattle.std.specs.FinMap as fin
use Rattle.desk_ops.specs.declared.op.Key.{Key}
use Rattle.desk_ops.specs.declared.op.Key.TheVariants.{Measure, Tight}
use Rattle.desk_ops.specs.declared.op.Op.{Op}
use Rattle.desk_ops.specs.declared.op.Op.TheVariants.{Delete, Set}
use Rattle.desk_ops.specs.Stamp.{same, head}
use Rattle.desk_ops.specs.Order.{op_cmp}
use Rattle.desk_ops.specs.OrderLaws.{op_total}
use Rattle.desk_ops.specs.OpSet.{OpSet, no_ops, with_op, with_all, in_order}
use Rattle.desk_ops.specs.Held.{is_clear, is_forked, is_borne, clear_ops, clear_inserts, way_end, live_inserts}
use Rattle.desk_ops.specs.Walk.{walk_from, walk}
use Rattle.desk_ops.specs.Shown.{is_deleted, shown, copy}
use Rattle.desk_ops.specs.Settings.{setting, setting_of}
use Rattle.desk_ops.specs.Faults.{copy_faults, faults_of}
use Rattle.desk_ops.specs.Worked.{at, typed, held, text, LaterSiblingFirst, FiveArrivals, ForkedStamp, WaitingThenLive, TombstonesKept, ConcurrentDeleteAndInsert, SettingsByStamps}

-- ---- a set from its list of arrivals

abbrev put_all : List (Op × Unit {0}) → List Op → List (Op × Unit {0})
put_all es [] = es
put_all es (o ∷ os) = put_all (fin.put op_cmp o tt es) os

entries-all : (h : OpSet) (os : List Op) → fin.entries (with_all h os) ≡ put_all (fin.entries h) os
entries-all h [] = refl
entries-all h (o ∷ os) = entries-all (with_op h o) os ∙ ap (λ es. put_all es os) (fin.entries-insert op_total h o tt)

no_entries : fin.entries no_ops ≡ []
no_entries = none (fin.entries no_ops) (sym (fin.len-entries no_ops) ∙ fin.len-empty op_cmp (Unit {0}))
  where
    none : (es : List (Op × Unit {0})) → length es ≡ 0 → es ≡ []
    none [] e = refl
    none (x ∷ es) e = absurd (omega arith)

abbrev sorted : List Op → List Op
sorted os = map (λ (e : Op × Unit {0}). e.0) (put_all [] os)

pub arrived : (os : List Op) → in_order (held os) ≡ sorted os
arrived os = ap (map (λ (e : Op × Unit {0}). e.0)) (entries-all no_ops os ∙ ap (λ es. put_all es os) no_entries)

-- ---- the copy, the faults, a setting

abbrev characters : List Op → List ℕ
characters ops = map (λ y. y.ch) (copy ops)

shows : (os : List Op) → text (held os) ≡ characters (sorted os)
shows os = ap characters (arrived os)

reports : (os : List Op) → faults_of (held os) ≡ copy_faults (sorted os)
reports os = ap copy_faults (arrived os)

says : (os : List Op) (key : Key) → setting_of (held os) key ≡ setting (sorted os) key
says os key = ap (λ ops. setting ops key) (arrived os)

pub later_sibling_first : LaterSiblingFirst
unfolding is_clear clear_ops clear_inserts way_end live_inserts walk is_deleted shown walk_from same
later_sibling_first = record {
  one = shows (typed (at 1 1) head 97 ∷ typed (at 2 1) (at 1 1) 98 ∷ typed (at 2 2) (at 1 1) 99 ∷ []);
  other = shows (typed (at 1 1) head 97 ∷ typed (at 2 2) (at 1 1) 99 ∷ typed (at 2 1) (at 1 1) 98 ∷ []);
}

pub five_arrivals : FiveArrivals
unfolding is_clear clear_ops clear_inserts way_end live_inserts walk is_deleted shown walk_from same
five_arrivals = record {
  first = shows (typed (at 1 1) head 97 ∷ []);
  second = shows (typed (at 1 1) head 97 ∷ typed (at 2 2) (at 1 1) 99 ∷ []);
  third = shows (typed (at 1 1) head 97 ∷ typed (at 2 2) (at 1 1) 99 ∷ typed (at 3 2) (at 2 2) 101 ∷ []);
  fourth = shows (typed (at 1 1) head 97 ∷ typed (at 2 2) (at 1 1) 99 ∷ typed (at 3 2) (at 2 2) 101 ∷ typed (at 2 1) (at 1 1) 98 ∷ []);
  fifth = shows (typed (at 1 1) head 97 ∷ typed (at 2 2) (at 1 1) 99 ∷ typed (at 3 2) (at 2 2) 101 ∷ typed (at 2 1) (at 1 1) 98 ∷ typed (at 4 3) head 122 ∷ []);
}

pub forked_stamp : ForkedStamp
unfolding is_clear is_forked is_borne clear_ops clear_inserts way_end live_inserts walk is_deleted shown walk_from copy_faults same
forked_stamp = record {
  shows = shows (typed (at 1 1) head 97 ∷ typed (at 2 1) (at 1 1) 98 ∷ typed (at 2 1) (at 1 1) 120 ∷ typed (at 3 2) (at 2 1) 99 ∷ []);
  faults = reports (typed (at 1 1) head 97 ∷ typed (at 2 1) (at 1 1) 98 ∷ typed (at 2 1) (at 1 1) 120 ∷ typed (at 3 2) (at 2 1) 99 ∷ []);
}

pub waiting_then_live : WaitingThenLive
unfolding is_clear is_forked is_borne clear_ops clear_inserts way_end live_inserts walk is_deleted shown walk_from copy_faults same
waiting_then_live = record {
  empty = shows (Delete (at 4 2) (at 3 1) ∷ typed (at 3 1) (at 2 1) 99 ∷ typed (at 2 1) (at 1 1) 98 ∷ []);
  waiting = reports (Delete (at 4 2) (at 3 1) ∷ typed (at 3 1) (at 2 1) 99 ∷ typed (at 2 1) (at 1 1) 98 ∷ []);
  shows = shows (Delete (at 4 2) (at 3 1) ∷ typed (at 3 1) (at 2 1) 99 ∷ typed (at 2 1) (at 1 1) 98 ∷ typed (at 1 1) head 97 ∷ []);
  none = reports (Delete (at 4 2) (at 3 1) ∷ typed (at 3 1) (at 2 1) 99 ∷ typed (at 2 1) (at 1 1) 98 ∷ typed (at 1 1) head 97 ∷ []);
}

pub tombstones_kept : TombstonesKept
unfolding is_clear clear_ops clear_inserts way_end live_inserts walk is_deleted shown walk_from same
tombstones_kept = shows (typed (at 1 1) head 97 ∷ typed (at 2 1) (at 1 1) 100 ∷ Delete (at 3 1) (at 1 1) ∷ typed (at 3 2) (at 1 1) 98 ∷ [])

pub concurrent_delete_and_insert : ConcurrentDeleteAndInsert
unfolding is_clear clear_ops clear_inserts way_end live_inserts walk is_deleted shown walk_from same
concurrent_delete_and_insert = shows (typed (at 1 1) head 97 ∷ Delete (at 2 1) (at 1 1) ∷ typed (at 2 2) (at 1 1) 98 ∷ [])

pub settings_by_stamp : SettingsByStamps
unfolding is_clear clear_ops setting same
settings_by_stamp = record {
  measure = says (Set (at 5 2) Measure 144 ∷ Set (at 5 1) Measure 120 ∷ []) Measure;
  tight = says (Set (at 5 2) Measure 144 ∷ Set (at 5 1) Measure 120 ∷ []) Tight;
}
