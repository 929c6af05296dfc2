-- The worked log, computed.
use Rattle.std.proofs.Common.{◌≡◌, ℕ, List, [], ◌∷◌, map, refl, ap, ◌∙◌, true, false}
use Rattle.std.specs.Prelude.{codes}
use Rattle.std.specs.Fmt.{digits}
use lib.Utf8.{encode}
use Rattle.desk_ops.specs.declared.op.Style.TheVariants.{Roman}
use Rattle.desk_ops.specs.declared.op.Op.{Op}
use Rattle.desk_ops.specs.declared.fault.CopyFault.{CopyFault}
use Rattle.desk_ops.specs.declared.fault.FaultKind.TheVariants.{Waiting}
use Rattle.desk_ops.specs.Stamp.{same}
use Rattle.desk_ops.specs.OpSet.{in_order}
use Rattle.desk_ops.specs.Held.{is_clear, is_borne, clear_ops, clear_inserts, way_end, live_inserts}
use Rattle.desk_ops.specs.Walk.{walk, walk_from}
use Rattle.desk_ops.specs.Shown.{is_deleted}
use Rattle.desk_ops.specs.Faults.{copy_faults}
use Rattle.desk_ops.specs.Worked.{at, fault, held}
use Rattle.desk_ops.proofs.Worked.{arrived}
use Rattle.desk_seq.specs.declared.Entry.{Entry}
use Rattle.text_copy.specs.Plain.{shown}
use Rattle.feed_history.specs.declared.spots.Spot.{Spot}
use Rattle.feed_history.specs.Corrections.{ends}
use Rattle.feed_history.specs.Asked.{asked_lines, lines_from}
use Rattle.feed_history.specs.Spots.{spots_from}
use Rattle.feed_history.specs.WorkedLog.{everything, two_sites, WorkedLog}

abbrev entries : List Op → List Entry
entries ops = map (λ x. record { stamp = x.stamp; symbol = x.symbol; deleted = is_deleted ops x.stamp }) (walk ops)

-- by the operations in order
abbrev log_in : List Op → List ℕ
log_in ops = asked_lines ops (spots_from 0 (entries ops)) (copy_faults ops) everything

in_turn : in_order (held two_sites) ≡ two_sites
in_turn = arrived two_sites

abbrev spots : List Spot
spots =
    (record { counter = 1; site = 1; shown = false; style = Roman; ch = 97; place = 0 })
    ∷ (record { counter = 2; site = 1; shown = true; style = Roman; ch = 98; place = 0 })
    ∷ (record { counter = 6; site = 1; shown = true; style = Roman; ch = 99; place = 1 }) ∷ []

spots_are : spots_from 0 (entries two_sites) ≡ spots
unfolding is_clear is_borne clear_ops clear_inserts way_end live_inserts walk walk_from is_deleted same
spots_are = refl

abbrev faults : List CopyFault
faults = fault (at 8 2) Waiting ∷ []

faults_are : copy_faults two_sites ≡ faults
unfolding is_clear is_borne clear_ops clear_inserts way_end copy_faults same
faults_are = refl

ends_are : ends two_sites ≡ at 2 1 ∷ at 4 2 ∷ at 6 1 ∷ at 8 2 ∷ []
unfolding is_borne same
ends_are = refl

four : lines_from two_sites spots faults everything (at 2 1 ∷ at 4 2 ∷ at 6 1 ∷ at 8 2 ∷ [])
    ≡ codes "1.1..2.1 at 0 + \"ab\"\n3.2..4.2 at 0 - \"a\" measure 150\n6.1 at 1 + \"c\"\n8.2 not shown + \"x\" waiting 1\n"
unfolding is_borne same digits shown encode
four = refl

pub worked : WorkedLog
worked =
    ap log_in in_turn
    ∙ ap (λ l. lines_from two_sites l (copy_faults two_sites) everything (ends two_sites)) spots_are
    ∙ ap (λ l. lines_from two_sites spots l everything (ends two_sites)) faults_are
    ∙ ap (lines_from two_sites spots faults everything) ends_are
    ∙ four
