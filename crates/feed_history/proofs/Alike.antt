-- Lines by elements that are found by stamp alike.
use Rattle.std.proofs.Common.{◌≡◌, ℕ, List, [], ◌∷◌, ◌++◌, refl, ap, ◌∙◌}
use Rattle.std.specs.Prelude.{Option, if◌then◌else◌}
use Rattle.desk_ops.specs.declared.op.Stamp.{Stamp}
use Rattle.desk_ops.specs.declared.op.Op.{Op}
use Rattle.desk_ops.specs.declared.op.Op.TheVariants.{Insert, Delete, Set}
use Rattle.desk_ops.specs.declared.fault.CopyFault.{CopyFault}
use Rattle.desk_ops.specs.Op.{stamp_of}
use Rattle.feed_history.specs.declared.corrections.Correction.{Correction}
use Rattle.feed_history.specs.declared.asked.Asked.{Asked}
use Rattle.feed_history.specs.declared.spots.Spot.{Spot}
use Rattle.desk_replica.specs.Seats.{fault_stamp}
use Rattle.feed_history.specs.Rows.{bearing_by, first, row_of}
use Rattle.feed_history.specs.Corrections.{correction_to, ends}
use Rattle.feed_history.specs.Spots.{any_place, first_of, or_else, own_place, place_of, shown_place, spot_stamp, target_place}
use Rattle.feed_history.specs.Texts.{deleted, inserted}
use Rattle.feed_history.specs.Lines.{line}
use Rattle.feed_history.specs.Asked.{asked_lines, is_asked, lines_from}

first_alike : (f g : Op → Option ℕ) → ((op : Op) → f op ≡ g op) → (ops : List Op) → first_of f ops ≡ first_of g ops
first_alike f g alike [] = refl
first_alike f g alike (op ∷ ops) = ap (λ p. or_else p (first_of f ops)) (alike op) ∙ ap (or_else (g op)) (first_alike f g alike ops)

module _ (one other : List Spot) (alike : (s : Stamp) → bearing_by spot_stamp one s ≡ bearing_by spot_stamp other s) where
  own_alike : (op : Op) → own_place one op ≡ own_place other op
  own_alike (Insert stamp parent symbol) = ap (λ l. shown_place (first l)) (alike stamp)
  own_alike (Delete stamp target) = refl
  own_alike (Set stamp key value) = refl

  target_alike : (op : Op) → target_place one op ≡ target_place other op
  target_alike (Insert stamp parent symbol) = refl
  target_alike (Delete stamp target) = ap (λ l. any_place (first l)) (alike target)
  target_alike (Set stamp key value) = refl

  place_alike : (ops : List Op) → place_of one ops ≡ place_of other ops
  place_alike ops =
      ap (λ p. or_else p (first_of (target_place one) ops)) (first_alike (own_place one) (own_place other) own_alike ops)
      ∙ ap (or_else (first_of (own_place other) ops)) (first_alike (target_place one) (target_place other) target_alike ops)

  lines_alike : (ops : List Op) (faults : List CopyFault) (asked : Asked) (lasts : List Stamp) → lines_from ops one faults asked lasts ≡ lines_from ops other faults asked lasts
  lines_alike ops faults asked [] = refl
  lines_alike ops faults asked (last ∷ lasts) =
      let correction : Correction = correction_to ops last in
      let row : List Op = row_of stamp_of ops correction in
      ap (λ p. (if is_asked ops asked last row then line correction p row (inserted row) (deleted ops row) (row_of fault_stamp faults correction) else []) ++ lines_from ops one faults asked lasts) (place_alike row)
      ∙ ap (λ l. (if is_asked ops asked last row then line correction (place_of other row) row (inserted row) (deleted ops row) (row_of fault_stamp faults correction) else []) ++ l) (lines_alike ops faults asked lasts)

  pub asked_alike : (ops : List Op) (faults : List CopyFault) (asked : Asked) → asked_lines ops one faults asked ≡ asked_lines ops other faults asked
  asked_alike ops faults asked = lines_alike ops faults asked (ends ops)
