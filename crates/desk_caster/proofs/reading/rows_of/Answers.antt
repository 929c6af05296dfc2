use Rattle.std.proofs.Common.{◌++◌, List, ℕ, ap, sym, ◌∙◌}
use Rattle.std.specs.List.{flat_map}
use Rattle.desk_image.specs.Images.{image_fault}
use Rattle.desk_ribbon.specs.Ribbon.{image_bytes}
use Rattle.desk_caster.proofs.reading.rows_of.Goals as goal

pub returns-in-Err-clause-fault : goal.returns-in-Err-clause-fault
returns-in-Err-clause-fault g c =
    record {
      before = c.loop-place.rows.items;
      rows = c.loop-place.invariant.rows;
      there = c.loop-place.invariant.there;
      image = c.take_number-image.result.0;
      fits = c.take_number-image.ensures.value;
      rest = c.take_number-image.result.1.now;
      split = c.loop-place.invariant.read ∙ ap (λ (x : List ℕ). flat_map image_bytes c.loop-place.rows.items ++ x) c.take_number-image.ensures.bytes;
      bad = ap image_fault (sym c.new.ensures) ∙ sym c.in-Err.ensures.fault;
    }
