use Rattle.std.proofs.Common.{◌∙◌, List, length, sym, ap}
use Rattle.desk_ops.specs.OpSet.{union}
use Rattle.feed_readings.specs.declared.reading.Reading.{Reading}
use Rattle.feed_readings.specs.Lines.{readings_lines}
use Rattle.feed_readings.specs.Merged.{in_common, shown_list}
use Rattle.feed_readings.proofs.Sets.{all_within}
use Rattle.feed_readings.proofs.Twins.{none_one, none_other}
use Rattle.feed_readings.proofs.merged.report_readings.Goals as goal

pub returns-then-taken : goal.returns-then-taken
returns-then-taken g c =
    let one = c.args.one.now.ops in
    let other = c.args.other.now.ops in
    let none = none_other one other c.is_apart.ensures (all_within one other (sym c.in_ok-taken.ensures ∙ c.if-taken.true)) in
    record {
      lines = c.new.ensures.items ∙ sym (ap (readings_lines (shown_list (in_common one other)) (shown_list one) (shown_list other) (shown_list (union one other))) none);
      count = sym (ap (λ (l : List Reading). length l) none);
    }

pub returns-then-stored : goal.returns-then-stored
returns-then-stored g c =
    let one = c.args.one.now.ops in
    let other = c.args.other.now.ops in
    let none = none_one one other c.is_apart-then-stored.ensures (all_within other one (sym c.in_ok-stored.ensures ∙ c.if-stored.true)) in
    record {
      lines = c.new-then-stored.ensures.items ∙ sym (ap (readings_lines (shown_list (in_common one other)) (shown_list one) (shown_list other) (shown_list (union one other))) none);
      count = sym (ap (λ (l : List Reading). length l) none);
    }
