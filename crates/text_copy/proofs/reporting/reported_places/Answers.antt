use Rattle.text_copy.proofs.Lines.{reported_some}
use Rattle.text_copy.proofs.reporting.reported_places.Goals as goal

pub returns : goal.returns
returns g c =
    reported_some c.args.count c.args.copy.now c.args.places.now c.new-out.result.items c.put_places.new.out.items c.put_more.new.out.items c.min.result c.saturating_sub.result
    c.if-is_empty.ensures c.min.ensures c.saturating_sub.ensures c.new-out.ensures.items c.in_ok-put_places.ensures c.in_ok-put_more.ensures
