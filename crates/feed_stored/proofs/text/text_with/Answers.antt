use Rattle.std.specs.Prelude.{string_bytes}
use Rattle.std.specs.List.{filter}
use Rattle.feed_stored.specs.Text.{is_above, is_below}
use Rattle.feed_stored.proofs.Places.{text_placed}
use Rattle.feed_stored.proofs.text.text_with.Goals as goal

pub returns : goal.returns
returns g c =
    text_placed (string_bytes c.new-out.result) (string_bytes c.put_below.new.out) (string_bytes c.put_stamp.new.out) (string_bytes c.put_above.new.out) (filter (is_below c.args.new.site) c.args.stamps.now) (filter (is_above c.args.new.site) c.args.stamps.now) c.args.new
    c.new-out.ensures.bytes c.in_ok-put_below.ensures c.in_ok-put_stamp.ensures c.in_ok-put_above.ensures
