use Rattle.std.proofs.Common.{[]}
use Rattle.std.specs.Prelude.{string_bytes}
use Rattle.feed_history.specs.Rooms.{made_of}
use Rattle.feed_history.proofs.RoomsLines.{last_line, next_line}
use Rattle.feed_history.proofs.rooms.put_lines.Goals as goal

pub loop-site-preserved : goal.loop-site-preserved
loop-site-preserved g c = λ set h. next_line set c.args.made.now c.args.shown.now c.args.faults.now c.loop-site.site (made_of []) (string_bytes c.args.out.now) (string_bytes c.loop-site.out) (string_bytes c.put_line.new.out) h c.loop-site-test.true c.in_ok-put_line.ensures (c.loop-site.invariant set h)

pub returns : goal.returns
returns g c = λ set h. last_line set (string_bytes c.loop-site.out) _ c.loop-site.site c.loop-site-test.false (c.loop-site.invariant set h)
