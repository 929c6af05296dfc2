use Rattle.std.proofs.Common.{string_bytes, arith}
use Rattle.view_picture.specs.Boxes.{boxes_text}
use Rattle.view_picture.proofs.NextBox.{next_box}
use Rattle.view_picture.proofs.boxes.put_boxes.Goals as goal

pub loop-preserved : goal.loop-preserved
loop-preserved g c = (
  next_box c.args.paper c.args.y c.args.width c.loop.from c.args.count c.loop.counter (string_bytes c.args.out.now) (string_bytes c.loop.out) (string_bytes c.put_box.new.out)
      (boxes_text c.args.paper c.args.y c.args.width c.args.here c.args.count) c.loop-test.true c.in_ok-put_box.ensures c.loop.invariant.0,
  omega (arith, c.loop.invariant.1, c.ranges.width.fits),
)
