use Rattle.std.proofs.Common.{string_bytes}
use Rattle.text_copy.proofs.Texts.{space_put}
use Rattle.text_copy.proofs.writing.put_spaces.Goals as goal

pub loop-preserved : goal.loop-preserved
loop-preserved g c =
    space_put (string_bytes c.args.out.now) (string_bytes c.loop.out) (string_bytes c.push.new.self) c.loop.counter c.loop.invariant c.in_ok-push.ensures.bytes
