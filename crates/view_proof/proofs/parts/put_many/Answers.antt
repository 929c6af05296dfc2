use Rattle.std.proofs.Common.{string_bytes}
use Rattle.view_proof.proofs.Texts.{one_more}
use Rattle.view_proof.proofs.parts.put_many.Goals as goal

pub loop-preserved : goal.loop-preserved
loop-preserved g c =
    one_more (string_bytes c.args.out.now) (string_bytes c.loop.out) (string_bytes c.push.new.self) c.loop.counter c.args.ch c.loop.invariant c.in_ok-push.ensures.bytes
