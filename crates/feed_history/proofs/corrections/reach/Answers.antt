use Rattle.std.proofs.Common.{◌∙◌, ap, get_or}
use Rattle.feed_history.proofs.Ends.{zero_more}
use Rattle.feed_history.proofs.corrections.reach.Goals as goal

pub loop-next-preserved : goal.loop-next-preserved
loop-next-preserved g c = λ k. ap (λ l. get_or l k 0) c.in_ok-push.ensures.items ∙ zero_more c.loop-next.next.items k ∙ c.loop-next.invariant k
