use Rattle.std.proofs.Common.{◌≡◌, ◌++◌, subst}
use Rattle.std.specs.Prelude.{OnOk, string_bytes}
use Rattle.feed_check.specs.Words.{set_q_words}
use Rattle.feed_check.proofs.wedges.put_set_q.Goals as goal

pub returns : goal.returns
returns g c =
    subst (λ q. OnOk c.put_quarters.result (string_bytes c.put_quarters.new.out ≡ string_bytes c.args.out.now ++ set_q_words q)) c.get.ensures.value c.put_quarters.ensures
