use Rattle.std.proofs.Common.{inl, inr}
use Rattle.feed_edit.proofs.Forking.{no_news}
use Rattle.feed_edit.proofs.merging.forks_in.Goals as goal
use Rattle.feed_edit.proofs.merging.forks_in.Goals.{then-known-via-then-known, then-known-via-else-known+then-new-eq0}

pub returns-then-known : goal.returns-then-known
returns-then-known g c =
    λ old ops gained counted. inl (
      c.new.ensures.items,
      elim c.then-known.branch [
        | then-known-via-then-known w ↦ inl w.if-known.true
        | then-known-via-else-known+then-new-eq0 w ↦ inr (no_news c.args.new old c.args.replica.now.ops ops w.if-new-eq0.true counted gained)
      ],
    )
