use Rattle.std.proofs.Common.{◌≡◌, ◌+◌, ◌<◌, ◌∙◌, drop, get_or, length, sym, inl, inr, arith}
use Rattle.std.proofs.lemmas.List.{get_or_default}
use Rattle.feed_history.specs.Corrections.{AreEnds}
use Rattle.feed_history.proofs.Ends.{fresh, known}
use Rattle.feed_history.proofs.corrections.add_end.Goals as goal
use Rattle.feed_history.proofs.corrections.add_end.Goals.{then-later-stamp-via-then-later-stamp, then-later-stamp-via-else-later-stamp+then-later-stamp-2}

pub returns-then-later-stamp-clause-ends : goal.returns-then-later-stamp-clause-ends
returns-then-later-stamp-clause-ends g c =
    let next = c.reach.new.next.items in
    let site = c.from-site.result in
    let within : site < length next = c.in_ok-reach.ensures.reached in
    let so_far : AreEnds (drop (c.args.at + 1) c.args.ops.now) c.args.ends.now.items next = record { whole = c.requires.so_far.whole; behind = λ k. c.in_ok-reach.ensures.same k ∙ c.requires.so_far.behind k } in
    let later : get_or next site 0 ≡ c.index-later.result.now = sym (c.index-later.ensures ∙ get_or_default next site c.index-later.result.now 0 within) in
    known c.args.ops.now c.args.at _ c.stamp-stamp.result c.args.ends.now.items next site c.requires.rising c.requires.lawful c.requires.within c.stamp-stamp.ensures c.from-site.ensures within so_far
    (elim c.then-later-stamp.branch [
      | then-later-stamp-via-then-later-stamp w ↦ inl (later ∙ omega (arith, w.if-later-stamp.true))
      | then-later-stamp-via-else-later-stamp+then-later-stamp-2 w ↦ inr (later ∙ omega (arith, w.if-later-stamp-2.true))
    ])

pub returns-clause-ends : goal.returns-clause-ends
returns-clause-ends g c =
    let next = c.reach.new.next.items in
    let site = c.from-site.result in
    let within : site < length next = c.in_ok-reach.ensures.reached in
    let so_far : AreEnds (drop (c.args.at + 1) c.args.ops.now) c.args.ends.now.items next = record { whole = c.requires.so_far.whole; behind = λ k. c.in_ok-reach.ensures.same k ∙ c.requires.so_far.behind k } in
    let later : get_or next site 0 ≡ c.index-later.result.now = sym (c.index-later.ensures ∙ get_or_default next site c.index-later.result.now 0 within) in
    fresh c.args.ops.now c.args.at _ c.stamp-stamp.result c.args.ends.now.items next site c.requires.rising c.requires.lawful c.requires.within c.stamp-stamp.ensures c.from-site.ensures within so_far
    c.push.new.self.items c.in_ok-push.ensures.items (λ e. absurd (omega (arith, c.if-later-stamp.false, later, e))) (λ e. absurd (omega (arith, c.if-later-stamp-2.false, later, e)))
