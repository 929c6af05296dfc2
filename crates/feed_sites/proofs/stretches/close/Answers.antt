use Rattle.std.proofs.Common.{◌∙◌, ◌+◌, ◌≤◌, arith, sym}
use Rattle.std.proofs.lemmas.Bool.{true≢false}
use Rattle.feed_sites.proofs.Parts.{apart_after, closed, closed_same, end_after, end_later}
use Rattle.feed_sites.proofs.stretches.close.Goals as goal

pub returns-in_ok-push-clause-reported : goal.returns-in_ok-push-clause-reported
returns-in_ok-push-clause-reported g c =
    closed c.args.one.now c.args.other.now c.args.from c.args.to c.args.stretches.now.items c.push.new.self.items c.requires.reported c.requires.from c.requires.to c.requires.reached
    (λ same. true≢false (sym (c.are_same.ensures.1 same) ∙ c.if-not-are_same.true)) c.requires.begins c.in_ok-push.ensures.items

pub returns-in_ok-push-clause-apart : goal.returns-in_ok-push-clause-apart
returns-in_ok-push-clause-apart g c = apart_after c.args.stretches.now.items c.push.new.self.items (record { from = c.args.from; to = c.args.to }) c.in_ok-push.ensures.items c.requires.apart c.requires.behind

pub returns-in_ok-push-clause-behind : goal.returns-in_ok-push-clause-behind
returns-in_ok-push-clause-behind g c =
    end_after c.args.stretches.now.items c.push.new.self.items (record { from = c.args.from; to = c.args.to }) c.in_ok-push.ensures.items c.requires.reached.one_rises c.requires.behind

pub returns-else-not-are_same-clause-reported : goal.returns-else-not-are_same-clause-reported
returns-else-not-are_same-clause-reported g c =
    closed_same c.args.one.now c.args.other.now c.args.from c.args.to c.args.stretches.now.items c.requires.reported c.requires.reached (c.are_same.ensures.0 c.if-not-are_same.false)

pub returns-else-not-are_same-clause-behind : goal.returns-else-not-are_same-clause-behind
returns-else-not-are_same-clause-behind g c =
    let less : c.args.from.one ≤ c.args.to.one + 1 = omega arith in
    end_later c.args.from.one (c.args.to.one + 1) c.args.stretches.now.items less c.requires.behind
