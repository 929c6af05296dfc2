use Rattle.std.proofs.Common.{◌+◌, ◌≤◌, ◌∙◌, arith, sym}
use Rattle.std.proofs.lemmas.Bool.{true≢false}
use Rattle.feed_sites.proofs.Begins.{begun_apart, begun_here, begun_within}
use Rattle.feed_sites.proofs.Parts.{closed_same, end_later, here, reached_farther}
use Rattle.feed_sites.proofs.stretches.pass.Goals as goal

pub returns : goal.returns
returns g c =
    let whole = c.is_whole.ensures in
    let no = c.if-not-is_whole.false in
    let kept = c.are_kept.ensures.0 c.if-not-are_kept.false in
    let less : c.args.front.last.one + 1 ≤ c.args.point.one = omega (arith, kept.0) in
    let at = here c.args.one.now c.args.other.now c.args.front.last c.args.point c.requires.point_reached in
    record {
      reported = closed_same c.args.one.now c.args.other.now c.args.front.last c.args.point c.close.new.stretches.items c.in_ok-close.ensures.reported c.requires.point_reached kept.1;
      apart = c.in_ok-close.ensures.apart;
      behind = end_later (c.args.front.last.one + 1) c.args.point.one c.close.new.stretches.items less c.in_ok-close.ensures.behind;
      open_whole = cc;
      last_whole = cc;
      last_reached = at;
      point_reached = at;
      begun = begun_here c.args.one.now c.args.other.now c.args.point c.args.point (c.args.point.one + 1) at (omega arith);
    }

pub returns-then-not-is_whole : goal.returns-then-not-is_whole
returns-then-not-is_whole g c = record {
  reported = c.requires.reported;
  apart = c.requires.apart;
  behind = c.requires.behind;
  open_whole = c.requires.open_whole;
  last_whole = c.requires.last_whole;
  last_reached = c.requires.last_reached;
  point_reached = c.requires.point_reached;
  begun = begun_within c.args.one.now c.args.other.now c.args.front c.args.point (sym c.is_whole.ensures ∙ c.if-not-is_whole.true) c.requires.begun;
}

pub returns-then-not-are_kept : goal.returns-then-not-are_kept
returns-then-not-are_kept g c = record {
  reported = c.requires.reported;
  apart = c.requires.apart;
  behind = c.requires.behind;
  open_whole = c.requires.open_whole;
  last_whole = sym c.is_whole.ensures ∙ c.if-not-is_whole.false;
  last_reached = reached_farther c.args.one.now c.args.other.now c.args.front.open c.args.front.last c.args.point c.requires.last_reached c.requires.point_reached;
  point_reached = here c.args.one.now c.args.other.now c.args.front.last c.args.point c.requires.point_reached;
  begun = begun_apart c.args.one.now c.args.other.now c.args.front c.args.point (λ both. true≢false (sym (c.are_kept.ensures.1 both) ∙ c.if-not-are_kept.true)) c.requires.begun;
}
