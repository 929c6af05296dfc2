use Rattle.std.proofs.Common.{inl, inr, rules}
use Rattle.feed_sites.specs.declared.stretch.Point.{Point}
use Rattle.feed_sites.specs.Stretches.{IsReached}
use Rattle.feed_sites.proofs.Begins.{along_by, parted_by}
use Rattle.feed_sites.proofs.stretches.step.Goals as goal

pub returns-then-eq : goal.returns-then-eq
returns-then-eq c =
    let next : Point = record { one = c.saturating_add.result; other = c.saturating_add-2.result } in
    let reached : IsReached c.args.one.now c.args.other.now c.args.point next = search rules in
    record {
      reached = reached;
      farther = search rules;
      along = inl (along_by c.args.one.now c.args.other.now c.args.point next _ c.eq.result reached (search rules) (search rules) c.eq.ensures c.if-eq.true);
    }

pub returns-in-Some-Delete : goal.returns-in-Some-Delete
returns-in-Some-Delete c = record { reached = search rules; farther = search rules; along = inr (parted_by c.args.one.now c.args.other.now c.args.point _ c.eq.result c.eq.ensures c.if-eq.false) }

pub returns-in-Some-Insert : goal.returns-in-Some-Insert
returns-in-Some-Insert c = record { reached = search rules; farther = search rules; along = inr (parted_by c.args.one.now c.args.other.now c.args.point _ c.eq.result c.eq.ensures c.if-eq.false) }

pub returns-in_default : goal.returns-in_default
returns-in_default c = record { reached = search rules; farther = search rules; along = inr (parted_by c.args.one.now c.args.other.now c.args.point _ c.eq.result c.eq.ensures c.if-eq.false) }

pub returns-in_default-2 : goal.returns-in_default-2
returns-in_default-2 c = record { reached = search rules; farther = search rules; along = inr (parted_by c.args.one.now c.args.other.now c.args.point _ c.eq.result c.eq.ensures c.if-eq.false) }

pub returns-in_default-3 : goal.returns-in_default-3
returns-in_default-3 c = record { reached = search rules; farther = search rules; along = inr (parted_by c.args.one.now c.args.other.now c.args.point _ c.eq.result c.eq.ensures c.if-eq.false) }
