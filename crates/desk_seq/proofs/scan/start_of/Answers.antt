use Rattle.std.proofs.Common.{◌∙◌, sym, refl}
use Rattle.desk_seq.proofs.Entries.{start-head, start-none}
use Rattle.desk_seq.proofs.scan.start_of.Goals as goal

pub returns-then-is_same-clause-start : goal.returns-then-is_same-clause-start
returns-then-is_same-clause-start g c = start-head _ c.args.parent (sym c.is_same.ensures ∙ c.if-is_same.true)

pub unreachable-requires : goal.unreachable-requires
unreachable-requires g c = start-none (g.Q.Sequence.entries c.args.sequence.now) c.args.parent (sym c.is_same.ensures ∙ c.if-is_same.false) c.requires (c.in-None.ensures.none refl)
