use Rattle.std.proofs.Common.{◌∙◌, sym}
use Rattle.std.proofs.lemmas.Bool.{true≢false}
use Rattle.std.proofs.lemmas.Slice.Eq.{slice_eq-Decides}
use Rattle.desk_ops.proofs.Symbols.{same_symbols}
use Rattle.feed_sites.proofs.Parts.{no_stretches}
use Rattle.feed_sites.proofs.stretches.stretches_of.Goals as goal

pub returns-then-eq : goal.returns-then-eq
returns-then-eq g c = no_stretches c.args.one.now c.args.other.now c.new.result.items c.new.ensures.items ((slice_eq-Decides same_symbols c.args.one.now c.args.other.now c.eq.result c.eq.ensures).0 c.if-eq.true)

pub returns : goal.returns
returns g c = record {
  differ = c.in_ok-stretches.ensures.reported;
  apart = c.in_ok-stretches.ensures.apart;
  none = λ same. absurd (true≢false (sym ((slice_eq-Decides same_symbols c.args.one.now c.args.other.now c.eq.result c.eq.ensures).1 same) ∙ c.if-eq.false));
}
