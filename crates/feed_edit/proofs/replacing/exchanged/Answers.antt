use Rattle.std.proofs.Common.{List, arith, inr, refl, subst, sym}
use Rattle.desk_ops.specs.declared.op.Symbol.{Symbol}
use Rattle.text_copy.specs.Laws.{AreLawful}
use Rattle.feed_edit.proofs.Apart.{length_is}
use Rattle.feed_edit.proofs.Lawful.{exchanged_lawful}
use Rattle.feed_edit.proofs.replacing.exchanged.Goals as goal

pub len_with-requires : goal.len_with-requires
len_with-requires g c = omega (arith, (length_is c.args.count c.args.new.now c.args.copy.now 0 c.args.places.now c.requires).1)

pub returns-then-len_with-gt-LIMIT-clause-err : goal.returns-then-len_with-gt-LIMIT-clause-err
returns-then-len_with-gt-LIMIT-clause-err g c =
    let whole = (length_is c.args.count c.args.new.now c.args.copy.now 0 c.args.places.now c.requires).0 in
    inr (refl, omega (arith, whole, c.len_with.ensures, c.if-len_with-gt-LIMIT.true))

pub returns-clause-lawful : goal.returns-clause-lawful
returns-clause-lawful g c = λ new copy.
    subst (λ (l : List Symbol). AreLawful l) (sym c.in_ok-replaced.ensures) (exchanged_lawful c.args.places.now c.args.count c.args.new.now c.args.copy.now new copy)
