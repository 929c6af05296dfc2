use Rattle.std.proofs.Common.{◌≤◌, ◌%◌, ◌+◌, ◌/◌, arith, subst, sym, [], ◌∷◌}
use Rattle.std.specs.Fmt.{decimal}
use Rattle.std.proofs.lemmas.Fmt.{decimal_step}
use Rattle.program_desk.specs.Told.{GoesOn}
use Rattle.program_desk.proofs.Telling.{goes_on_twice, one_digit}
use Rattle.program_desk.proofs.told.+tell_number.Goals as goal

pub returns-then-number-lt10 : goal.returns-then-number-lt10
returns-then-number-lt10 g t c = subst (λ l. GoesOn c.args.told.is_whole c.tell_more.result.is_whole (g.E.Write.contents c.args.faults.now) (g.E.Write.contents c.tell_more.new.faults) l) (one_digit c.args.number c.if-number-lt10.true) c.tell_more.ensures

pub returns : goal.returns
returns g t c =
    let large : 10 ≤ c.args.number = omega (arith, c.if-number-lt10.false) in
    subst (λ l. GoesOn c.args.told.is_whole c.tell_more-2.result.is_whole (g.E.Write.contents c.args.faults.now) (g.E.Write.contents c.tell_more-2.new.faults) l) (sym (decimal_step c.args.number large c.ranges.number.fits))
    (goes_on_twice c.args.told.is_whole c.tell_number-begun.result.is_whole c.tell_more-2.result.is_whole (g.E.Write.contents c.args.faults.now) (g.E.Write.contents c.tell_number-begun.new.faults) (g.E.Write.contents c.tell_more-2.new.faults) (decimal (c.args.number / 10)) ((48 + c.args.number % 10) ∷ []) c.tell_number-begun.ensures c.tell_more-2.ensures)
