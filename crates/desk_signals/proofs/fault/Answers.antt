use Rattle.std.proofs.Common.{sym, ◌∙◌, arith}
use Rattle.desk_signals.proofs.Reading.{two_letters_reported, two_numbers, the_wedge_fault}
use Rattle.desk_signals.proofs.fault.Goals as goal

pub returns-then-two_letters : goal.returns-then-two_letters
returns-then-two_letters c =
    two_letters_reported c.args.signals.now (sym c.repeats.ensures ∙ c.if-repeats.false) (sym c.two_letters.ensures ∙ c.if-two_letters.true)

pub returns-then-count_numbers-gt1 : goal.returns-then-count_numbers-gt1
returns-then-count_numbers-gt1 c =
    two_numbers c.args.signals.now (sym c.repeats.ensures ∙ c.if-repeats.false) (sym c.two_letters.ensures ∙ c.if-two_letters.false)
    (omega (arith, c.if-count_numbers-gt1.true, c.count_numbers.ensures))

pub returns : goal.returns
returns c =
    c.wedge_fault.ensures
    ∙ the_wedge_fault c.args.signals.now _ _ _ _ c.count_numbers.result (sym c.repeats.ensures ∙ c.if-repeats.false) (sym c.two_letters.ensures ∙ c.if-two_letters.false)
    c.count_letters-letter.ensures c.count_numbers.ensures c.if-count_numbers-gt1.false c.has-fine.ensures c.has-coarse.ensures c.has-s.ensures
