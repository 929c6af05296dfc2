use Rattle.std.proofs.Common.{string_bytes, arith}
use Rattle.view_picture.proofs.NextPlace.{next_end}
use Rattle.view_pages.proofs.NextRule.{next_rule}
use Rattle.view_pages.proofs.rules.put_word_rules.Goals as goal

pub loop-symbol-preserved : goal.loop-symbol-preserved
loop-symbol-preserved g c = (
  next_rule c.args.pen c.args.terms.now c.loop-symbol.inner c.loop-symbol.end c.symbol_width.result c.loop-symbol.symbol-index c.args.word.now _ (string_bytes c.loop-symbol.out) (string_bytes c.put_symbol_rule.new.out) _
      c.loop-symbol-test.true c.symbol_width.ensures.value c.in_ok-put_symbol_rule.ensures c.loop-symbol.invariant.0,
  (
    next_end c.args.terms.now c.loop-symbol.end c.symbol_width.result c.loop-symbol.symbol-index c.args.word.now _ _ c.loop-symbol-test.true c.symbol_width.ensures.value c.loop-symbol.invariant.1.0,
    omega (arith, c.loop-symbol.invariant.1.1, c.symbol_width.ensures.limit),
  ),
)
