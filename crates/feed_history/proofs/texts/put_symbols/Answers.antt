use Rattle.std.proofs.Common.{◌++◌, string_bytes, refl, arith}
use Rattle.text_copy.specs.Writing.{text_bytes}
use Rattle.text_copy.proofs.Texts.{symbol_put}
use Rattle.feed_history.proofs.texts.put_symbols.Goals as goal

pub loop-symbol-preserved : goal.loop-symbol-preserved
loop-symbol-preserved g c = record {
  so_far =
      symbol_put (string_bytes c.loop-symbol.out) (string_bytes c.put_turn.new.out) (string_bytes c.put_quoted.new.out) (string_bytes c.args.out.now ++ text_bytes c.args.copy.now) c.loop-symbol.run c.loop-symbol.count
      c.args.copy.now c.loop-symbol.symbol-index _ _ c.loop-symbol-test.true refl c.if-symbol-eq32.false c.in_ok-put_turn.ensures c.in_ok-put_quoted.ensures c.loop-symbol.invariant.so_far;
  few = omega arith;
}
