use Rattle.std.proofs.Common.{string_bytes, refl, arith}
use Rattle.text_copy.specs.Writing.{text_bytes}
use Rattle.text_copy.proofs.Texts.{symbol_put}
use Rattle.text_copy.proofs.writing.write_text.Goals as goal

pub loop-symbol-preserved : goal.loop-symbol-preserved
loop-symbol-preserved g c =
    let next =
    symbol_put (string_bytes c.loop-symbol.out) (string_bytes c.put_turn.new.out) (string_bytes c.put_quoted.new.out) (text_bytes c.args.copy.now) c.loop-symbol.run c.loop-symbol.count
    c.args.copy.now c.loop-symbol.symbol-index _ _ c.loop-symbol-test.true refl c.if-symbol-eq32.false c.in_ok-put_turn.ensures c.in_ok-put_quoted.ensures c.loop-symbol.invariant.0 in
    (next, omega arith)
