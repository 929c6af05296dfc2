use Rattle.std.proofs.Common.{string_bytes, refl, sym, ◌∙◌, arith, ◌++◌}
use Rattle.view_proof.specs.Parts.{marked_text}
use Rattle.view_proof.proofs.Styled.{gap_put, marked_put}
use Rattle.view_proof.proofs.marked.put_marked.Goals as goal

pub loop-symbol-preserved-then-is_gap : goal.loop-symbol-preserved-then-is_gap
loop-symbol-preserved-then-is_gap g c =
    let next =
    gap_put (string_bytes c.loop-symbol.out) (string_bytes c.args.out.now ++ marked_text c.args.symbols.now) c.loop-symbol.run c.loop-symbol.count c.args.symbols.now c.loop-symbol.symbol-index
    _ _ c.loop-symbol-test.true refl (sym c.is_gap.ensures ∙ c.if-is_gap.true) c.loop-symbol.invariant.0 in
    (next, omega arith)

pub loop-symbol-preserved : goal.loop-symbol-preserved
loop-symbol-preserved g c =
    let next =
    marked_put (string_bytes c.loop-symbol.out) (string_bytes c.put_turn.new.out) (string_bytes c.put_shown.new.out) (string_bytes c.args.out.now ++ marked_text c.args.symbols.now) c.loop-symbol.run c.loop-symbol.count
    c.args.symbols.now c.loop-symbol.symbol-index _ _ c.loop-symbol-test.true refl (sym c.is_gap.ensures ∙ c.if-is_gap.false) c.in_ok-put_turn.ensures c.in_ok-put_shown.ensures c.loop-symbol.invariant.0 in
    (next, omega arith)
