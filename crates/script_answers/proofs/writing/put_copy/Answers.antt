use Rattle.std.proofs.Common.{◌≡◌, ◌++◌, ℕ, length, string_bytes, refl, ap, arith}
use Rattle.std.proofs.Transfers.{starts_with_trans}
use Rattle.script_answers.specs.Writing.{copy_text}
use Rattle.script_answers.proofs.Texts.{copy_put}
use Rattle.script_answers.proofs.writing.put_copy.Goals as goal

pub loop-symbol-preserved : goal.loop-symbol-preserved
loop-symbol-preserved g c = record {
  text = copy_put (string_bytes c.loop-symbol.out) (string_bytes c.put_turn.new.out) (string_bytes c.put_quoted.new.out) (string_bytes c.args.out.now ++ copy_text c.args.copy.now)
      c.loop-symbol.run c.args.copy.now c.loop-symbol.symbol-index _ _ c.loop-symbol-test.true refl c.in_ok-put_turn.ensures.text c.in_ok-put_quoted.ensures.text c.loop-symbol.invariant.text;
  prefix = starts_with_trans _ _ _ (starts_with_trans _ _ _ c.put_quoted.ensures.prefix c.put_turn.ensures.prefix) c.loop-symbol.invariant.prefix;
  none = λ e. let n : length c.args.copy.now ≡ 0 = ap length e in absurd (omega (arith, n, c.loop-symbol-test.true));
}

pub returns-clause-memory : goal.returns-clause-memory
returns-clause-memory g c err empty = c.put_close.ensures.memory err (c.loop-symbol.invariant.none empty)
