use Rattle.desk_ops.proofs.Lawful.{lawful_by_tests, stamp_from, stamp_true, head_from, head_true, symbol_from, symbol_true, value_from, value_true}
use Rattle.desk_ops.proofs.laws.lawful_goes_by_tests.Goals as goal

pub returns : goal.returns
returns c = record {
  op = lawful_by_tests;
  stamp = λ s. (stamp_from s, stamp_true s);
  head = λ s. (head_from s, head_true s);
  symbol = λ y. (symbol_from y, symbol_true y);
  value = λ key n. (value_from key n, value_true key n);
}
