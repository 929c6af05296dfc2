use Rattle.std.proofs.Common.{◌≡◌, ◌∙◌, ℕ, List, ap, sym, refl}
use Rattle.std.specs.Prelude.{Some}
use Rattle.desk_ops.specs.declared.op.Stamp.{Stamp}
use Rattle.feed_stored.specs.Text.{Records, Rises, counter_of, last_text}
use Rattle.feed_stored.proofs.Lines.{texts_same}
use Rattle.feed_stored.proofs.laws.texts_are_of_one_list.Goals as goal

only : (stamps : List Stamp) (site counter : ℕ) → Rises 0 stamps → Records (last_text stamps) site counter → counter_of stamps site ≡ Some counter
only stamps site counter rises (other, is, has) = ap (λ l. counter_of l site) (texts_same 0 0 stamps other rises is.0 is.1) ∙ has

pub returns : goal.returns
returns c = record {
  one = λ bytes first second is_first is_second. texts_same 0 0 first second is_first.0 is_second.0 (sym is_first.1 ∙ is_second.1);
  has = λ stamps site counter rises has. (stamps, (rises, refl), has);
  only = only;
}
