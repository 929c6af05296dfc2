use Rattle.text_copy.proofs.WrittenOut.{copy_is_plain, text_is_plain}
use Rattle.text_copy.proofs.laws.what_is_shown_is_plain.Goals as goal

pub returns : goal.returns
returns c = record { text = text_is_plain; copy = copy_is_plain }
