use Rattle.std.proofs.Common.{subst, sym}
use Rattle.std.specs.Prelude.{option_map}
use Rattle.program_words.specs.Choices.{ShowsFigures}
use Rattle.program_words.specs.declared.choices.Extent.{Extent}
use Rattle.program_words.proofs.Chosen.{no_figures}
use Rattle.program_words.proofs.choices.figures_by.Goals as goal

pub returns-in-None : goal.returns-in-None
returns-in-None c = subst (λ o. (extent : Extent) → ShowsFigures (option_map (λ t. t.now) o) extent → ⊥) (sym c.in-Some.is) (no_figures c.in-Some.text.now c.in-None.ensures)
