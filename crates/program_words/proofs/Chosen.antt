-- What options choose, where they choose nothing.
use Rattle.std.proofs.Common.{ℕ, Option, None, Some}
use Rattle.clap.specs.Words.{Text}
use Rattle.program_words.specs.Choices.{IsHeight, IsPage, IsPitch, IsRange, ShowsFigures, ShowsLines}
use Rattle.program_words.specs.declared.choices.Extent.{Extent}
use Rattle.program_words.specs.declared.choices.Extent.TheVariants as extents

pub no_lines : (text : Text) → ((first last : ℕ) → IsRange text first last → ⊥) → (extent : Extent) → ShowsLines text extent → ⊥
no_lines text none extents.Whole shows = shows
no_lines text none (extents.Lines first last) shows = none first last shows
no_lines text none (extents.Figures over under) shows = shows

pub no_figures : (text : Text) → ((over under : ℕ) → IsPitch text over under → ⊥) → (extent : Extent) → ShowsFigures (Some text) extent → ⊥
no_figures text none extents.Whole shows = shows
no_figures text none (extents.Lines first last) shows = shows
no_figures text none (extents.Figures over under) shows = none over under shows

pub no_page : (text : Text) → ((height : ℕ) → IsHeight text height → ⊥) → (height : Option ℕ) → IsPage text height → ⊥
no_page text none (Some height) is = none height is
no_page text none None is = is
