-- Styles and symbols that compare as one are one.
use Rattle.std.proofs.Common.{◌≡◌, true, refl, sym, ap, ◌∙◌}
use Rattle.std.specs.Bool.{Decides}
use Rattle.std.specs.Prelude.{◌==◌}
use Rattle.std.proofs.lemmas.Bool.{false≢true}
use Rattle.std.proofs.lemmas.Bool.Decides.{Decides-and, Decides-eqb, Decides-like}
use Rattle.desk_ops.specs.declared.op.Style.{Style}
use Rattle.desk_ops.specs.declared.op.Style.TheVariants.{Roman, Italic, SmallCap}
use Rattle.desk_ops.specs.declared.op.Symbol.{Symbol}
use Rattle.desk_ops.specs.contracts.op.StylePartialEq.TheImpl as style_eq
use Rattle.desk_ops.specs.contracts.op.SymbolPartialEq.TheImpl as symbol_eq
use Rattle.desk_ops.specs.Op.{same_style}

-- ---- styles

-- what `==` on styles returns
pub style_is : (x y : Style) → (style_eq.ghosts).eq x y ≡ same_style x y
style_is Roman Roman = refl
style_is Roman Italic = refl
style_is Roman SmallCap = refl
style_is Italic Roman = refl
style_is Italic Italic = refl
style_is Italic SmallCap = refl
style_is SmallCap Roman = refl
style_is SmallCap Italic = refl
style_is SmallCap SmallCap = refl

pub style_same : (x y : Style) → same_style x y ≡ true → x ≡ y
style_same Roman Roman e = refl
style_same Roman Italic e = absurd (false≢true e)
style_same Roman SmallCap e = absurd (false≢true e)
style_same Italic Roman e = absurd (false≢true e)
style_same Italic Italic e = refl
style_same Italic SmallCap e = absurd (false≢true e)
style_same SmallCap Roman e = absurd (false≢true e)
style_same SmallCap Italic e = absurd (false≢true e)
style_same SmallCap SmallCap e = refl

pub style_itself : (x : Style) → same_style x x ≡ true
style_itself Roman = refl
style_itself Italic = refl
style_itself SmallCap = refl

style_decides : (x y : Style) → Decides ((style_eq.ghosts).eq x y) (x ≡ y)
style_decides x y = (λ e. style_same x y (sym (style_is x y) ∙ e), λ e. style_is x y ∙ ap (same_style x) (sym e) ∙ style_itself x)

-- ---- symbols

pub symbol_exact : (s t : Symbol) → s.style ≡ t.style → s.ch ≡ t.ch → s ≡ t
symbol_exact s t a b i = record { style = a i; ch = b i }

-- `==` on symbols decides whether they are one
pub same_symbols : (s t : Symbol) → Decides ((symbol_eq.eq-value).it s t) (s ≡ t)
same_symbols s t =
    Decides-like ((symbol_eq.eq-value).it s t) (λ (p : (s.style ≡ t.style) × (s.ch ≡ t.ch)). symbol_exact s t p.0 p.1) (λ (e : s ≡ t). (ap (λ (y : Symbol). y.style) e, ap (λ (y : Symbol). y.ch) e))
    (Decides-and ((style_eq.ghosts).eq s.style t.style) (s.ch == t.ch) (style_decides s.style t.style) (Decides-eqb s.ch t.ch))

pub symbol_same : (s t : Symbol) → (symbol_eq.ghosts).eq s t ≡ true → s ≡ t
symbol_same s t e = (same_symbols s t).0 e

pub symbol_itself : (s : Symbol) → (symbol_eq.ghosts).eq s s ≡ true
symbol_itself s = (same_symbols s s).1 refl
