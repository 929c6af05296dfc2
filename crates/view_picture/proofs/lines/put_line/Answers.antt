use Rattle.std.proofs.Common.{◌≡◌, ℕ, ap, ◌∙◌, ◌++◌, subst, string_bytes}
use Rattle.std.specs.Prelude.{OnOk}
use Rattle.view_picture.specs.Paper.{foot}
use Rattle.view_picture.specs.Lines.{line_at}
use Rattle.view_picture.proofs.lines.put_line.Goals as goal

pub returns : goal.returns
returns g c =
    subst (λ (y : ℕ). OnOk c.put_line_at.result (string_bytes c.put_line_at.new.out ≡ string_bytes c.args.out.now ++ line_at c.args.terms.now c.args.copy.now c.args.paper y c.args.line.now))
    (c.foot-y.ensures.value ∙ ap (foot c.args.paper) c.number.ensures) c.put_line_at.ensures
