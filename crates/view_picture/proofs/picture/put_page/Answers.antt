use Rattle.std.proofs.Common.{◌≡◌, List, ℕ, ap₂, ◌++◌, subst, string_bytes}
use Rattle.std.specs.Prelude.{OnOk}
use Rattle.view_picture.specs.Picture.{begin_text}
use Rattle.view_picture.proofs.picture.put_page.Goals as goal

pub returns : goal.returns
returns g c =
    subst (λ (text : List ℕ). OnOk c.put_begin.result (string_bytes c.put_begin.new.out ≡ string_bytes c.args.out.now ++ text)) (ap₂ begin_text c.page_width-width.ensures.value c.page_height-height.ensures) c.put_begin.ensures
