use Rattle.std.proofs.Common.{◌≡◌, ◌++◌, subst, string_bytes}
use Rattle.std.specs.Prelude.{OnOk}
use Rattle.view_pages.specs.Document.{galley_rule}
use Rattle.view_pages.specs.Screen.{size_rule}
use Rattle.view_pages.specs.declared.layouts.Layout.{Layout}
use Rattle.view_pages.proofs.document.put_galley_rule.Goals as goal

pub returns : goal.returns
unfolding galley_rule
returns g c =
    subst (λ (l : Layout). OnOk c.put_size_rule.result (string_bytes c.put_size_rule.new.out ≡ string_bytes c.args.out.now ++ size_rule l.width c.args.height)) c.layout_of-layout.ensures.value c.put_size_rule.ensures
