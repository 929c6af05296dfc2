use Rattle.std.proofs.Common.{◌≡◌, List, ◌++◌, ap, sym, ◌∙◌, subst, string_bytes}
use Rattle.std.specs.Prelude.{OnOk}
use Rattle.std.specs.List.{All}
use Rattle.std.proofs.lemmas.List.Elements.{All-drop, All-take}
use Rattle.view_galley.specs.Galley.{Stands}
use Rattle.view_galley.specs.Values.{LineValues}
use Rattle.view_proof.proofs.Texts.{three}
use Rattle.view_pages.specs.Layouts.{lines_on}
use Rattle.view_pages.specs.Pages.{body_text, page_body}
use Rattle.view_pages.proofs.pages.put_page_body.Goals as goal

pub put_body-requires-clause-lines : goal.put_body-requires-clause-lines
put_body-requires-clause-lines g c =
    let stands = Stands c.args.copy.now c.args.galley.now.terms.case in
    subst (λ (ls : List LineValues). All stands ls) (sym (c.lines_on-lines.ensures ∙ ap (lines_on c.args.layout.lines c.args.number) c.lines.ensures))
    (All-take stands c.args.layout.lines _ (All-drop stands _ c.args.galley.now.lines c.requires.lines))

pub returns : goal.returns
unfolding page_body
returns g c =
    three c.put_body.result (string_bytes c.args.out.now) (string_bytes c.put_head.new.out) (string_bytes c.put_columns.new.out) (string_bytes c.put_body.new.out) _ _ _
    c.in_ok-put_head.ensures c.in_ok-put_columns.ensures
    (subst (λ (ls : List LineValues). OnOk c.put_body.result (string_bytes c.put_body.new.out ≡ string_bytes c.put_columns.new.out ++ body_text c.args.copy.now c.args.layout.paper c.args.galley.now ls))
    (c.lines_on-lines.ensures ∙ ap (lines_on c.args.layout.lines c.args.number) c.lines.ensures) c.put_body.ensures)
