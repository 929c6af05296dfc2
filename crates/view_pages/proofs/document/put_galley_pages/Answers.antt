use Rattle.std.proofs.Common.{ap, ap₂, arith, refl, ◌∙◌, ◌++◌, string_bytes}
use Rattle.view_proof.proofs.Texts.{two}
use Rattle.view_pages.proofs.Texts.{pushed_as}
use Rattle.view_pages.specs.Document.{galley_pages}
use Rattle.view_pages.specs.Names.{heading_text}
use Rattle.view_pages.specs.Pages.{pages_text}
use Rattle.view_pages.proofs.document.put_galley_pages.Goals as goal

pub put_pages-requires-clause-some : goal.put_pages-requires-clause-some
put_pages-requires-clause-some g c = rw c.layout_of-layout.ensures.value (omega arith)

pub put_pages-requires-clause-pages : goal.put_pages-requires-clause-pages
put_pages-requires-clause-pages g c = rw c.layout_of-layout.ensures.value refl

pub returns : goal.returns
unfolding galley_pages
returns g c =
    two c.push_str.result (string_bytes c.args.out.now) (string_bytes c.put_pages.new.out) (string_bytes c.push_str.new.self) _ _
    (c.in_ok-put_pages.ensures ∙ ap₂ (λ l t. string_bytes c.args.out.now ++ pages_text c.args.copy.now c.args.galley.now l t) c.layout_of-layout.ensures.value
    (c.as_str.ensures.value ∙ c.in_ok-heading.ensures ∙ ap (heading_text c.args.job.now) c.values.ensures))
    (pushed_as c.push_str.result (string_bytes c.put_pages.new.out) (string_bytes c.push_str.new.self) _ _ c.push_str.ensures.bytes c.document_end.ensures)
