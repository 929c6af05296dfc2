use Rattle.std.proofs.Common.{[], ◌∷◌, ◌++◌, ◌∙◌, ap, map, string_bytes}
use Rattle.std.proofs.lemmas.List.{map-append}
use Rattle.view_pages.proofs.NextAlone.{next_alone}
use Rattle.view_pages.proofs.alone.all_alone.Goals as goal

pub loop-number-preserved : goal.loop-number-preserved
loop-number-preserved g c =
    let before = map string_bytes c.loop-number.texts.items in
    next_alone c.args.copy.now c.args.galley.now c.args.layout c.args.heading.now c.args.layout.pages c.loop-number.number before (map string_bytes c.push.new.self.items) _ c.loop-number-test.true
    (ap (map string_bytes) c.in_ok-push.ensures.items ∙ map-append string_bytes c.loop-number.texts.items (c.in_ok-page_alone.field-0 ∷ []) ∙ ap (λ t. before ++ t ∷ []) c.in_ok-page_alone.ensures) c.loop-number.invariant
