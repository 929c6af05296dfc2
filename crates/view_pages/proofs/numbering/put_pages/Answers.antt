use Rattle.std.proofs.Common.{◌≡◌, ◌<◌, ◌+◌, ◌∷◌, [], ◌∙◌, sym, subst, ap, map, length, drop, get_or, rules, arith, string_bytes}
use Rattle.std.proofs.lemmas.List.{get_or-map, length-map}
use Rattle.view_pages.proofs.Putting.{from_text, holds_twice, next_put, next_unput, this_unput}
use Rattle.view_pages.proofs.numbering.put_pages.Goals as goal

pub loop-before-preserved : goal.loop-before-preserved
loop-before-preserved g c =
    let texts = map string_bytes c.args.texts.now in
    let n = c.loop-before.before in
    let is : get_or texts n [] ≡ c.as_str.result.now =
    get_or-map string_bytes c.args.texts.now n c.index-texts-before.result [] c.loop-before-test.true ∙ ap string_bytes (sym c.index-texts-before.is) ∙ sym c.as_str.ensures.value in
    let here = from_text texts n [] c.as_str.result.now (subst (λ m. n < m) (sym (length-map c.args.texts.now string_bytes)) c.loop-before-test.true) is in
    let old = c.loop-before.invariant in (
      λ last rest. old.0 last (next_put c.args.job.now c.args.name.now n texts c.as_str.result.now _ _ last here c.in_default.ensures.ok rest),
      (
        λ last fault rest. old.1.0 last fault (next_unput c.args.job.now c.args.name.now n texts c.as_str.result.now _ _ last fault here c.in_default.ensures.ok rest),
        (c.in_default.ensures.counted ∙ old.1.1.0, holds_twice _ _ _ old.1.1.1 c.put_page-put.ensures.held),
      ),
    )

pub returns-in-Err-clause-err : goal.returns-in-Err-clause-err
returns-in-Err-clause-err g c =
    let texts = map string_bytes c.args.texts.now in
    let n = c.loop-before.before in
    let is : get_or texts n [] ≡ c.as_str.result.now =
    get_or-map string_bytes c.args.texts.now n c.index-texts-before.result [] c.loop-before-test.true ∙ ap string_bytes (sym c.index-texts-before.is) ∙ sym c.as_str.ensures.value in
    let here = from_text texts n [] c.as_str.result.now (subst (λ m. n < m) (sym (length-map c.args.texts.now string_bytes)) c.loop-before-test.true) is in
    c.loop-before.invariant.1.0 _ c.in-Err.why (this_unput c.args.job.now c.args.name.now n texts c.as_str.result.now _ _ c.in-Err.why here c.in-Err.ensures.err)
