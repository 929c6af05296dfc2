use Rattle.std.proofs.Common.{◌≡◌, length, ◌++◌, ◌∷◌, [], ◌∙◌, ap, append-nil, sym, arith}
use Rattle.std.specs.Prelude.{if◌then◌else◌}
use Rattle.std.specs.Str.{chars}
use Rattle.std.proofs.lemmas.Iterator.{YieldsList-from_chars}
use Rattle.std.proofs.lemmas.List.{length_push}
use Rattle.std.proofs.lemmas.Iterator.Consumers.{YieldsList-turn, YieldsList-end}
use Rattle.text_copy.proofs.Loops.{place_after}
use Rattle.view_preview.specs.Places.{ends_symbol}
use Rattle.view_preview.proofs.Placed.{behind_end, behind_on, placed_end, placed_on}
use Rattle.view_preview.proofs.places.places_of.Goals as goal
use Rattle.view_preview.proofs.places.places_of.Goals.{then-ends_symbol+in_ok-push, else-ends_symbol}

pub loop-c-preserved : goal.loop-c-preserved
loop-c-preserved g c =
    let cs = chars c.args.text.now in
    let n = length c.loop-c.yielded in
    let here = c.loop-c.here in
    let before = c.loop-c.places.items in
    let t = YieldsList-turn (YieldsList-from_chars c.args.text.now c.utf8.text cc) c.loop-c.yielded _ c.loop-c.yielded_by _ _ c.in-Some.c c.in-Some.is c.next.ensures.steps in
    let more = length_push c.loop-c.yielded c.in-Some.c in
    let pushed : c.if-ends_symbol.places.items ≡ before ++ (if ends_symbol c.args.plain c.loop-c.escaped c.in-Some.c then here ∷ [] else []) = elim c.if-ends_symbol.branch [
      | then-ends_symbol+in_ok-push w ↦
          rw w.places-is (w.in_ok-push.ensures.items ∙ ap (λ b. before ++ (if b then here ∷ [] else [])) (sym (sym c.ends_symbol.ensures ∙ w.if-ends_symbol.true)))
      | else-ends_symbol w ↦
          rw w.places-is (sym (append-nil before) ∙ ap (λ b. before ++ (if b then here ∷ [] else [])) (sym (sym c.ends_symbol.ensures ∙ w.if-ends_symbol.false)))
    ] in
    let placed = placed_on c.args.plain c.loop-c.escaped c.escapes-escaped.result here c.after-here.result cs n _ c.in-Some.c before c.if-ends_symbol.places.items _ t more pushed c.escapes-escaped.ensures c.after-here.ensures c.loop-c.invariant.0 in
    let place = place_after here c.after-here.result c.in-Some.c n _ c.after-here.ensures more c.loop-c.invariant.2 c.loop-c.invariant.3 in
    let end = behind_on here c.after-here.result _ cs n _ c.in-Some.c t more c.after-here.ensures c.loop-c.invariant.1 in
    (placed, end, place.0, place.1)

pub returns-clause-places : goal.returns-clause-places
returns-clause-places g c =
    let t = YieldsList-end (YieldsList-from_chars c.args.text.now c.utf8.text cc) c.loop-c.yielded _ c.loop-c.yielded_by _ _ c.in-None.is c.next.ensures.steps in
    placed_end c.args.plain c.loop-c.escaped c.loop-c.here (chars c.args.text.now) (length c.loop-c.yielded) c.loop-c.places.items _ (omega (arith, t.1)) c.loop-c.invariant.0

pub returns-clause-end : goal.returns-clause-end
returns-clause-end g c =
    let t = YieldsList-end (YieldsList-from_chars c.args.text.now c.utf8.text cc) c.loop-c.yielded _ c.loop-c.yielded_by _ _ c.in-None.is c.next.ensures.steps in
    behind_end c.loop-c.here _ (chars c.args.text.now) (length c.loop-c.yielded) (omega (arith, t.1)) c.loop-c.invariant.1
