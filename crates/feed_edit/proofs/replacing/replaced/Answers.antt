use Rattle.std.proofs.Common.{◌≡◌, ◌+◌, ◌-◌, ◌++◌, ◌∙◌, ◌∷◌, ap, arith, length, take, drop, subst, sym, drop-cons, add-one}
use Rattle.std.specs.Prelude.{slice_index_or}
use Rattle.std.proofs.lemmas.List.{append_assoc}
use Rattle.feed_edit.specs.Reporting.{AreApart}
use Rattle.feed_edit.specs.Replacing.{replaced_at}
use Rattle.feed_edit.proofs.Apart.{begins_within, goes_on}
use Rattle.feed_edit.proofs.replacing.replaced.Goals as goal

pub add_turn-requires-clause-within : goal.add_turn-requires-clause-within
add_turn-requires-clause-within g c =
    let i = c.loop-place.place-index in
    let next = drop-cons c.args.places.now i 0 c.loop-place-test.true in
    let a = subst (λ l. AreApart c.args.count c.loop-place.from (length c.args.copy.now) l) next c.loop-place.invariant.apart in
    omega (arith, begins_within _ _ _ _ a.1)

pub overflow_add-from : goal.overflow_add-from
overflow_add-from g c =
    let i = c.loop-place.place-index in
    let next = drop-cons c.args.places.now i 0 c.loop-place-test.true in
    let a = subst (λ l. AreApart c.args.count c.loop-place.from (length c.args.copy.now) l) next c.loop-place.invariant.apart in
    omega (arith, begins_within _ _ _ _ a.1)

pub loop-place-preserved : goal.loop-place-preserved
loop-place-preserved g c =
    let i = c.loop-place.place-index in
    let place = slice_index_or c.args.places.now i 0 in
    let more = drop (i + 1) c.args.places.now in
    let next : drop i c.args.places.now ≡ place ∷ more = drop-cons c.args.places.now i 0 c.loop-place-test.true ∙ ap (λ n. place ∷ drop n c.args.places.now) (sym (add-one i)) in
    let a = subst (λ l. AreApart c.args.count c.loop-place.from (length c.args.copy.now) l) next c.loop-place.invariant.apart in
    let front = take (place - c.loop-place.from) (drop c.loop-place.from c.args.copy.now) in
    let rest = drop (place + c.args.count) (replaced_at more c.args.count c.args.new.now c.args.copy.now) in
    let goes : drop c.loop-place.from (replaced_at (place ∷ more) c.args.count c.args.new.now c.args.copy.now) ≡ front ++ (c.args.new.now ++ rest) =
    goes_on c.args.count c.args.new.now c.args.copy.now c.loop-place.from place more a in
    let here = ap (λ l. drop c.loop-place.from (replaced_at l c.args.count c.args.new.now c.args.copy.now)) next ∙ goes in
    record {
      apart = a.1;
      text = ap (λ l. l ++ rest) c.in_ok-add_turn.ensures
          ∙ append_assoc c.loop-place.text.items (front ++ c.args.new.now) rest
          ∙ ap (λ l. c.loop-place.text.items ++ l) (append_assoc front c.args.new.now rest ∙ sym here)
          ∙ c.loop-place.invariant.text;
    }
