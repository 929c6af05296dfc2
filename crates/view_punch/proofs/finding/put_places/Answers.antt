use Rattle.std.proofs.Common.{◌≡◌, ◌+◌, List, ℕ, ◌∙◌, ◌∷◌, ◌++◌, ap, arith, drop, subst, sym, drop-cons, add-one}
use Rattle.std.specs.Prelude.{slice_index_or}
use Rattle.std.specs.List.{flat_map}
use Rattle.std.proofs.lemmas.List.{append_assoc, take_rest}
use Rattle.desk_ops.specs.Lists.{RiseFrom}
use Rattle.view_punch.specs.Finding.{begun, line_of, numbered, place_text}
use Rattle.view_punch.proofs.Found.{goes_on}
use Rattle.view_punch.proofs.finding.put_places.Goals as goal

pub overflow_add-passed : goal.overflow_add-passed
overflow_add-passed g c =
    let i = c.loop-place.place-index in
    let inv = c.loop-place.invariant in
    let rise = subst (λ l. RiseFrom inv.low l) (drop-cons c.args.places.now i 0 c.loop-place-test.true) inv.rise in
    let more = goes_on c.loop-place.passed inv.low (slice_index_or c.args.places.now i 0) c.args.begins.now inv.within inv.passed rise.0 in
    let place = slice_index_or c.args.places.now i 0 in
    let count : c.begun-passed.result ≡ begun place (drop c.loop-place.passed c.args.begins.now) = c.begun-passed.ensures ∙ ap (begun place) (take_rest c.args.begins.now c.loop-place.passed) in
    omega (arith, more.0, count)

pub loop-place-preserved : goal.loop-place-preserved
loop-place-preserved g c =
    let i = c.loop-place.place-index in
    let inv = c.loop-place.invariant in
    let begins = c.args.begins.now in
    let place = slice_index_or c.args.places.now i 0 in
    let rest = drop (i + 1) c.args.places.now in
    let next : drop i c.args.places.now ≡ place ∷ rest = drop-cons c.args.places.now i 0 c.loop-place-test.true ∙ ap (λ n. place ∷ drop n c.args.places.now) (sym (add-one i)) in
    let rise = subst (λ l. RiseFrom inv.low l) next inv.rise in
    let more = goes_on c.loop-place.passed inv.low place begins inv.within inv.passed rise.0 in
    let count : c.begun-passed.result ≡ begun place (drop c.loop-place.passed begins) = c.begun-passed.ensures ∙ ap (begun place) (take_rest begins c.loop-place.passed) in
    let text : ℕ → List ℕ = λ p. place_text c.args.count c.args.copy.now p (line_of p begins) in
    let up : c.loop-place.passed + c.begun-passed.result ≡ begun place begins = omega (arith, count, inv.passed place rise.0) in
    let line : c.numbered.result ≡ line_of place begins = c.numbered.ensures ∙ ap numbered up in
    let here : c.put_place.new.out.items ≡ c.loop-place.out.items ++ text place =
    c.in_ok-put_place.ensures ∙ ap (λ l. c.loop-place.out.items ++ place_text c.args.count c.args.copy.now place l) line in
    record {
      within = omega (arith, more.0, count);
      low = place + 1;
      rise = rise.1;
      passed = λ q le. subst (λ n. begun q begins ≡ c.loop-place.passed + n + begun q (drop (c.loop-place.passed + n) begins)) (sym count) (more.1 q le);
      written = ap (λ l. l ++ flat_map text rest) here
          ∙ append_assoc c.loop-place.out.items (text place) (flat_map text rest)
          ∙ ap (λ l. c.loop-place.out.items ++ flat_map text l) (sym next)
          ∙ inv.written;
    }
