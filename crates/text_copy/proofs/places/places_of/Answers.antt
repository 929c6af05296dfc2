use Rattle.std.proofs.Common.{◌≡◌, length, refl, arith}
use Rattle.text_copy.specs.Places.{stands}
use Rattle.text_copy.proofs.Finding.{found_all, none_more, one_more}
use Rattle.text_copy.proofs.places.places_of.Goals as goal
use Rattle.text_copy.proofs.places.places_of.Goals.{else-loop-place-test, then-loop-place-test+else-place-place-end, then-stands+in_ok-push, else-stands}

pub loop-place-preserved : goal.loop-place-preserved
loop-place-preserved g c =
    let p = stands c.args.text.now c.args.copy.now in
    elim c.if-stands.branch [
      | then-stands+in_ok-push w ↦
          one_more p c.loop-place.place c.loop-place.places w.push.new.self c.if-stands.places c.stands.result c.loop-place.invariant c.stands.ensures w.places-is w.if-stands.true w.in_ok-push.ensures.items
      | else-stands w ↦
          none_more p c.loop-place.place c.loop-place.places c.loop-place.places c.if-stands.places c.stands.result c.loop-place.invariant c.stands.ensures w.places-is w.if-stands.false refl
    ]

pub returns : goal.returns
returns g c =
    let p = stands c.args.text.now c.args.copy.now in
    elim c.loop-place-test.branch [
      | else-loop-place-test w ↦ absurd (omega (arith, w.loop-place-test.false))
      | then-loop-place-test+else-place-place-end w ↦
          let last : c.loop-place.place ≡ length c.args.copy.now = omega arith in
          found_all c.args.text.now c.args.copy.now c.loop-place-test.places.items c.loop-place.place last
          (elim w.if-stands.branch [
            | then-stands+in_ok-push v ↦
                one_more p c.loop-place.place c.loop-place.places w.if-stands.places c.loop-place-test.places w.stands.result c.loop-place.invariant w.stands.ensures w.places-is v.if-stands.true
                (rw v.places-is v.in_ok-push.ensures.items)
            | else-stands v ↦
                none_more p c.loop-place.place c.loop-place.places w.if-stands.places c.loop-place-test.places w.stands.result c.loop-place.invariant w.stands.ensures w.places-is v.if-stands.false
                v.places-is
          ])
    ]
