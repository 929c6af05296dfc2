use Rattle.std.proofs.Common.{◌<◌, ◌+◌, ◌++◌, [], ◌∷◌, ◌∙◌, ap, arith, refl, set, subst, sym, take}
use Rattle.std.proofs.lemmas.List.{length-take, take_more}
use Rattle.feed_history.specs.RoomsTables.{AreTimes}
use Rattle.feed_history.proofs.RoomsTables.{few_times, none_times, one_times, read_times}
use Rattle.feed_history.proofs.rooms_made.times_of_each.Goals as goal

pub loop-site-init : goal.loop-site-init
loop-site-init g c = none_times 65536 c.in_ok-times.times.items (c.in_ok-times.ensures.items_if_clones_equal (λ y e. e)) refl

pub overflow_add-index_mut : goal.overflow_add-index_mut
overflow_add-index_mut g c =
    let within : c.from.result < 65536 = omega (arith, c.type_inv.sites c.loop-site.site-index, c.from.ensures) in
    let few = few_times (take c.loop-site.site-index c.args.sites.now) c.loop-site.times.items c.from.result c.loop-site.invariant within in
    let read = read_times (take c.loop-site.site-index c.args.sites.now) c.loop-site.times.items c.from.result c.index_mut.result.now c.loop-site.invariant within c.index_mut.ensures.value in
    omega (arith, few, read, length-take c.loop-site.site-index c.args.sites.now)

pub loop-site-preserved : goal.loop-site-preserved
loop-site-preserved g c =
    let within : c.from.result < 65536 = omega (arith, c.type_inv.sites c.loop-site.site-index, c.from.ensures) in
    let read = read_times (take c.loop-site.site-index c.args.sites.now) c.loop-site.times.items c.from.result c.index_mut.result.now c.loop-site.invariant within c.index_mut.ensures.value in
    let more = take_more c.args.sites.now c.loop-site.site-index 0 c.loop-site-test.true ∙ ap (λ n. take c.loop-site.site-index c.args.sites.now ++ n ∷ []) (sym c.from.ensures) in
    subst (λ sites. AreTimes sites (set c.loop-site.times.items c.from.result (c.index_mut.result.now + 1))) (sym more)
    (one_times (take c.loop-site.site-index c.args.sites.now) c.loop-site.times.items c.from.result (c.index_mut.result.now + 1) c.loop-site.invariant within (ap (λ n. n + 1) read))
