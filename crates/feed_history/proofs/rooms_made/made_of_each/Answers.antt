use Rattle.std.proofs.Common.{◌≡◌, ◌-◌, arith, drop, length, refl, subst, sym}
use Rattle.std.proofs.lemmas.List.{drop_all, length-drop, take_at}
use Rattle.feed_history.specs.RoomsTables.{AreMade}
use Rattle.feed_history.proofs.RoomsTables.{none_made, one_back}
use Rattle.feed_history.proofs.rooms_made.made_of_each.Goals as goal

pub ops-init : goal.ops-init
ops-init g c = record {
  within = omega arith;
  so_far = subst (λ ops. AreMade ops c.in_ok-rooms.rooms.items) (sym (drop_all (length c.args.ops.now) c.args.ops.now (omega arith)))
      (none_made 65536 c.in_ok-rooms.rooms.items (c.in_ok-rooms.ensures.items_if_clones_equal (λ y e. e)) refl);
}

pub note-requires : goal.note-requires
note-requires g c = (drop c.ops.at c.args.ops.now, subst (AreMade (drop c.ops.at c.args.ops.now)) (sym c.deref_mut.ensures.value) c.ops.invariant.so_far, omega (arith, length-drop c.ops.at c.args.ops.now, c.ops.invariant.within, c.ops-test.true))

pub ops-preserved : goal.ops-preserved
ops-preserved g c =
    let noted = c.note.ensures (drop c.ops.at c.args.ops.now) (subst (AreMade (drop c.ops.at c.args.ops.now)) (sym c.deref_mut.ensures.value) c.ops.invariant.so_far) in
    let rows = subst (λ ops. AreMade ops c.note.new.rooms) (sym (one_back c.args.ops.now c.ops.at _ c.ops-test.true c.ops.invariant.within)) noted in
    let many : length c.note.new.rooms ≡ c.ops.rooms.len = omega (arith, rows.length, c.ops.invariant.so_far.length) in
    record {
      within = omega (arith, c.ops.invariant.within);
      so_far = subst (AreMade (drop (c.ops.at - 1) c.args.ops.now)) (sym (take_at c.note.new.rooms (drop (length c.note.new.rooms) c.ops.rooms.items) c.ops.rooms.len many)) rows;
    }

pub returns : goal.returns
returns g c = subst (λ n. AreMade (drop n c.args.ops.now) c.ops.rooms.items) (let z : c.ops.at ≡ 0 = omega (arith, c.ops-test.false) in z) c.ops.invariant.so_far
