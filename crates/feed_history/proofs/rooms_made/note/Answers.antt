use Rattle.std.proofs.Common.{◌≡◌, ◌<◌, [], ◌∷◌, ◌∙◌, ap, arith, get_or, set, subst, sym}
use Rattle.std.specs.Prelude.{filter}
use Rattle.desk_ops.specs.declared.op.Stamp.{Stamp}
use Rattle.desk_ops.specs.Op.{stamp_of}
use Rattle.feed_history.specs.Rooms.{is_by, made_of}
use Rattle.feed_history.specs.RoomsTables.{AreMade}
use Rattle.feed_history.proofs.RoomsTables.{few_by, one_made}
use Rattle.feed_history.proofs.rooms_made.note.Goals as goal

pub with_first-requires : goal.with_first-requires
with_first-requires c = (filter (is_by c.from-site.result) c.requires.0, c.requires.1.each c.from-site.result _ (omega arith), few_by c.requires.0 c.from-site.result 18446744073709551616 c.requires.2)

pub returns : goal.returns
returns c = λ ops h.
    let site : c.from-site.result ≡ (stamp_of c.args.op.now).site = c.from-site.ensures ∙ ap (λ (s : Stamp). s.site) c.stamp.ensures in
    let few : (stamp_of c.args.op.now).site < 65536 = omega (arith, site) in
    let row = ap (λ n. get_or c.args.rooms.now n (made_of [])) site ∙ h.each (stamp_of c.args.op.now).site (made_of []) few in
    let more = c.with_first.ensures (filter (is_by (stamp_of c.args.op.now).site) ops) row in
    subst (λ n. AreMade (c.args.op.now ∷ ops) (set c.args.rooms.now n c.with_first.result)) (sym site) (one_made ops c.args.rooms.now c.args.op.now c.with_first.result h few more)
