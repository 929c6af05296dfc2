use Rattle.std.proofs.Common.{◌≡◌, ◌++◌, ◌∙◌, ap, arith, length, map}
use Rattle.std.specs.Prelude.{string_bytes}
use Rattle.desk_ops.specs.Faults.{faults_of}
use Rattle.feed_history.specs.Rooms.{copy_words, fault_site, site_lines}
use Rattle.feed_history.specs.RoomsTables.{AreRooms}
use Rattle.feed_history.proofs.RoomsLines.{rooms_from}
use Rattle.feed_history.proofs.rooms.text_of.Goals as goal

pub put_lines-requires : goal.put_lines-requires
put_lines-requires g c = (
  c.args.replica.now.ops,
  rooms_from c.args.replica.now.ops c.deref.result.now (map fault_site c.deref-2.result.now) c.in_ok-made.made.items c.deref-3.result.now
      c.in_ok-shown.shown.items c.deref-4.result.now c.in_ok-failed.failed.items c.deref-5.result.now
      (c.deref.ensures.value ∙ c.in_ok-ops.ensures.items) (ap (map fault_site) (c.deref-2.ensures.value ∙ c.in_ok-faults.ensures.faults))
      c.in_ok-made.ensures c.in_ok-shown.ensures c.in_ok-failed.ensures c.deref-3.ensures.value c.deref-4.ensures.value c.deref-5.ensures.value,
)

pub returns : goal.returns
returns g c =
    let rooms : AreRooms c.args.replica.now.ops c.deref-3.result.now c.deref-4.result.now c.deref-5.result.now = rooms_from c.args.replica.now.ops c.deref.result.now (map fault_site c.deref-2.result.now) c.in_ok-made.made.items c.deref-3.result.now
    c.in_ok-shown.shown.items c.deref-4.result.now c.in_ok-failed.failed.items c.deref-5.result.now
    (c.deref.ensures.value ∙ c.in_ok-ops.ensures.items) (ap (map fault_site) (c.deref-2.ensures.value ∙ c.in_ok-faults.ensures.faults))
    c.in_ok-made.ensures c.in_ok-shown.ensures c.in_ok-failed.ensures c.deref-3.ensures.value c.deref-4.ensures.value c.deref-5.ensures.value in
    let lines : string_bytes c.put_lines.new.out ≡ site_lines c.args.replica.now.ops = c.in_ok-put_lines.ensures c.args.replica.now.ops rooms ∙ ap (λ t. t ++ site_lines c.args.replica.now.ops) c.new-text.ensures.bytes in
    let held = c.deref-6.ensures.value ∙ c.in_ok-ops.ensures.items in
    let failed : c.len.result ≡ length (faults_of c.args.replica.now.ops) = omega (arith, c.len.ensures, ap length c.in_ok-faults.ensures.faults) in
    c.in_ok-put_copy.ensures ∙ (λ i. lines i ++ copy_words (held i) (c.copy_len.ensures i) (failed i))
