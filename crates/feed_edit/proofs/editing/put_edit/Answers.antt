use Rattle.feed_edit.proofs.Changing.{made_delete, made_insert}
use Rattle.feed_edit.proofs.editing.put_edit.Goals as goal

pub returns-in_ok-insert_at-in-Insert-clause-made : goal.returns-in_ok-insert_at-in-Insert-clause-made
returns-in_ok-insert_at-in-Insert-clause-made g c =
    let op = c.in_ok-insert_at-in-Insert.field-0 in
    rw c.in-Insert.is (op, made_insert c.args.replica.now c.insert_at.new.self c.in-Insert.place c.in-Insert.symbol op c.in_ok-insert_at-in-Insert.ensures.allowed c.in_ok-insert_at-in-Insert.ensures.made)

pub returns-in_ok-delete_at-in-Delete-clause-made : goal.returns-in_ok-delete_at-in-Delete-clause-made
returns-in_ok-delete_at-in-Delete-clause-made g c =
    let op = c.in_ok-delete_at-in-Delete.field-0 in
    rw c.in-Delete.is (op, made_delete c.args.replica.now c.delete_at.new.self c.in-Delete.place op c.in_ok-delete_at-in-Delete.ensures.allowed c.in_ok-delete_at-in-Delete.ensures.made)
