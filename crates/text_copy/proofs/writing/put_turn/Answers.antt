use Rattle.std.proofs.Common.{string_bytes, sym, ◌∙◌}
use Rattle.text_copy.proofs.Texts.{turn_put}
use Rattle.text_copy.proofs.writing.put_turn.Goals as goal

pub returns : goal.returns
returns g c =
    turn_put (string_bytes c.args.out.now) (string_bytes c.put_mark.new.out) (string_bytes c.put_spaces-2.new.out) c.args.run c.args.count c.args.style c.put_mark-2.result (string_bytes c.put_mark-2.new.out)
    (sym c.is_same.ensures ∙ c.if-is_same.false) c.in_ok-put_mark.ensures c.in_ok-put_spaces.ensures c.put_mark-2.ensures
