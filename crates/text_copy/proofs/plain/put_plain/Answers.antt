use Rattle.std.proofs.Common.{string_bytes, length, ◌++◌}
use Rattle.std.proofs.lemmas.Iterator.{YieldsList-from_chars}
use Rattle.std.proofs.lemmas.Iterator.Consumers.{YieldsList-turn, YieldsList-end}
use Rattle.std.proofs.lemmas.List.{length_push}
use Rattle.std.specs.Str.{chars, encode_utf8_all}
use Rattle.text_copy.specs.Plain.{all_written_out}
use Rattle.text_copy.proofs.WrittenOut.{next_put, all_put}
use Rattle.text_copy.proofs.plain.put_plain.Goals as goal

pub loop-c-preserved : goal.loop-c-preserved
loop-c-preserved g c =
    let t = YieldsList-turn (YieldsList-from_chars c.args.text.now c.utf8.text cc) c.loop-c.yielded _ c.loop-c.yielded_by _ _ c.in-Some.c c.in-Some.is c.next.ensures.steps in
    next_put (string_bytes c.loop-c.out) (string_bytes c.put_written_out.new.out) (string_bytes c.args.out.now ++ encode_utf8_all (all_written_out (chars c.args.text.now)))
    (chars c.args.text.now) c.in-Some.c (length c.loop-c.yielded) _ t c.in_ok-put_written_out.ensures (length_push c.loop-c.yielded c.in-Some.c) c.loop-c.invariant

pub returns : goal.returns
returns g c =
    let t = YieldsList-end (YieldsList-from_chars c.args.text.now c.utf8.text cc) c.loop-c.yielded _ c.loop-c.yielded_by _ _ c.in-None.is c.next.ensures.steps in
    all_put (string_bytes c.loop-c.out) (string_bytes c.args.out.now) c.args.text.now (length c.loop-c.yielded) t.1 c.loop-c.invariant
