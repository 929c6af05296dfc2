use Rattle.std.proofs.Common.{length, string_bytes, arith}
use Rattle.std.specs.Str.{chars}
use Rattle.std.proofs.lemmas.Iterator.{YieldsList-from_chars}
use Rattle.std.proofs.lemmas.Iterator.Consumers.{YieldsList-turn, YieldsList-end}
use Rattle.std.proofs.lemmas.List.{length_push}
use Rattle.view_pages.proofs.Escapes.{escaped_end, escaped_on}
use Rattle.view_pages.proofs.names.put_escaped_text.Goals as goal

pub loop-ch-preserved : goal.loop-ch-preserved
loop-ch-preserved g c =
    let t = YieldsList-turn (YieldsList-from_chars c.args.text.now c.utf8.text cc) c.loop-ch.yielded _ c.loop-ch.yielded_by _ _ c.in-Some.ch c.in-Some.is c.next.ensures.steps in
    escaped_on (chars c.args.text.now) (length c.loop-ch.yielded) _ c.in-Some.ch (string_bytes c.loop-ch.out) (string_bytes c.put_escaped.new.out) _ t
    (length_push c.loop-ch.yielded c.in-Some.ch) c.in_ok-put_escaped.ensures.text c.loop-ch.invariant

pub returns : goal.returns
returns g c =
    let t = YieldsList-end (YieldsList-from_chars c.args.text.now c.utf8.text cc) c.loop-ch.yielded _ c.loop-ch.yielded_by _ _ c.in-None.is c.next.ensures.steps in
    escaped_end (chars c.args.text.now) (length c.loop-ch.yielded) (string_bytes c.loop-ch.out) _ (omega (arith, t.1)) c.loop-ch.invariant
