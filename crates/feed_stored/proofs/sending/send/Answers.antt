use Rattle.std.proofs.Common.{◌+◌, take, drop, sym, take-append-drop}
use Rattle.std.proofs.KnownBytes.{Appends-kept}
use Rattle.feed_stored.proofs.Bytes.{sends_more}
use Rattle.feed_stored.proofs.sending.send.Goals as goal

pub returns-in-Ok-eq0-clause-err : goal.returns-in-Ok-eq0-clause-err
returns-in-Ok-eq0-clause-err g c =
    let more = sends_more _ _ _ c.args.bytes.now c.loop-sent.sent c.in-Ok-eq0.field-0 c.loop-sent.invariant.within c.in-Ok-eq0.ensures.bound c.loop-sent.invariant.sent c.in-Ok-eq0.ensures.bytes in
    (take (c.loop-sent.sent + c.in-Ok-eq0.field-0) c.args.bytes.now, drop (c.loop-sent.sent + c.in-Ok-eq0.field-0) c.args.bytes.now, more.sent, sym (take-append-drop (c.loop-sent.sent + c.in-Ok-eq0.field-0) c.args.bytes.now))

pub loop-sent-preserved : goal.loop-sent-preserved
loop-sent-preserved g c =
    let more = sends_more _ _ _ c.args.bytes.now c.loop-sent.sent c.in-Ok.n c.loop-sent.invariant.within c.in-Ok.ensures.bound c.loop-sent.invariant.sent c.in-Ok.ensures.bytes in
    record { within = more.within; sent = more.sent }

pub returns-in-Err-clause-err : goal.returns-in-Err-clause-err
returns-in-Err-clause-err g c = (take c.loop-sent.sent c.args.bytes.now, drop c.loop-sent.sent c.args.bytes.now, Appends-kept _ _ _ _ c.loop-sent.invariant.sent c.in-Err.ensures.bytes, sym (take-append-drop c.loop-sent.sent c.args.bytes.now))
