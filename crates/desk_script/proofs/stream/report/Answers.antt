use Rattle.std.proofs.Common.{◌≡◌, ◌++◌, ◌∷◌, [], inl, inr, refl, rules, subst, true}
use Rattle.std.proofs.lemmas.Result.{on_err_weaker, on_ok_weaker}
use Rattle.std.specs.Io.KnownBytes.{Appends}
use Rattle.script_answers.specs.Reply.{Refused, is_long, reply_values}
use Rattle.script_answers.specs.Text.{text}
use Rattle.script_answers.specs.declared.text.Refusal.TheVariants as refusals
use Rattle.feed_stored.specs.Sending.{WritesPrefix}
use Rattle.desk_script.proofs.stream.report.Goals as goal

pub returns-in-Some-clause-err : goal.returns-in-Some-clause-err
returns-in-Some-clause-err g c =
    let is : c.as_bytes.result.now ≡ text (reply_values c.args.answer.now) ++ 10 ∷ [] = search rules in
    on_err_weaker c.send.result (λ prefix. (reply_values c.args.answer.now, inl refl, subst (WritesPrefix (g.W.Write.contents c.args.writer.now) (g.W.Write.contents c.send.new.writer)) is prefix)) c.send.ensures.err

pub returns-in-Err-clause-ok : goal.returns-in-Err-clause-ok
returns-in-Err-clause-ok g c =
    let is : c.as_bytes-in-Err.result.now ≡ text (Refused refusals.Memory) ++ 10 ∷ [] = search rules in
    let long : is_long (reply_values c.args.answer.now) ≡ true = search rules in
    on_ok_weaker c.send-in-Err.result (λ written. (Refused refusals.Memory, inr (long, refl), subst (Appends (g.W.Write.contents c.args.writer.now) (g.W.Write.contents c.send-in-Err.new.writer)) is written)) c.send-in-Err.ensures.ok

pub returns-in-Err-clause-err : goal.returns-in-Err-clause-err
returns-in-Err-clause-err g c =
    let is : c.as_bytes-in-Err.result.now ≡ text (Refused refusals.Memory) ++ 10 ∷ [] = search rules in
    let long : is_long (reply_values c.args.answer.now) ≡ true = search rules in
    on_err_weaker c.send-in-Err.result (λ prefix. (Refused refusals.Memory, inr (long, refl), subst (WritesPrefix (g.W.Write.contents c.args.writer.now) (g.W.Write.contents c.send-in-Err.new.writer)) is prefix)) c.send-in-Err.ensures.err
