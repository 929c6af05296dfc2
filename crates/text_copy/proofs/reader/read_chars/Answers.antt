use Rattle.std.proofs.Common.{length, ◌++◌, sym, ap, ◌∙◌, arith}
use Rattle.std.specs.Prelude.{option_to_list}
use Rattle.std.proofs.lemmas.Iterator.{YieldsList-from_chars}
use Rattle.std.proofs.lemmas.List.{length_push, append-nil}
use Rattle.std.proofs.lemmas.Iterator.Consumers.{YieldsList-turn, YieldsList-end}
use Rattle.std.specs.Str.{chars}
use Rattle.text_copy.proofs.Loops.{read_on, read_halt, read_end, ends_well, ends_badly, handed_on, place_after}
use Rattle.text_copy.proofs.reader.read_chars.Goals as goal

pub returns-in_err-next : goal.returns-in_err-next
returns-in_err-next g c =
    let t = YieldsList-turn (YieldsList-from_chars c.args.text.now c.utf8.text cc) c.loop-c.yielded _ c.loop-c.yielded_by _ _ c.in-Some.c c.in-Some.is c.next.ensures.steps in
    let halt = read_halt c.args.plain c.args.whole c.loop-c.symbols.items c.loop-c.state c.loop-c.here (chars c.args.text.now) (length c.loop-c.yielded) c.in-Some.c c.in_err-next.field-0.0 _ t (sym c.step.ensures ∙ c.in_err-next.was) c.loop-c.invariant.0 in
    handed_on _ c.from_residual-in_err-next.result c.in_err-next.field-0.0 _ c.from_residual-in_err-next.ensures.1 halt

pub returns-in_err-end : goal.returns-in_err-end
returns-in_err-end g c =
    let t = YieldsList-end (YieldsList-from_chars c.args.text.now c.utf8.text cc) c.loop-c.yielded _ c.loop-c.yielded_by _ _ c.in-None.is c.next.ensures.steps in
    let cs = chars c.args.text.now in
    let ended = read_end c.args.plain c.args.whole c.loop-c.symbols.items c.loop-c.state c.loop-c.here cs (length c.loop-c.yielded) _ (omega (arith, t.1)) c.loop-c.invariant.0 in
    let halt = ends_badly c.args.whole c.loop-c.symbols.items c.loop-c.state c.loop-c.here c.in_err-end.field-0.0 _ (sym c.end.ensures ∙ c.in_err-end.was) ended in
    handed_on _ c.from_residual-in_err-end.result c.in_err-end.field-0.0 _ c.from_residual-in_err-end.ensures.1 halt

pub returns : goal.returns
returns g c =
    let t = YieldsList-end (YieldsList-from_chars c.args.text.now c.utf8.text cc) c.loop-c.yielded _ c.loop-c.yielded_by _ _ c.in-None.is c.next.ensures.steps in
    let cs = chars c.args.text.now in
    let ended = read_end c.args.plain c.args.whole c.loop-c.symbols.items c.loop-c.state c.loop-c.here cs (length c.loop-c.yielded) _ (omega (arith, t.1)) c.loop-c.invariant.0 in
    ends_well c.args.whole c.loop-c.symbols.items c.loop-c.state c.loop-c.here _ (sym c.end.ensures ∙ c.in_ok-end.was) ended

pub loop-c-preserved-in-Continue-branch-3 : goal.loop-c-preserved-in-Continue-branch-3
loop-c-preserved-in-Continue-branch-3 g c =
    let cs = chars c.args.text.now in
    let n = length c.loop-c.yielded in
    let t = YieldsList-turn (YieldsList-from_chars c.args.text.now c.utf8.text cc) c.loop-c.yielded _ c.loop-c.yielded_by _ _ c.in-Some.c c.in-Some.is c.next.ensures.steps in
    let items = c.in_ok-push.ensures.items ∙ ap (λ o. c.loop-c.symbols.items ++ option_to_list o) (sym c.in-Some-symbol.is) in
    let more = length_push c.loop-c.yielded c.in-Some.c in
    let read =
    read_on c.args.plain c.args.whole c.loop-c.symbols.items c.push.new.self.items c.loop-c.state c.loop-c.here c.after-here.result cs n _ c.in-Some.c c.in_ok-next.next c.in_ok-next.symbol _ t
    (sym c.step.ensures ∙ c.in_ok-next.was) items c.after-here.ensures more c.loop-c.invariant.0 in
    let place = place_after c.loop-c.here c.after-here.result c.in-Some.c n _ c.after-here.ensures more c.loop-c.invariant.1 c.loop-c.invariant.2 in
    (read, place.0, place.1)

pub loop-c-preserved : goal.loop-c-preserved
loop-c-preserved g c =
    let cs = chars c.args.text.now in
    let n = length c.loop-c.yielded in
    let t = YieldsList-turn (YieldsList-from_chars c.args.text.now c.utf8.text cc) c.loop-c.yielded _ c.loop-c.yielded_by _ _ c.in-Some.c c.in-Some.is c.next.ensures.steps in
    let items = sym (append-nil c.loop-c.symbols.items) ∙ ap (λ o. c.loop-c.symbols.items ++ option_to_list o) (sym c.in_default.is) in
    let more = length_push c.loop-c.yielded c.in-Some.c in
    let read =
    read_on c.args.plain c.args.whole c.loop-c.symbols.items c.loop-c.symbols.items c.loop-c.state c.loop-c.here c.after-here.result cs n _ c.in-Some.c c.in_ok-next.next c.in_ok-next.symbol _ t
    (sym c.step.ensures ∙ c.in_ok-next.was) items c.after-here.ensures more c.loop-c.invariant.0 in
    let place = place_after c.loop-c.here c.after-here.result c.in-Some.c n _ c.after-here.ensures more c.loop-c.invariant.1 c.loop-c.invariant.2 in
    (read, place.0, place.1)
