use Rattle.std.proofs.Common.{length, ◌++◌, Some, sym, ap, ◌∙◌, arith}
use Rattle.std.specs.Prelude.{option_to_list}
use Rattle.std.proofs.lemmas.Iterator.{YieldsList-from_chars}
use Rattle.std.proofs.lemmas.List.{length_push, append-nil}
use Rattle.std.proofs.lemmas.Iterator.Consumers.{YieldsList-turn, YieldsList-end}
use Rattle.std.specs.Str.{chars}
use Rattle.script_answers.specs.declared.copy.Place.TheVariants.{Run}
use Rattle.script_answers.specs.Copy.{copy_from, ends}
use Rattle.script_answers.specs.Memory.{first_symbol}
use Rattle.script_answers.proofs.Loops.{with_prefix, copy_turn, copy_halt, copy_end, copy_more, closed, open_end, first_more, first_comes}
use Rattle.script_answers.proofs.copy.copy_of.Goals as goal

pub returns-in_default-clause-value : goal.returns-in_default-clause-value
returns-in_default-clause-value g c =
    let t = YieldsList-turn (YieldsList-from_chars c.args.text.now c.utf8.text cc) c.loop-c.yielded _ c.loop-c.yielded_by _ _ c.in-Some.c c.in-Some.is c.next.ensures.steps in
    copy_halt c.loop-c.symbols.items c.loop-c.place (chars c.args.text.now) (length c.loop-c.yielded) c.in-Some.c _ t (sym c.step.ensures ∙ c.in_default.is) c.loop-c.invariant.read

pub returns-in_err-push-clause-memory : goal.returns-in_err-push-clause-memory
returns-in_err-push-clause-memory g c refused =
    let t = YieldsList-turn (YieldsList-from_chars c.args.text.now c.utf8.text cc) c.loop-c.yielded _ c.loop-c.yielded_by _ _ c.in-Some.c c.in-Some.is c.next.ensures.steps in
    first_comes c.loop-c.symbols.items c.loop-c.place c.in-Some-step.next c.in-Some-symbol.symbol (chars c.args.text.now) (length c.loop-c.yielded) c.in-Some.c _ t
    (sym c.step.ensures ∙ c.in-Some-step.is ∙ ap (λ o. Some (c.in-Some-step.next, o)) c.in-Some-symbol.is) c.loop-c.invariant.first

pub loop-c-preserved-in_ok-push : goal.loop-c-preserved-in_ok-push
loop-c-preserved-in_ok-push g c =
    let cs = chars c.args.text.now in
    let n = length c.loop-c.yielded in
    let t = YieldsList-turn (YieldsList-from_chars c.args.text.now c.utf8.text cc) c.loop-c.yielded _ c.loop-c.yielded_by _ _ c.in-Some.c c.in-Some.is c.next.ensures.steps in
    let e = copy_turn c.loop-c.symbols.items c.loop-c.place cs n c.in-Some.c (c.in-Some-step.next, c.in-Some-step.symbol) (copy_from Run cs) t (sym c.step.ensures ∙ c.in-Some-step.is) c.loop-c.invariant.read in
    record {
      read = copy_more c.loop-c.symbols.items c.push.new.self.items c.in-Some-step.symbol c.in-Some-step.next cs n _ (copy_from Run cs)
          (c.in_ok-push.ensures.items ∙ ap (λ o. c.loop-c.symbols.items ++ option_to_list o) (sym c.in-Some-symbol.is)) (length_push c.loop-c.yielded c.in-Some.c) e;
      first = first_more c.loop-c.symbols.items c.push.new.self.items c.in-Some-step.symbol c.loop-c.place c.in-Some-step.next cs n _ c.in-Some.c (first_symbol Run cs) t
          (sym c.step.ensures ∙ c.in-Some-step.is) (c.in_ok-push.ensures.items ∙ ap (λ o. c.loop-c.symbols.items ++ option_to_list o) (sym c.in-Some-symbol.is))
          (length_push c.loop-c.yielded c.in-Some.c) c.loop-c.invariant.first;
    }

pub loop-c-preserved : goal.loop-c-preserved
loop-c-preserved g c =
    let cs = chars c.args.text.now in
    let n = length c.loop-c.yielded in
    let t = YieldsList-turn (YieldsList-from_chars c.args.text.now c.utf8.text cc) c.loop-c.yielded _ c.loop-c.yielded_by _ _ c.in-Some.c c.in-Some.is c.next.ensures.steps in
    let e = copy_turn c.loop-c.symbols.items c.loop-c.place cs n c.in-Some.c (c.in-Some-step.next, c.in-Some-step.symbol) (copy_from Run cs) t (sym c.step.ensures ∙ c.in-Some-step.is) c.loop-c.invariant.read in
    record {
      read = copy_more c.loop-c.symbols.items c.loop-c.symbols.items c.in-Some-step.symbol c.in-Some-step.next cs n _ (copy_from Run cs)
          (sym (append-nil c.loop-c.symbols.items) ∙ ap (λ o. c.loop-c.symbols.items ++ option_to_list o) (sym c.in_default-symbol.is)) (length_push c.loop-c.yielded c.in-Some.c) e;
      first = first_more c.loop-c.symbols.items c.loop-c.symbols.items c.in-Some-step.symbol c.loop-c.place c.in-Some-step.next cs n _ c.in-Some.c (first_symbol Run cs) t
          (sym c.step.ensures ∙ c.in-Some-step.is) (sym (append-nil c.loop-c.symbols.items) ∙ ap (λ o. c.loop-c.symbols.items ++ option_to_list o) (sym c.in_default-symbol.is))
          (length_push c.loop-c.yielded c.in-Some.c) c.loop-c.invariant.first;
    }

pub returns-in-Closed-clause-value : goal.returns-in-Closed-clause-value
returns-in-Closed-clause-value g c =
    let t = YieldsList-end (YieldsList-from_chars c.args.text.now c.utf8.text cc) c.loop-c.yielded _ c.loop-c.yielded_by _ _ c.in-None.is c.next.ensures.steps in
    copy_end c.loop-c.symbols.items c.loop-c.place (chars c.args.text.now) (length c.loop-c.yielded) (copy_from Run (chars c.args.text.now)) (omega (arith, t.1)) c.loop-c.invariant.read
    ∙ ap (λ p. with_prefix c.loop-c.symbols.items (ends p)) c.in-Closed.is ∙ closed c.loop-c.symbols.items

pub returns-in_default-place-clause-value : goal.returns-in_default-place-clause-value
returns-in_default-place-clause-value g c =
    let t = YieldsList-end (YieldsList-from_chars c.args.text.now c.utf8.text cc) c.loop-c.yielded _ c.loop-c.yielded_by _ _ c.in-None.is c.next.ensures.steps in
    copy_end c.loop-c.symbols.items c.loop-c.place (chars c.args.text.now) (length c.loop-c.yielded) (copy_from Run (chars c.args.text.now)) (omega (arith, t.1)) c.loop-c.invariant.read
    ∙ open_end c.loop-c.symbols.items c.loop-c.place c.in_default-place.not-Closed
