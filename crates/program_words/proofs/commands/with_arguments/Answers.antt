use Rattle.std.proofs.Common.{◌≡◌, ℕ, ◌+◌, ◌<◌, Bool, true, false, ◌||◌, List, ◌∷◌, length, drop, get_or, suc, refl, sym, ap, ◌∙◌, arith, add-one, drop-cons}
use Rattle.std.specs.Borrow.{Bor}
use Rattle.clap.specs.Words.{App, Text, app_of, with_rule}
use Rattle.clap.specs.declared.builder.command.Command.TheViews.{out-Command}
use Rattle.program_words.specs.Arguments.{read_as, with_all}
use Rattle.program_words.specs.declared.commands.Kind.{Kind}
use Rattle.program_words.proofs.commands.with_arguments.Goals as goal

one_more : (app next whole : App) (all : List (Kind × Bor Text × Bor Text)) (i : ℕ) (d : Kind × Bor Text × Bor Text) → i < length all → with_all app (drop i all) ≡ whole
    → next ≡ with_rule app (read_as (get_or all i d).0 (get_or all i d).1.now) → with_all next (drop (i + 1) all) ≡ whole
one_more app next whole all i d within before is =
    let step : drop i all ≡ get_or all i d ∷ drop (suc i) all = drop-cons all i d within in
    rw (add-one, is) (sym (ap (with_all app) step) ∙ before)

or_false : (b : Bool) → (b || false) ≡ b
or_false true = refl
or_false false = refl

pub loop-of-preserved : goal.loop-of-preserved
loop-of-preserved c = record {
  app = one_more (app_of c.loop-of.command) (app_of c.in_ok-command.command) _ c.args.arguments.now c.loop-of.of-index _ (omega arith) c.loop-of.invariant.app
      (c.in_ok-command.ensures.shape c.argument.ensures.local ∙ ap (with_rule (app_of c.loop-of.command)) c.argument.ensures.rule);
  local =
      c.in_ok-command.ensures.globals ∙ ap (λ (g : Bool). (out-Command c.loop-of.command).has_globals || g) c.argument.ensures.local
      ∙ or_false _ ∙ c.loop-of.invariant.local;
}
