use Rattle.std.proofs.Common.{◌≡◌, ◌+◌, ◌-◌, ◌<◌, ◌++◌, ◌∷◌, [], List, length, refl, sym, ap, subst, ◌∙◌, arith, length-append, true}
use Rattle.std.proofs.Math.ListN.{set}
use Rattle.desk_ops.specs.declared.op.Symbol.{Symbol}
use Rattle.desk_ops.specs.declared.op.Op.{Op}
use Rattle.desk_ops.specs.declared.op.Op.TheVariants.{Insert}
use Rattle.desk_ops.specs.Op.{stamp_of}
use Rattle.desk_codec.specs.Items.{run_ops, next_stamp}
use Rattle.desk_codec.specs.Runs.{next_insert, chain}
use Rattle.desk_codec.specs.RunSteps.{MarksAlso}
use Rattle.desk_codec.proofs.RunPlaces.{small-counter}
use Rattle.desk_codec.proofs.RunChains.{chain-more, chain-last, chain-full, run_ops-push, marks-none, marks-more}
use Rattle.desk_codec.proofs.runs.follow.Goals as goal

pub loop-bearer-init : goal.loop-bearer-init
loop-bearer-init g c = record {
  within = c.requires.within;
  borne = c.requires.borne;
  some = omega arith;
  few = omega arith;
  counter = omega arith;
  site = refl;
  symbols = ap (λ n. c.args.symbols.now.items ++ chain (64 - n) c.args.ops.now (next_insert c.args.ops.now c.args.stamp)) c.requires.one;
  marks = λ parent symbol there is. subst (λ (ys : List Symbol). MarksAlso c.args.ops.now c.args.written.now (set c.args.written.now c.args.at true) (run_ops c.args.stamp parent ys)) (sym is)
      (marks-more c.args.ops.now c.requires.rising c.args.written.now c.args.written.now [] c.args.at (Insert c.args.stamp parent symbol) c.requires.size there (marks-none c.args.ops.now c.args.written.now));
}

pub find_next-requires-clause-small : goal.find_next-requires-clause-small
find_next-requires-clause-small g c = small-counter c.args.ops.now c.loop-bearer.last c.loop-bearer.bearer c.requires.lawful c.loop-bearer.invariant.within c.loop-bearer.invariant.borne

pub loop-bearer-preserved : goal.loop-bearer-preserved
loop-bearer-preserved g c =
    let ops = c.args.ops.now in
    let inv = c.loop-bearer.invariant in
    let ys = c.loop-bearer.symbols.items in
    let bearer = c.loop-bearer.bearer in
    let next = c.in-Some.ensures.some in
    let e : c.push.new.self.items ≡ ys ++ c.in-Some.symbol ∷ [] = c.in_ok-push.ensures.items in
    let size : length c.push.new.self.items ≡ length ys + 1 = ap length e ∙ length-append ys (c.in-Some.symbol ∷ []) in
    let lt : length ys < 64 = omega arith in
    record {
      within = next.there.within;
      borne = λ d. ap stamp_of (next.there.is d);
      some = omega arith;
      few = omega arith;
      counter = omega arith;
      site = inv.site;
      symbols = subst (λ (l : List Symbol). l ++ chain (64 - length l) ops (next_insert ops (next_stamp bearer)) ≡ c.args.symbols.now.items ++ chain 63 ops (next_insert ops c.args.stamp)) (sym e)
          (chain-more ops ys bearer c.in-Some.place c.in-Some.symbol lt next ∙ inv.symbols);
      marks = λ parent symbol there is. subst (λ (l : List Symbol). MarksAlso ops c.args.written.now (set c.loop-bearer.written c.in-Some.place true) (run_ops c.args.stamp parent l)) (sym e)
          (subst (λ (l : List Op). MarksAlso ops c.args.written.now (set c.loop-bearer.written c.in-Some.place true) l) (sym (run_ops-push c.args.stamp parent bearer ys c.in-Some.symbol (omega arith) inv.counter inv.site))
          (marks-more ops c.requires.rising c.args.written.now c.loop-bearer.written (run_ops c.args.stamp parent ys) c.in-Some.place (Insert (next_stamp bearer) bearer c.in-Some.symbol) c.requires.size next.there (inv.marks parent symbol there is)));
    }

pub returns-after-loop-bearer-clause-symbols : goal.returns-after-loop-bearer-clause-symbols
returns-after-loop-bearer-clause-symbols g c = sym (chain-full c.args.ops.now c.loop-bearer.symbols.items c.loop-bearer.bearer (omega arith)) ∙ c.loop-bearer.invariant.symbols

pub returns-in_default-clause-symbols : goal.returns-in_default-clause-symbols
returns-in_default-clause-symbols g c = sym (chain-last c.args.ops.now c.loop-bearer.symbols.items c.loop-bearer.bearer (c.in_default.ensures.none refl)) ∙ c.loop-bearer.invariant.symbols
