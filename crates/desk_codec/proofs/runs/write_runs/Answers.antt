use Rattle.std.proofs.Common.{◌≤◌, length, sym, subst, arith}
use Rattle.std.specs.List.{AllByRecursion}
use Rattle.std.proofs.lemmas.List.{take_all}
use Rattle.std.proofs.lemmas.List.Elements.{recursion_from_All}
use Rattle.desk_ops.specs.Op.{IsLawful}
use Rattle.desk_codec.specs.Spelling.{IsValue}
use Rattle.desk_codec.specs.Feed.{IsFeed}
use Rattle.desk_codec.specs.Runs.{runs_ops}
use Rattle.desk_codec.proofs.Grammar.{held_from_parts, one_list}
use Rattle.desk_codec.proofs.RunSteps.{at-end}
use Rattle.desk_codec.proofs.GroupLaws.{runs_read, runs_permutation}
use Rattle.desk_codec.proofs.runs.write_runs.Goals as goal

pub returns-clause-bytes : goal.returns-clause-bytes
returns-clause-bytes g c = at-end c.args.ops.now c.loop-at.written.items c.loop-at.out.items c.loop-at.at (omega arith) c.loop-at.invariant.written

pub returns-clause-grammar : goal.returns-clause-grammar
returns-clause-grammar g c =
    let end : length c.args.ops.now ≤ c.loop-at.at = omega arith in
    let all = take_all c.loop-at.at c.args.ops.now end in
    let values : AllByRecursion IsValue c.args.ops.now = subst (AllByRecursion IsValue) all c.loop-at.invariant.values in
    subst (λ bytes. IsFeed bytes (runs_ops c.args.ops.now)) (sym (returns-clause-bytes g c))
    (runs_read c.args.ops.now (held_from_parts c.args.ops.now (recursion_from_All IsLawful c.args.ops.now c.requires.lawful) values))

pub returns-clause-same : goal.returns-clause-same
returns-clause-same g c = runs_permutation c.args.ops.now c.requires.rising

pub returns-clause-only : goal.returns-clause-only
returns-clause-only g c = λ others f. one_list c.loop-at.out.items others (runs_ops c.args.ops.now) f (returns-clause-grammar g c)
