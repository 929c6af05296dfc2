use Rattle.std.specs.List.{AllByRecursion}
use Rattle.std.proofs.lemmas.List.{append-nil, take_all, drop_all}
use Rattle.desk_codec.specs.Spelling.{IsValue}
use Rattle.desk_codec.proofs.Grammar.{is_feed, one_list}
use Rattle.desk_codec.proofs.writing.write_feed.Goals as goal

pub returns-clause-grammar : goal.returns-clause-grammar
returns-clause-grammar g c =
    let all = take_all c.loop-op.op-index c.args.ops.now c.loop-op-test.false in
    let values : AllByRecursion IsValue c.args.ops.now = rw all at c.loop-op.invariant.values in
    is_feed c.loop-op.out.items c.args.ops.now c.requires values (rw (drop_all c.loop-op.op-index c.args.ops.now c.loop-op-test.false, append-nil) at c.loop-op.invariant.written)

pub returns-clause-only : goal.returns-clause-only
returns-clause-only g c = λ others f. one_list c.loop-op.out.items others c.args.ops.now f (returns-clause-grammar g c)
