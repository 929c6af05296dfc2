use Rattle.desk_codec.specs.Pieces.{Reader}
use Rattle.desk_codec.proofs.ReaderLaws.{kept_reader, kept_takes}
use Rattle.desk_codec.proofs.reader.FeedReader.feed.Goals as goal

pub invariant_of-self : goal.invariant_of-self
invariant_of-self g c =
    let r : Reader = record { form = c.self.inside.form; taken = c.self.inside.taken; kept = c.self.inside.kept.items; failed = c.self.inside.failed } in
    kept_reader r c.self.inside.missing c.args.piece.now c.keep_more.new.kept.items c.self.invariant c.if-piece-self.true c.keep_more.ensures

pub returns-then-piece-self-clause-taken : goal.returns-then-piece-self-clause-taken
returns-then-piece-self-clause-taken g c =
    let r : Reader = record { form = c.self.inside.form; taken = c.self.inside.taken; kept = c.self.inside.kept.items; failed = c.self.inside.failed } in
    rw (← c.self.view_is) (kept_takes r c.self.inside.missing c.args.piece.now c.keep_more.new.kept.items c.new.result.items c.self.invariant c.if-piece-self.true c.keep_more.ensures c.new.ensures.items c.if-self.false)
