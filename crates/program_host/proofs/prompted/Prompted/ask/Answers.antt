use Rattle.std.proofs.Common.{sym, take, ◌∙◌}
use Rattle.program_host.proofs.Helps.{one_more}
use Rattle.program_host.proofs.prompted.Prompted.ask.Goals as goal

pub helps-preserved : goal.helps-preserved
helps-preserved g c =
    let r = g.S.Read.remaining in
    let same = c.take.ensures.begins ∙ c.helps.invariant.begins in
    record {
      helped = one_more c.args.self.now.begins (r c.args.self.now.stream) (r c.helps.self.stream) (r c.take.new.self.stream) (take c.in_ok-count.count c.take.new.buf) c.helps.invariant.helped (sym same ∙ c.if-not-self.false)
          (sym c.asks_help.ensures ∙ c.if-not-asks_help.false) c.in_ok-count.ensures.bytes.0;
      begins = same;
      talks = c.take.ensures.talks ∙ c.helps.invariant.talks;
    }
