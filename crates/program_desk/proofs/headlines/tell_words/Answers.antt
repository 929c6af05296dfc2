use Rattle.std.proofs.Common.{subst}
use Rattle.program_desk.specs.Told.{GoesOn}
use Rattle.program_desk.proofs.headlines.tell_words.Goals as goal

pub returns : goal.returns
returns g c = subst (GoesOn c.args.told.is_whole c.tell_more.result.is_whole (g.E.Write.contents c.args.faults.now) (g.E.Write.contents c.tell_more.new.faults)) c.as_bytes.ensures.value c.tell_more.ensures
