use Rattle.std.proofs.Common.{drop}
use Rattle.desk_codec.proofs.ReaderLaws.{lacks_run, first_here}
use Rattle.desk_codec.proofs.reader.missing_after.Goals as goal

pub returns-in-None : goal.returns-in-None
returns-in-None c =
    let here = c.in-Some.ensures.item.3 in
    let prefix = first_here c.args.bytes.now c.in-Some.field-0.now here.0 (here.1 0) in
    (lacks_run c.args.form c.args.bytes.now c.in-Some.field-0.now (drop 1 c.args.bytes.now) c.run_size.result prefix c.in-None.ensures c.run_size.ensures.prefix c.run_size.ensures.whole c.requires).1
