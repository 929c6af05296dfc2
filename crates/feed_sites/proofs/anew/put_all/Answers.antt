use Rattle.feed_sites.proofs.Lawful.{lawful_at}
use Rattle.feed_sites.proofs.anew.put_all.Goals as goal

pub put_last-requires-clause-lawful : goal.put_last-requires-clause-lawful
put_last-requires-clause-lawful g c = lawful_at c.args.copy.now c.loop-symbol.symbol-index _ c.requires.lawful c.loop-symbol-test.true
