use Rattle.std.proofs.lemmas.Result.{on_ok_weaker}
use Rattle.feed_sites.proofs.Settings.{all_given}
use Rattle.feed_sites.proofs.anew.give_all.Goals as goal

pub returns-clause-settings : goal.returns-clause-settings
returns-clause-settings g c =
    on_ok_weaker c.give-5.result
    (all_given c.args.replica.now.ops c.give.new.replica.ops c.give-2.new.replica.ops c.give-3.new.replica.ops c.give-4.new.replica.ops c.give-5.new.replica.ops c.args.settings c.requires.unset
    c.in_ok-give.ensures.settings c.in_ok-give-2.ensures.settings c.in_ok-give-3.ensures.settings c.in_ok-give-4.ensures.settings)
    c.give-5.ensures.settings
