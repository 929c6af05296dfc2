use Rattle.std.proofs.Common.{◌∙◌, ap, sym, subst, List}
use Rattle.desk_ops.specs.declared.op.Symbol.{Symbol}
use Rattle.desk_ops.specs.OpSet.{OpSet, size}
use Rattle.desk_ops.specs.Settings.{setting_of}
use Rattle.desk_ops.specs.Shown.{copy_of}
use Rattle.desk_replica.specs.declared.settings.Settings.{Settings}
use Rattle.text_copy.specs.Laws.{AreLawful}
use Rattle.feed_sites.specs.Anew.{AreInRange, IsOwn}
use Rattle.feed_sites.proofs.Lawful.{copy_lawful}
use Rattle.feed_sites.proofs.Made.{anew, has_room, none_shown}
use Rattle.feed_sites.proofs.Own.{none_sized, own_none}
use Rattle.feed_sites.proofs.Settings.{in_range, none_set}
use Rattle.feed_sites.proofs.anew.made_anew.Goals as goal

pub give_all-requires-clause-own : goal.give_all-requires-clause-own
give_all-requires-clause-own g c = subst (λ (s : OpSet). IsOwn c.reserve.new.self.site s) (sym (c.reserve.ensures.ops ∙ c.new-replica.ensures.ops)) (own_none c.reserve.new.self.site)

pub give_all-requires-clause-none : goal.give_all-requires-clause-none
give_all-requires-clause-none g c = ap size (c.reserve.ensures.ops ∙ c.new-replica.ensures.ops) ∙ none_sized

pub give_all-requires-clause-unset : goal.give_all-requires-clause-unset
give_all-requires-clause-unset g c = λ key. ap (λ s. setting_of s key) (c.reserve.ensures.ops ∙ c.new-replica.ensures.ops) ∙ none_set key

pub give_all-requires-clause-values : goal.give_all-requires-clause-values
give_all-requires-clause-values g c = subst (λ (s : Settings). AreInRange s) (sym c.settings.ensures) (in_range c.args.old.now.ops c.in_ok-copy.ensures.lawful)

pub put_all-requires-clause-none : goal.put_all-requires-clause-none
put_all-requires-clause-none g c = c.in_ok-give_all.ensures.copy ∙ ap copy_of (c.reserve.ensures.ops ∙ c.new-replica.ensures.ops) ∙ none_shown

pub put_all-requires-clause-room : goal.put_all-requires-clause-room
put_all-requires-clause-room g c =
    has_room c.args.old.now.ops c.give_all.new.replica.ops c.settings.result c.deref.result.now c.in_ok-copy.ensures.lawful c.in_ok-copy.ensures.within c.settings.ensures (c.deref.ensures.value ∙ c.in_ok-copy.ensures.copy) c.in_ok-give_all.ensures.count

pub put_all-requires-clause-lawful : goal.put_all-requires-clause-lawful
put_all-requires-clause-lawful g c = subst (λ (l : List Symbol). AreLawful l) (sym (c.deref.ensures.value ∙ c.in_ok-copy.ensures.copy)) (copy_lawful c.args.old.now.ops c.in_ok-copy.ensures.lawful)

pub returns : goal.returns
returns g c =
    let own = subst (λ n. IsOwn n c.put_all.new.replica.ops) (c.give_all.ensures.site ∙ c.reserve.ensures.site ∙ c.new-replica.ensures.site) c.in_ok-put_all.ensures.own in
    anew c.args.site c.args.old.now.ops c.give_all.new.replica.ops c.put_all.new.replica.ops c.settings.result c.deref.result.now c.settings.ensures (c.deref.ensures.value ∙ c.in_ok-copy.ensures.copy)
    c.in_ok-give_all.ensures.count c.in_ok-give_all.ensures.settings own c.in_ok-put_all.ensures.count c.in_ok-put_all.ensures.copy c.in_ok-put_all.ensures.settings
