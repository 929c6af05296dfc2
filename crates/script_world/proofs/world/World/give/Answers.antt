use Rattle.std.proofs.Common.{◌≡◌, false, true, rules, sym, subst}
use Rattle.std.specs.Prelude.{is_some}
use Rattle.std.specs.FinMap as fin
use Rattle.desk_ops.proofs.Lists.{none_of}
use Rattle.script_world.proofs.Sites.{is_there}
use Rattle.script_world.proofs.Kept.{no_site, strange, given}
use Rattle.script_world.specs.Sites.{all_held}
use Rattle.script_world.specs.World.{Steps}
use Rattle.script_world.specs.World as events
use Rattle.script_world.proofs.world.World.give.Goals as goal

pub returns-then-not-contains_key : goal.returns-then-not-contains_key
returns-then-not-contains_key g c =
    let there : fin.contains_key c.args.self.now c.args.to ≡ false = is_there c.self.inside.sites.entries c.args.to c.args.self.now false c.self.view_is (search rules) in
    no_site c.args.self.now c.args.to c.args.ops.now (none_of _ there)

pub returns-then-not-all_held : goal.returns-then-not-all_held
returns-then-not-all_held g c =
    let there : fin.contains_key c.args.self.now c.args.to ≡ true = is_there c.self.inside.sites.entries c.args.to c.args.self.now true c.self.view_is (search rules) in
    strange c.args.self.now c.args.to c.args.ops.now there (search rules)

pub returns : goal.returns
returns g c =
    let there : is_some (fin.get c.args.self.now c.args.to) ≡ true = is_there c.self.inside.sites.entries c.args.to c.args.self.now true c.self.view_is (search rules) in
    let held : all_held c.args.self.now c.args.ops.now ≡ true = search rules in
    subst (λ r. Steps c.args.self.now (events.Give c.args.to c.args.ops.now) r c.bring-given.new.self) (sym c.taken.ensures) (given c.args.self.now c.bring-given.new.self c.args.to c.args.ops.now c.bring-given.result there held c.bring-given.ensures.gained)
