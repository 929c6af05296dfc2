use Rattle.std.proofs.Common.{sym, nat_eq, rules}
use Rattle.std.specs.Prelude.{IsSome}
use Rattle.std.specs.Map.{lookup}
use Rattle.script_world.specs.World.{Edits}
use Rattle.script_world.proofs.Kept.{changed_at}
use Rattle.script_world.proofs.world.edit_at.Goals as goal

pub returns : goal.returns
returns g c =
    let t = c.edit.new.replica in
    let writes = c.get_mut.follows.holds t in
    let some : IsSome (lookup (nat_eq c.args.site) c.args.sites.now.entries) = search rules in
    changed_at (λ s t. Edits s c.args.change c.edit.result t) c.args.sites.now.entries _ c.args.site c.edit.result c.in-Some.replica.now t
    (record { there = sym c.in-Some.ensures.value; entries = (writes.3 some).0; distinct = writes.4; as_many = writes.2; named = c.edit.ensures.site }) c.edit.ensures.ops
