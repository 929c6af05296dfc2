use Rattle.std.proofs.Common.{sym, nat_eq, rules}
use Rattle.std.specs.Prelude.{IsSome}
use Rattle.std.specs.Map.{lookup}
use Rattle.script_world.specs.World.{Gains}
use Rattle.script_world.proofs.Kept.{changed_at}
use Rattle.script_world.proofs.world.gain_at.Goals as goal

pub returns : goal.returns
returns g c =
    let t = c.gain.new.replica in
    let writes = c.get_mut.follows.holds t in
    let some : IsSome (lookup (nat_eq c.args.to) c.args.sites.now.entries) = search rules in
    changed_at (λ s t. Gains s.ops c.args.ops.now c.gain.result t.ops) c.args.sites.now.entries _ c.args.to c.gain.result c.in-Some.replica.now t
    (record { there = sym c.in-Some.ensures.value; entries = (writes.3 some).0; distinct = writes.4; as_many = writes.2; named = c.gain.ensures.site }) c.gain.ensures.ops
