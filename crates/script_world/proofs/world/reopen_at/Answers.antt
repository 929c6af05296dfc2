use Rattle.std.proofs.Common.{◌≡◌, sym, nat_eq, rules, subst}
use Rattle.std.specs.Prelude.{Some, IsSome}
use Rattle.std.specs.Map.{lookup}
use Rattle.script_world.proofs.Kept.{ReopensAt}
use Rattle.script_world.proofs.world.reopen_at.Goals as goal

pub returns : goal.returns
returns g c =
    let s = c.in-Some.replica.now in
    let t = c.reopen.new.replica in
    let there : lookup (nat_eq c.args.site) c.args.sites.now.entries ≡ Some s = sym c.in-Some.ensures.value in
    let writes = c.get_mut.follows.holds t in
    let some : IsSome (lookup (nat_eq c.args.site) c.args.sites.now.entries) = search rules in
    subst (ReopensAt c.args.sites.now.entries _ c.args.site c.reopen.result) (sym there)
    (t, record { there = there; entries = (writes.3 some).0; distinct = writes.4; as_many = writes.2; named = c.reopen.ensures.site }, c.reopen.ensures.ops, c.reopen.ensures.answer)
