use Rattle.std.proofs.Common.{◌≡◌, sym, subst}
use Rattle.desk_blocks.specs.Home.{Home}
use Rattle.desk_blocks.specs.Rank.{homes_of, IsRising}
use Rattle.desk_blocks.proofs.Ranks.{homes-same}
use Rattle.desk_blocks.proofs.index.Index.renew.Goals as goal

pub returns-clause-same : goal.returns-clause-same
returns-clause-same g c =
    let hs = c.self.inside.homes.entries in
    let home : Home = c.new.result in
    rw (← c.self.view_is) (homes-same hs c.overwrite.new.self.entries c.args.stamp home c.overwrite.result c.new.ensures c.overwrite.ensures.set c.overwrite.ensures.none)

pub invariant_of-self : goal.invariant_of-self
invariant_of-self g c =
    let hs = c.self.inside.homes.entries in
    let home : Home = c.new.result in
    let is : homes_of c.overwrite.new.self.entries ≡ homes_of hs = homes-same hs c.overwrite.new.self.entries c.args.stamp home c.overwrite.result c.new.ensures c.overwrite.ensures.set c.overwrite.ensures.none in
    let up : IsRising (homes_of c.overwrite.new.self.entries) = subst IsRising (sym is) c.self.invariant in
    up
