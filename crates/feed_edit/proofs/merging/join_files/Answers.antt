use Rattle.std.proofs.Common.{List, [], map, refl, subst, sym, ◌∙◌}
use Rattle.feed_files.proofs.Shelves.{same_shelf, stays_trans}
use Rattle.feed_edit.specs.Merging.{ForksAt}
use Rattle.feed_edit.specs.declared.stamps.SiteStamp.{SiteStamp}
use Rattle.feed_edit.proofs.Forking.{allowed_more}
use Rattle.feed_edit.proofs.Joining.{forks_at, more_joined, stops_at}
use Rattle.feed_edit.proofs.merging.join_files.Goals as goal

pub returns-in-Err-clause-err : goal.returns-in-Err-clause-err
returns-in-Err-clause-err g c = (
  stays_trans c.loop-at.invariant.stays c.join_known.ensures.stays,
  stops_at (λ n. n.now) c.args.names.now c.loop-at.at _ c.loop-at-test.true c.args.known.now.forks c.args.replica.now.ops c.loop-at.replica.ops (g.F.Files.shelf c.args.files.now) (g.F.Files.shelf c.loop-at.files) (g.F.Files.shelf c.join_known.new.files) _ _ c.in-Err.why
      c.loop-at.invariant.joined c.loop-at.invariant.allowed (same_shelf (g.F.Files.shelf c.args.files.now) (g.F.Files.shelf c.loop-at.files) c.loop-at.invariant.stays c.loop-at.invariant.counted) c.in-Err.ensures.err,
)

pub returns-in-Forks-clause-err : goal.returns-in-Forks-clause-err
returns-in-Forks-clause-err g c =
    let forked = rw c.in-Forks.is at c.in-Ok.ensures.ok in
    let same = same_shelf (g.F.Files.shelf c.args.files.now) (g.F.Files.shelf c.loop-at.files) c.loop-at.invariant.stays c.loop-at.invariant.counted in
    let same_after = same_shelf (g.F.Files.shelf c.args.files.now) (g.F.Files.shelf c.join_known.new.files) (stays_trans c.loop-at.invariant.stays c.join_known.ensures.stays) (c.in-Ok.ensures.counted ∙ c.loop-at.invariant.counted) in
    subst (λ (l : List SiteStamp). ForksAt (map (λ n. n.now) c.args.names.now) c.args.known.now.forks c.args.replica.now.ops (g.F.Files.shelf c.args.files.now) (g.F.Files.shelf c.join_known.new.files) c.loop-at.at l) (sym c.from_vec-stamps.ensures)
    (forks_at (λ n. n.now) c.args.names.now c.loop-at.at _ c.loop-at-test.true c.args.known.now c.args.replica.now.ops c.loop-at.replica.ops c.join_known.new.replica.ops (g.F.Files.shelf c.args.files.now) (g.F.Files.shelf c.loop-at.files) (g.F.Files.shelf c.join_known.new.files) _ _
    c.in-Forks.stamps.items c.loop-at.invariant.joined c.requires c.loop-at.invariant.allowed same same_after forked.0 forked.1 forked.2)

pub loop-at-preserved : goal.loop-at-preserved
loop-at-preserved g c =
    let now = rw c.in-Written.is at c.in-Ok.ensures.ok in
    record {
      joined = more_joined (λ n. n.now) c.args.names.now c.loop-at.at _ c.loop-at-test.true (g.F.Files.shelf c.args.files.now).kept (g.F.Files.shelf c.loop-at.files).kept c.args.replica.now.ops c.loop-at.replica.ops c.join_known.new.replica.ops _ _ _ _ _ c.loop-at.invariant.stays.0 c.loop-at.invariant.joined
          now.0 c.are_both-clean.ensures;
      allowed = allowed_more c.args.known.now c.args.replica.now.ops c.loop-at.replica.ops c.join_known.new.replica.ops [] c.requires c.loop-at.invariant.allowed now.1 refl;
      stays = stays_trans c.loop-at.invariant.stays c.join_known.ensures.stays;
      counted = c.in-Ok.ensures.counted ∙ c.loop-at.invariant.counted;
    }
