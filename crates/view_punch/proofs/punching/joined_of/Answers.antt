use Rattle.std.proofs.Common.{◌≡◌, ◌≤◌, ◌∙◌, List, ℕ, arith, inr, length, subst, sym}
use Rattle.std.specs.Prelude.{Option}
use Rattle.std.proofs.lemmas.List.{take_all}
use Rattle.feed_files.specs.Files.{Shelf, Stays}
use Rattle.feed_files.proofs.Shelves.{stays_same}
use Rattle.view_punch.proofs.AllRows.{all_done, first_done, has_head, next_done, stops_at}
use Rattle.view_punch.proofs.punching.joined_of.Goals as goal

pub add_feed-added-requires : goal.add_feed-added-requires
add_feed-added-requires g c = let done = c.loop-at.invariant.done in has_head c.loop-at.joined.items done.rows done.is

pub loop-at-init : goal.loop-at-init
loop-at-init g c =
    let t = c.in_ok-joined in
    record {
      done = first_done c.args.faulty t.case t.wedge (g.F.Files.shelf c.args.files.now) c.args.from.now.first t.joined.items t.ensures.ok.1 t.ensures.ok.2;
      silent = t.ensures.silent;
      still = t.ensures.still;
    }

pub loop-at-preserved : goal.loop-at-preserved
loop-at-preserved g c =
    let t = c.in_ok-joined in
    let first : Shelf = g.F.Files.shelf c.args.files.now in
    let inv = c.loop-at.invariant in
    record {
      done = next_done c.args.faulty t.case t.wedge first c.args.from.now.first c.args.from.now.others.now c.loop-at.at _ c.loop-at.joined.items c.add_feed-added.new.joined.items c.loop-at-test.true inv.done (g.F.Files.shelf c.loop-at.files) inv.still c.in_default.ensures.ok c.in_default.ensures.within;
      silent = c.in_default.ensures.silent ∙ inv.silent;
      still = c.in_default.ensures.still ∙ inv.still;
    }

pub returns-in-Err-clause-err : goal.returns-in-Err-clause-err
returns-in-Err-clause-err g c =
    let t = c.in_ok-joined in
    let first : Shelf = g.F.Files.shelf c.args.files.now in
    let last : Shelf = g.F.Files.shelf c.add_feed-added.new.files in
    let before : Option (List ℕ) = g.W.Write.contents c.args.writer.now in
    let after : Option (List ℕ) = g.W.Write.contents c.add_feed-added.new.writer in
    let inv = c.loop-at.invariant in
    inr (stops_at c.args.faulty t.case t.wedge first c.args.from.now c.loop-at.at _ last before after c.loop-at.joined.items c.in-Err.why c.loop-at-test.true t.ensures.ok.0 inv.done (g.F.Files.shelf c.loop-at.files) (g.W.Write.contents c.loop-at.writer) inv.still inv.silent c.in-Err.ensures.err)

pub returns-in-Err-clause-stays : goal.returns-in-Err-clause-stays
returns-in-Err-clause-stays g c =
    subst (λ (s : Shelf). Stays s (g.F.Files.shelf c.add_feed-added.new.files)) c.loop-at.invariant.still c.add_feed-added.ensures.stays

pub returns-clause-ok : goal.returns-clause-ok
returns-clause-ok g c =
    let t = c.in_ok-joined in
    let others = c.args.from.now.others.now in
    let whole : length others ≤ c.loop-at.at = omega (arith, c.loop-at-test.false) in
    let done = all_done c.args.faulty t.case t.wedge (g.F.Files.shelf c.args.files.now) c.args.from.now.first others c.loop-at.at c.loop-at.joined.items (take_all c.loop-at.at others whole) c.loop-at.invariant.done in
    (t.case, t.wedge, t.ensures.ok.0, done.rows, done.galleys, done.is, done.fits, done.casts)

pub returns-clause-silent : goal.returns-clause-silent
returns-clause-silent g c = c.loop-at.invariant.silent

pub returns-clause-still : goal.returns-clause-still
returns-clause-still g c = c.loop-at.invariant.still

pub returns-clause-stays : goal.returns-clause-stays
returns-clause-stays g c =
    let first : Shelf = g.F.Files.shelf c.args.files.now in
    subst (λ (s : Shelf). Stays first s) (sym c.loop-at.invariant.still) (stays_same first)
