use Rattle.std.proofs.Common.{◌≡◌, ◌∙◌, List, ℕ, suc, ap, inl, inr, refl, subst, sym}
use Rattle.std.proofs.lemmas.Result.{err_from_is_err_and}
use Rattle.feed_files.specs.Files.{IsReplaced, Shelf}
use Rattle.feed_files.specs.Outputs.{GivesWay, IsNotPut, destination}
use Rattle.feed_files.specs.declared.kinds.Kind.TheVariants as kinds
use Rattle.feed_files.proofs.Shelves.{holds_on}
use Rattle.view_punch.proofs.punching.punch_feeds.Goals as goal

pub returns-in_err-ribbon-clause-err : goal.returns-in_err-ribbon-clause-err
returns-in_err-ribbon-clause-err g c =
    let p = err_from_is_err_and c.from_residual.result c.from_residual.ensures.1 in
    rw p.1 (rw p.2 (inl (c.joined_of.ensures.stays, c.in_err-ribbon.ensures.err)))

pub returns-in-Ok-clause-ok : goal.returns-in-Ok-clause-ok
returns-in-Ok-clause-ok g c =
    let mid : Shelf = g.F.Files.shelf c.joined_of.new.files in
    let last : Shelf = g.F.Files.shelf c.store_over.new.files in
    let to = destination c.args.target.now.name.now c.args.target.now.force in
    let bytes = c.in_ok-ribbon.ribbon.items in
    let still = c.in_ok-ribbon.ensures.still in
    let stored = subst (λ (l : List ℕ). IsReplaced to.name l mid.kept last.kept) c.deref.ensures.value c.in-Ok.ensures.ok in
    let free = subst (λ (s : Shelf). GivesWay to kinds.Ribbon s.kept) still c.in-Ok.ensures.free in
    (bytes, c.in_ok-ribbon.ensures.ok, free, subst (λ (s : Shelf). IsReplaced to.name bytes s.kept last.kept) still stored)

pub returns-clause-err : goal.returns-clause-err
returns-clause-err g c =
    let last : Shelf = g.F.Files.shelf c.store_over.new.files in
    let to = destination c.args.target.now.name.now c.args.target.now.force in
    let r = c.in_ok-ribbon in
    let why = c.in-Err.why in
    let unput = subst (λ (s : Shelf). IsNotPut to kinds.Ribbon s last why) r.ensures.still c.in-Err.ensures.err in
    inr (refl, r.ensures.silent, r.ribbon.items, r.ensures.ok, why, c.stored_fault.ensures, unput)

pub returns-in-Ok-clause-held : goal.returns-in-Ok-clause-held
returns-in-Ok-clause-held g c =
    let mid : Shelf = g.F.Files.shelf c.joined_of.new.files in
    let last : Shelf = g.F.Files.shelf c.store_over.new.files in
    holds_on (g.F.Files.shelf c.args.files.now).held mid.held last.held c.joined_of.ensures.stays.2 c.store_over.ensures.held

pub returns-clause-held : goal.returns-clause-held
returns-clause-held g c =
    let mid : Shelf = g.F.Files.shelf c.joined_of.new.files in
    let last : Shelf = g.F.Files.shelf c.store_over.new.files in
    holds_on (g.F.Files.shelf c.args.files.now).held mid.held last.held c.joined_of.ensures.stays.2 c.store_over.ensures.held
