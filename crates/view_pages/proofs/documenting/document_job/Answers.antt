use Rattle.std.proofs.Common.{subst}
use Rattle.std.specs.Prelude.{string_bytes}
use Rattle.feed_files.specs.Files.{IsReplaced, Shelf}
use Rattle.feed_files.specs.Outputs.{GivesWay, destination}
use Rattle.feed_files.specs.declared.kinds.Kind.TheVariants as kinds
use Rattle.view_pages.proofs.documenting.document_job.Goals as goal

pub returns-clause-ok : goal.returns-clause-ok
returns-clause-ok g c =
    let mid : Shelf = g.F.Files.shelf c.take_job.new.files in
    let last : Shelf = g.F.Files.shelf c.store_over.new.files in
    let to = destination c.args.target.now.name.now c.args.target.now.force in
    let t = c.in_ok-matter in
    let drawn = string_bytes c.in_ok-drawn.drawn in
    let free = subst (λ (s : Shelf). GivesWay to kinds.Document s.kept) t.ensures.still c.in_ok-store_over.ensures.free in
    let stored = subst (λ bytes. IsReplaced to.name bytes mid.kept last.kept) c.as_bytes.ensures.value c.in_ok-store_over.ensures.ok in
    (drawn, (t.matter, t.ensures.ok, c.in_ok-drawn.ensures), free, subst (λ (s : Shelf). IsReplaced to.name drawn s.kept last.kept) t.ensures.still stored)
