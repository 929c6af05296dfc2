use Rattle.feed_files.specs.Files.{Shelf}
use Rattle.feed_files.proofs.Shelves.{same_shelf}
use Rattle.feed_edit.proofs.Shelves.{read_counts}
use Rattle.feed_edit.proofs.merging.open_stored.Goals as goal

pub returns-clause-same : goal.returns-clause-same
returns-clause-same g c =
    let first : Shelf = g.F.Files.shelf c.args.files.now in
    let last : Shelf = g.F.Files.shelf c.stored_bytes.new.files in
    same_shelf first last c.stored_bytes.ensures.stays (read_counts c.in_ok-old.old first last c.in_ok-old.ensures.ok.1)
