use Rattle.std.proofs.Common.{sym, subst}
use Rattle.feed_files.specs.Files.{IsNowHeld, Reads, Shelf}
use Rattle.feed_stored.specs.Stored.{as_read, was_read}
use Rattle.feed_files.proofs.Behind.{ok_behind}
use Rattle.feed_edit.proofs.merging.take_feed.Goals as goal

pub returns-clause-ok : goal.returns-clause-ok
returns-clause-ok g c =
    let held : Shelf = g.F.Files.shelf c.hold.new.self in
    let opened = c.in_ok-open_stored.field-0 in
    let taken : IsNowHeld c.args.name.now (g.F.Files.shelf c.args.files.now) held = ok_behind (λ _. IsNowHeld c.args.name.now (g.F.Files.shelf c.args.files.now) held) _ c.hold.result c.map_err.result c.in_ok-map_err.field-0 c.map_err.ensures.cases c.map_err.ensures.variant c.in_ok-map_err.was c.hold.ensures.taken in (
      subst (λ (s : Shelf). IsNowHeld c.args.name.now (g.F.Files.shelf c.args.files.now) s) (sym c.in_ok-open_stored.ensures.same) taken,
      subst (λ (s : Shelf). Reads (s.kept c.args.name.now) (as_read (was_read opened.0))) (sym c.in_ok-open_stored.ensures.same) c.in_ok-open_stored.ensures.read,
      c.in_ok-open_stored.ensures.ok,
    )
