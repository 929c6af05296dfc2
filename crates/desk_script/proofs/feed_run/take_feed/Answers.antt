use Rattle.std.proofs.Common.{◌≤◌, ◌∙◌, ap, ap₂, inl, inr, subst}
use Rattle.std.specs.FinMap as fin
use Rattle.std.specs.Prelude.{Err}
use Rattle.std.proofs.lemmas.Result.{err_from_is_err_and}
use Rattle.feed_files.proofs.Shelves.{held_alone}
use Rattle.desk_ops.specs.OpSet.{max_ops, size}
use Rattle.script_world.specs.Sites.{no_sites}
use Rattle.feed_stored.specs.declared.fault.OpenFault.TheVariants as openings
use Rattle.feed_stored.specs.Stored.{was_read}
use Rattle.desk_script.proofs.Feeds.{unbegun}
use Rattle.desk_script.proofs.feed_run.take_feed.Goals as goal

pub returns-in_err-hold-clause-err : goal.returns-in_err-hold-clause-err
returns-in_err-hold-clause-err g c =
    let p = err_from_is_err_and c.from_residual.result c.from_residual.ensures.1 in
    rw p.1 (inl (c.in_err-hold.field-0.0, p.2, (c.in_err-hold.ensures.small, (λ e. c.in_err-hold.ensures.missing (ap Err e)), c.in_err-hold.ensures.counted, c.in_err-hold.ensures.refused)))

pub returns-in_err-old-clause-err : goal.returns-in_err-old-clause-err
returns-in_err-old-clause-err g c =
    let p = err_from_is_err_and c.from_residual-in_err-old.result c.from_residual-in_err-old.ensures.1 in
    rw p.1 (inr (g.F.Files.shelf c.hold.new.self, c.in_ok-hold.ensures.taken, inl (c.in_err-old.field-0.0, p.2, c.in_err-old.ensures.err)))

pub returns-in_err-replica-clause-err : goal.returns-in_err-replica-clause-err
returns-in_err-replica-clause-err g c =
    let p = err_from_is_err_and c.from_residual-in_err-replica.result c.from_residual-in_err-replica.ensures.1 in
    rw p.1 (inr (
      g.F.Files.shelf c.hold.new.self,
      c.in_ok-hold.ensures.taken,
      inr (c.in_err-replica.field-0.0, p.2, (was_read c.in_ok-old.old, c.in_ok-old.ensures.ok.0, c.in_ok-old.ensures.ok.1, c.stored_bytes.ensures.stays, inl c.in_err-replica.ensures.err)),
    ))

pub returns-in_err-world-clause-err : goal.returns-in_err-world-clause-err
returns-in_err-world-clause-err g c =
    let ops = c.in_ok-replica.ensures.ok in
    let p = err_from_is_err_and c.from_residual-in_err-world.result c.from_residual-in_err-world.ensures.1 in
    rw p.1 (inr (
      g.F.Files.shelf c.hold.new.self,
      c.in_ok-hold.ensures.taken,
      inr (openings.NoMemory, p.2, (was_read c.in_ok-old.old, c.in_ok-old.ensures.ok.0, c.in_ok-old.ensures.ok.1, c.stored_bytes.ensures.stays, unbegun (was_read c.in_ok-old.old) ops.0 ops.1)),
    ))

pub returns-in_err-world-clause-held : goal.returns-in_err-world-clause-held
returns-in_err-world-clause-held g c =
    inl (held_alone c.args.name.now (g.F.Files.shelf c.args.files.now) (g.F.Files.shelf c.hold.new.self) (g.F.Files.shelf c.stored_bytes.new.files) c.in_ok-hold.ensures.taken (inl c.stored_bytes.ensures.stays.2))

pub returns-clause-ok : goal.returns-clause-ok
returns-clause-ok g c =
    let ops = c.in_ok-replica.ensures.ok in
    let limit = subst (λ s. size s ≤ max_ops) ops.2 c.in_ok-replica.ensures.limit in
    let one = c.in_ok-world.ensures ∙ ap₂ (λ n s. fin.insert no_sites n s) c.in_ok-replica.ensures.site ops.2 in
    (g.F.Files.shelf c.hold.new.self, c.in_ok-hold.ensures.taken, (c.in_ok-old.ensures.ok.0, c.in_ok-old.ensures.ok.1, ops.0, ops.1, limit, one, c.stored_bytes.ensures.stays))

pub returns-clause-held : goal.returns-clause-held
returns-clause-held g c =
    inl (held_alone c.args.name.now (g.F.Files.shelf c.args.files.now) (g.F.Files.shelf c.hold.new.self) (g.F.Files.shelf c.stored_bytes.new.files) c.in_ok-hold.ensures.taken (inl c.stored_bytes.ensures.stays.2))
