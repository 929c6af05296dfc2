use Rattle.std.proofs.Common.{inl, inr, rules, subst}
use Rattle.std.proofs.lemmas.Result.{err_from_is_err_and}
use Rattle.std.specs.Prelude.{string_bytes}
use Rattle.feed_files.specs.Files.{IsReplaced, Shelf}
use Rattle.feed_files.specs.Outputs.{GivesWay, IsNotPut, destination}
use Rattle.feed_files.specs.declared.kinds.Kind.TheVariants as kinds
use Rattle.view_ribbon.specs.Drawing.{IsPicture}
use Rattle.view_ribbon.proofs.drawing.draw_ribbon.Goals as goal

pub returns-in_err-bytes-clause-err : goal.returns-in_err-bytes-clause-err
returns-in_err-bytes-clause-err g c =
    let p = err_from_is_err_and c.from_residual.result c.from_residual.ensures.1 in
    rw p.1 (inl (c.take_in.ensures.stays, c.in_err-bytes.field-0.0, p.2, c.in_err-bytes.ensures.err))

pub returns-in_err-picture-clause-err : goal.returns-in_err-picture-clause-err
returns-in_err-picture-clause-err g c =
    let t = c.in_ok-bytes in
    let p = err_from_is_err_and c.from_residual-in_err-picture.result c.from_residual-in_err-picture.ensures.1 in
    rw p.1 (inr (inl (p.2, t.ensures.still, (t.bytes.items, t.case, _, t.ensures.ok))))

pub returns-clause-err : goal.returns-clause-err
returns-clause-err g c =
    let last : Shelf = g.F.Files.shelf c.store_over.new.files in
    let to = destination c.args.target.now.name.now c.args.target.now.force in
    let t = c.in_ok-bytes in
    let why = c.in-Err.why in
    let picture = string_bytes c.in-Some.picture in
    let drawn : IsPicture c.args.lines t.bytes.items t.case picture = search rules in
    let unput = subst (λ (s : Shelf). IsNotPut to kinds.Picture s last why) t.ensures.still c.in-Err.ensures.err in
    inr (inr (why, c.of_output.ensures, picture, (t.bytes.items, t.case, _, t.ensures.ok, drawn), unput))

pub returns-in-Ok-clause-ok : goal.returns-in-Ok-clause-ok
returns-in-Ok-clause-ok g c =
    let mid : Shelf = g.F.Files.shelf c.take_in.new.files in
    let last : Shelf = g.F.Files.shelf c.store_over.new.files in
    let to = destination c.args.target.now.name.now c.args.target.now.force in
    let t = c.in_ok-bytes in
    let picture = string_bytes c.in-Some.picture in
    let drawn : IsPicture c.args.lines t.bytes.items t.case picture = search rules in
    let free = subst (λ (s : Shelf). GivesWay to kinds.Picture s.kept) t.ensures.still c.in-Ok.ensures.free in
    let stored = subst (λ bytes. IsReplaced to.name bytes mid.kept last.kept) c.as_bytes.ensures.value c.in-Ok.ensures.ok in
    (picture, (t.bytes.items, t.case, _, t.ensures.ok, drawn), free, subst (λ (s : Shelf). IsReplaced to.name picture s.kept last.kept) t.ensures.still stored)
