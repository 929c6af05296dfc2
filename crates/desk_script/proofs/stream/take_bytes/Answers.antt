use Rattle.feed_files.proofs.Shelves.{stays_same, stays_trans}
use Rattle.std.proofs.Common.{◌≡◌, ℕ, ◌+◌, ◌<◌, length, ◌++◌, ◌∷◌, [], drop, get_or, ap, ◌∙◌, sym, append_assoc, add-one, drop-cons, refl, subst}
use Rattle.std.proofs.lemmas.List.{at_drop_all}
use Rattle.std.proofs.lemmas.Result.{err_from_is_err_and}
use Rattle.std.specs.Prelude.{Err}
use Rattle.desk_script.specs.Desk.{desk}
use Rattle.desk_script.specs.Pending.{Takes, lines_from, progress}
use Rattle.desk_script.specs.declared.fault.RunFault.{RunFault}
use Rattle.desk_script.proofs.Carry.{takes_after}
use Rattle.desk_script.proofs.Keeping.{keeps_same, keeps_trans}
use Rattle.desk_script.proofs.Turns.{no_turn, turn_kept, turn_stops, turn_turn}
use Rattle.desk_script.specs.Script.{StopsWithin}
use Rattle.desk_script.proofs.stream.take_bytes.Goals as goal

pub loop-b-init : goal.loop-b-init
loop-b-init g c = record { kept = c.requires; stays = stays_same _; sites = keeps_same _ _ refl; moves = ([], no_turn _ _, λ more. refl) }

pub returns-in_err-take_byte-clause-taken : goal.returns-in_err-take_byte-clause-taken
returns-in_err-take_byte-clause-taken g c =
    let i : ℕ = c.loop-b.b-index in
    let lt : i < length c.args.bytes.now = c.loop-b-test.true in
    let step : drop i c.args.bytes.now ≡ get_or c.args.bytes.now i 0 ∷ drop (i + 1) c.args.bytes.now = rw (add-one, drop-cons c.args.bytes.now i 0) refl in
    let first = progress c.args.world.now (g.F.Files.shelf c.args.files.now) (g.W.Write.contents c.args.writer.now) c.args.line.now.items in
    let mid = progress c.loop-b.world (g.F.Files.shelf c.loop-b.files) (g.W.Write.contents c.loop-b.writer) c.loop-b.line.items in
    let last = progress c.take_byte.new.world (g.F.Files.shelf c.take_byte.new.files) (g.W.Write.contents c.take_byte.new.writer) c.take_byte.new.line.items in
    let p = err_from_is_err_and c.from_residual.result c.from_residual.ensures.1 in
    rw p.1 (subst (λ (f : RunFault). Takes (Err f) first last c.args.bytes.now) (sym p.2)
    (takes_after first mid last c.loop-b.invariant.moves.0 c.args.bytes.now (get_or c.args.bytes.now i 0 ∷ []) (drop (i + 1) c.args.bytes.now) c.in_err-take_byte.field-0.0 c.loop-b.invariant.moves.1
    (λ more. c.loop-b.invariant.moves.2 more ∙ ap (λ l. c.loop-b.invariant.moves.0 ++ lines_from c.loop-b.line.items (l ++ more)) step) c.in_err-take_byte.ensures.taken))

pub loop-b-preserved : goal.loop-b-preserved
loop-b-preserved g c =
    let i : ℕ = c.loop-b.b-index in
    let lt : i < length c.args.bytes.now = c.loop-b-test.true in
    let step : drop i c.args.bytes.now ≡ get_or c.args.bytes.now i 0 ∷ drop (i + 1) c.args.bytes.now = rw (add-one, drop-cons c.args.bytes.now i 0) refl in
    let turn = c.in_ok-take_byte.ensures.taken in record {
      kept = c.take_byte.ensures.kept;
      stays = stays_trans c.loop-b.invariant.stays c.take_byte.ensures.stays;
      sites = keeps_trans c.args.world.now c.loop-b.world c.take_byte.new.world c.loop-b.invariant.sites c.in_ok-take_byte.ensures.sites;
      moves = (
        c.loop-b.invariant.moves.0 ++ turn.0,
        turn_turn _ (desk c.loop-b.world (g.F.Files.shelf c.loop-b.files)) _ _ (g.W.Write.contents c.loop-b.writer) _ c.loop-b.invariant.moves.0 turn.0 c.loop-b.invariant.moves.1 turn.1,
        λ more. c.loop-b.invariant.moves.2 more ∙ ap (λ l. c.loop-b.invariant.moves.0 ++ lines_from c.loop-b.line.items (l ++ more)) step
            ∙ ap (λ l. c.loop-b.invariant.moves.0 ++ l) (turn.2 (drop (i + 1) c.args.bytes.now ++ more)) ∙ sym (append_assoc c.loop-b.invariant.moves.0 turn.0 (lines_from c.take_byte.new.line.items (drop (i + 1) c.args.bytes.now ++ more))),
      );
    }

pub returns-clause-taken : goal.returns-clause-taken
returns-clause-taken g c =
    let so_far = c.loop-b.invariant.moves in (
      so_far.0,
      turn_kept (desk c.args.world.now (g.F.Files.shelf c.args.files.now)) (desk c.loop-b.world (g.F.Files.shelf c.loop-b.files)) (g.W.Write.contents c.args.writer.now) (g.W.Write.contents c.loop-b.writer) (g.W.Write.contents c.let_out.new.writer) so_far.0 so_far.1 c.let_out.ensures,
      λ more. so_far.2 more ∙ at_drop_all (λ l. so_far.0 ++ lines_from c.loop-b.line.items (l ++ more)) c.args.bytes.now c.loop-b.b-index c.loop-b-test.false,
    )

pub returns-in_err-let_out-clause-taken : goal.returns-in_err-let_out-clause-taken
returns-in_err-let_out-clause-taken g c =
    let so_far = c.loop-b.invariant.moves in
    let old = desk c.args.world.now (g.F.Files.shelf c.args.files.now) in
    let new = desk c.loop-b.world (g.F.Files.shelf c.loop-b.files) in
    let p = err_from_is_err_and c.from_residual-in_err-let_out.result c.from_residual-in_err-let_out.ensures.1 in
    rw p.1 (rw p.2 (λ more. subst (StopsWithin old (g.F.Files.shelf c.loop-b.files) (g.W.Write.contents c.args.writer.now) (g.W.Write.contents c.let_out.new.writer))
    (sym (so_far.2 more ∙ at_drop_all (λ l. so_far.0 ++ lines_from c.loop-b.line.items (l ++ more)) c.args.bytes.now c.loop-b.b-index c.loop-b-test.false))
    (turn_stops old new (g.F.Files.shelf c.loop-b.files) (g.W.Write.contents c.args.writer.now) (g.W.Write.contents c.let_out.new.writer) so_far.0 (lines_from c.loop-b.line.items more) (stays_same _)
    (turn_kept old new (g.W.Write.contents c.args.writer.now) (g.W.Write.contents c.loop-b.writer) (g.W.Write.contents c.let_out.new.writer) so_far.0 so_far.1 c.let_out.ensures))))
