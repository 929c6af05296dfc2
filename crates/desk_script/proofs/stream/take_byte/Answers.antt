use Rattle.feed_files.proofs.Shelves.{stays_same}
use Rattle.std.proofs.Common.{◌∷◌, [], ◌≤◌, ◌+◌, ◌∙◌, ap, eq-eqb, length, rules, sym}
use Rattle.std.proofs.lemmas.Bool.{ne_eqb}
use Rattle.std.proofs.lemmas.Result.{err_from_is_err_and}
use Rattle.desk_script.specs.Desk.{desk}
use Rattle.desk_script.specs.Line.{line_of, max_line}
use Rattle.desk_script.specs.Lines.{without_cr}
use Rattle.desk_script.specs.Pending.{lines_from}
use Rattle.desk_script.proofs.Turns.{no_turn}
use Rattle.desk_script.proofs.Carry.{line_prefixes, line_moves, unkept}
use Rattle.desk_script.proofs.Cutting.{from_byte, skips}
use Rattle.desk_script.proofs.stream.take_byte.Goals as goal

pub returns-in_err-take_line-clause-taken : goal.returns-in_err-take_line-clause-taken
returns-in_err-take_line-clause-taken g c =
    let p = err_from_is_err_and c.from_residual.result c.from_residual.ensures.1 in
    rw p.1 (rw p.2 (λ more. line_prefixes _ _ _ _ c.without_cr.result.now c.args.line.now.items more c.args.byte (eq-eqb c.args.byte 10 c.if-byte-eq10.true) (c.without_cr.ensures ∙ ap without_cr c.deref.ensures.value) c.in_err-take_line.ensures.err))

pub returns-then-byte-eq10-clause-taken : goal.returns-then-byte-eq10-clause-taken
returns-then-byte-eq10-clause-taken g c = (
  line_of c.without_cr.result.now ∷ [],
  c.in_ok-take_line.ensures.ok,
  λ more. line_moves c.without_cr.result.now c.args.line.now.items c.clear.new.self.items more c.args.byte (eq-eqb c.args.byte 10 c.if-byte-eq10.true) (c.without_cr.ensures ∙ ap without_cr c.deref.ensures.value) c.clear.ensures.items,
)

pub returns-then-len-eq-PENDING_LIMIT-clause-taken : goal.returns-then-len-eq-PENDING_LIMIT-clause-taken
returns-then-len-eq-PENDING_LIMIT-clause-taken g c =
    let full : max_line + 2 ≤ length c.args.line.now.items = search rules in
    ([], no_turn _ _, λ more. skips c.args.line.now.items more c.args.byte (ne_eqb c.args.byte 10 c.if-byte-eq10.false) full)

pub returns-in-Err-clause-taken : goal.returns-in-Err-clause-taken
returns-in-Err-clause-taken g c =
    λ more. unkept (desk c.args.world.now (g.F.Files.shelf c.args.files.now)) (g.F.Files.shelf c.args.files.now) (g.W.Write.contents c.args.writer.now) c.args.line.now.items more c.args.byte (stays_same _) (ne_eqb c.args.byte 10 c.if-byte-eq10.false)

pub returns-in-Ok-clause-taken : goal.returns-in-Ok-clause-taken
returns-in-Ok-clause-taken g c =
    ([], no_turn _ _, λ more. from_byte c.args.line.now.items more c.args.byte (ne_eqb c.args.byte 10 c.if-byte-eq10.false) ∙ ap (λ l. lines_from l more) (sym c.in-Ok.ensures.items))
