use Rattle.std.proofs.Common.{◌++◌, ◌∙◌, ℕ, List, ap}
use Rattle.feed_edit.proofs.Forking.{nothing}
use Rattle.feed_edit.proofs.Joining.{written}
use Rattle.feed_edit.proofs.merging.join_known.Goals as goal

pub returns-clause-ok : goal.returns-clause-ok
returns-clause-ok g c =
    let old = c.args.replica.now.ops in
    let s = c.in_ok-stamps.stamps in
    written c.args.known.now (g.F.Files.shelf c.args.files.now).kept c.args.name.now old c.take_file.new.replica.ops c.in_ok-ops.field-0 c.args.out.now.items _ c.in_ok-lines.lines.items c.in_ok-lines.clean s.items c.in_ok-ops.ensures.ok
    (λ j k. c.in_ok-lines.ensures.lines old j k) (λ j. c.in_ok-lines.ensures.clean old j) (c.in_ok-put_lines.ensures ∙ ap (λ (l : List ℕ). c.args.out.now.items ++ l) c.deref.ensures.value) (c.in_ok-stamps.ensures old)
    (nothing _ s.items c.is_empty.result s.ok.0 c.is_empty.ensures c.if-not-is_empty.false)
