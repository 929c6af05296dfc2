use Rattle.std.proofs.Common.{◌++◌, ◌∙◌, List, ℕ, ap}
use Rattle.view_punch.proofs.Joined.{joined, recounted, tail_of}
use Rattle.view_punch.proofs.joining.join.Goals as goal

pub returns-clause-ok : goal.returns-clause-ok
returns-clause-ok g c =
    joined c.args.joined.now.items c.args.next.now c.count_rows.new.joined.items
    (c.count_rows.ensures ∙ ap recounted (c.in_ok-append.ensures ∙ ap (λ (l : List ℕ). c.args.joined.now.items ++ l) (tail_of c.args.next.now)))
