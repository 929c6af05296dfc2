use Rattle.std.proofs.Common.{◌≡◌, ◌∷◌, [], ◌++◌, List, refl, sym, ap, subst, ◌∙◌, true}
use Rattle.std.proofs.Math.ListN.{set}
use Rattle.desk_ops.specs.declared.op.Symbol.{Symbol}
use Rattle.desk_ops.specs.declared.op.Op.TheVariants.{Insert}
use Rattle.desk_codec.specs.Items.{item_ops}
use Rattle.desk_codec.specs.Runs.{item_of, next_insert, chain}
use Rattle.desk_codec.specs.RunSteps.{IsAt, MarksAlso}
use Rattle.desk_codec.proofs.RunChains.{run-taken, ops-taken, other-taken, forked-taken, marks-none, marks-more}
use Rattle.desk_codec.proofs.runs.take_item.Goals as goal
use Rattle.desk_codec.proofs.runs.take_item.Goals.{then-is_clear_at+in_default, else-is_clear_at}

pub returns-in-Insert-clause-item : goal.returns-in-Insert-clause-item
returns-in-Insert-clause-item g c = λ op there.
    let is : op ≡ Insert c.in-Insert.stamp c.in-Insert.parent c.in-Insert.symbol = sym (there.is _) ∙ c.in-Insert.is in
    let first : c.push.new.self.items ≡ c.in-Insert.symbol ∷ [] = c.in_ok-push.ensures.items ∙ ap (λ (l : List Symbol). l ++ c.in-Insert.symbol ∷ []) c.clear.ensures.items in
    let list : c.follow.new.symbols.items ≡ c.in-Insert.symbol ∷ chain 63 c.args.ops.now (next_insert c.args.ops.now c.in-Insert.stamp) = c.in_ok-follow.ensures.symbols ∙ ap (λ (l : List Symbol). l ++ chain 63 c.args.ops.now (next_insert c.args.ops.now c.in-Insert.stamp)) first in
    run-taken c.args.ops.now op c.in-Insert.stamp c.in-Insert.parent c.in-Insert.symbol (chain 63 c.args.ops.now (next_insert c.args.ops.now c.in-Insert.stamp)) c.follow.new.symbols.items is list c.is_clear_at.result (c.is_clear_at.ensures op there) c.if-is_clear_at.true refl

pub returns-in-Insert-clause-marks : goal.returns-in-Insert-clause-marks
returns-in-Insert-clause-marks g c = λ op there.
    let is : op ≡ Insert c.in-Insert.stamp c.in-Insert.parent c.in-Insert.symbol = sym (there.is _) ∙ c.in-Insert.is in
    let first : c.push.new.self.items ≡ c.in-Insert.symbol ∷ [] = c.in_ok-push.ensures.items ∙ ap (λ (l : List Symbol). l ++ c.in-Insert.symbol ∷ []) c.clear.ensures.items in
    let list : c.follow.new.symbols.items ≡ c.in-Insert.symbol ∷ chain 63 c.args.ops.now (next_insert c.args.ops.now c.in-Insert.stamp) = c.in_ok-follow.ensures.symbols ∙ ap (λ (l : List Symbol). l ++ chain 63 c.args.ops.now (next_insert c.args.ops.now c.in-Insert.stamp)) first in
    subst (MarksAlso c.args.ops.now c.args.written.now c.follow.new.written)
    (ops-taken c.args.ops.now op c.in-Insert.stamp c.in-Insert.parent c.in-Insert.symbol (chain 63 c.args.ops.now (next_insert c.args.ops.now c.in-Insert.stamp)) c.follow.new.symbols.items is list)
    (c.in_ok-follow.ensures.marks c.in-Insert.parent c.in-Insert.symbol (subst (IsAt c.args.ops.now c.args.at) is there) first)

pub returns-clause-item : goal.returns-clause-item
returns-clause-item g c = λ op there.
    elim c.if-is_clear_at.branch [
      | then-is_clear_at+in_default w ↦ other-taken c.args.ops.now op c.is_clear_at.result c.clear.new.self.items c.clear.ensures.items (c.is_clear_at.ensures op there) (λ s p y e. w.in_default.not-Insert s p y (there.is _ ∙ e))
      | else-is_clear_at w ↦ forked-taken c.args.ops.now op c.is_clear_at.result c.clear.new.self.items c.clear.ensures.items (c.is_clear_at.ensures op there) w.if-is_clear_at.false
    ]

pub returns-clause-marks : goal.returns-clause-marks
returns-clause-marks g c = λ op there.
    subst (λ (l : List Symbol). MarksAlso c.args.ops.now c.args.written.now (set c.args.written.now c.args.at true) (item_ops (item_of op l))) (sym c.clear.ensures.items)
    (marks-more c.args.ops.now c.requires.rising c.args.written.now c.args.written.now [] c.args.at op c.requires.size there (marks-none c.args.ops.now c.args.written.now))
