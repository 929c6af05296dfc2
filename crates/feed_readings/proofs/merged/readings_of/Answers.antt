use Rattle.std.proofs.Common.{◌∙◌, sym, ⊎_elim}
use Rattle.std.proofs.lemmas.Bool.{true≢false}
use Rattle.desk_ops.specs.OpSet.{IsWithin}
use Rattle.feed_readings.proofs.Sets.{all_within, within_all}
use Rattle.feed_readings.proofs.Twins.{none_one, none_other}
use Rattle.feed_readings.proofs.merged.readings_of.Goals as goal

pub returns-then-taken-clause-exact : goal.returns-then-taken-clause-exact
returns-then-taken-clause-exact g c =
    let one = c.args.one.now.ops in
    let other = c.args.other.now.ops in
    c.new.ensures.items ∙ sym (none_other one other c.is_apart.ensures (all_within one other (sym c.in_ok-taken.ensures ∙ c.if-taken.true)))

pub returns-then-stored-clause-exact : goal.returns-then-stored-clause-exact
returns-then-stored-clause-exact g c =
    let one = c.args.one.now.ops in
    let other = c.args.other.now.ops in
    c.new-then-stored.ensures.items ∙ sym (none_one one other c.is_apart-then-stored.ensures (all_within other one (sym c.in_ok-stored.ensures ∙ c.if-stored.true)))

pub returns-clause-none : goal.returns-clause-none
returns-clause-none g c =
    let one = c.args.one.now.ops in
    let other = c.args.other.now.ops in
    λ held. absurd (⊎_elim
    (λ (h : IsWithin other one). true≢false (sym (c.in_ok-taken.ensures ∙ within_all one other h) ∙ c.if-taken.false))
    (λ (h : IsWithin one other). true≢false (sym (c.in_ok-stored.ensures ∙ within_all other one h) ∙ c.if-stored.false))
    held)
