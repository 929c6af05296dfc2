use Rattle.std.proofs.Common.{◌≡◌, rules, string_bytes, subst}
use Rattle.feed_check.specs.Kinds.{kind_of}
use Rattle.feed_check.specs.Strange.{SaysStrange}
use Rattle.feed_check.specs.declared.kinds.Kind.TheVariants as kinds
use Rattle.feed_check.proofs.reported.reported_of.Goals as goal

pub returns-in_ok-strange_reported-in-Strange-clause-said : goal.returns-in_ok-strange_reported-in-Strange-clause-said
returns-in_ok-strange_reported-in-Strange-clause-said g c =
    let strange = c.in_ok-strange_reported-in-Strange in
    let kind : kind_of c.args.bytes.items ≡ kinds.Strange = search rules in
    let said = subst (λ l. SaysStrange l (string_bytes strange.field-0.text)) c.deref-in-Strange.ensures.value strange.ensures.text in
    rw kind (said, strange.ensures.well)
