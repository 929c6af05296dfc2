use Rattle.std.proofs.Common.{rules, subst, sym}
use Rattle.std.specs.Prelude.{All}
use Rattle.std.proofs.lemmas.Fn.{filter_same}
use Rattle.std.proofs.lemmas.List.Elements.{All-filter}
use Rattle.desk_ops.specs.Op.{IsLawful}
use Rattle.feed_edit.specs.Exporting.{is_until}
use Rattle.feed_edit.proofs.exporting.keep_until.Goals as goal

pub returns-in-Some-clause-kept : goal.returns-in-Some-clause-kept
returns-in-Some-clause-kept g c =
    rw c.in-Some.is (filter_same _ (is_until c.in-Some.counter) _ (λ x b f' k. search rules) _ _ c.retain.ensures.filtered)

pub returns-in-Some-clause-lawful : goal.returns-in-Some-clause-lawful
returns-in-Some-clause-lawful g c lawful =
    let kept = filter_same _ (is_until c.in-Some.counter) _ (λ x b f' k. search rules) _ _ c.retain.ensures.filtered in
    subst (λ l. All IsLawful l) (sym kept) (All-filter (is_until c.in-Some.counter) IsLawful _ lawful)
