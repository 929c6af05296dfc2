use Rattle.std.proofs.Common.{List, ◌∙◌, subst, sym}
use Rattle.std.specs.List.Sorted.{IsStrictlySortedBy}
use Rattle.std.proofs.lemmas.Bool.{true≢false}
use Rattle.feed_edit.specs.declared.stamps.SiteStamp.{SiteStamp}
use Rattle.feed_edit.specs.Stamps.{site_cmp}
use Rattle.feed_edit.proofs.Sorting.{none_rise}
use Rattle.feed_edit.proofs.forks.known_in.Goals as goal

pub returns-then-forks-clause-known : goal.returns-then-forks-clause-known
returns-then-forks-clause-known g c = record {
  rise = subst (λ (l : List SiteStamp). IsStrictlySortedBy site_cmp l) (sym c.new-stamps.ensures.items) none_rise;
  forked = λ unasked. absurd (true≢false (sym c.if-forks.true ∙ unasked));
}

pub forks_beside-requires : goal.forks_beside-requires
forks_beside-requires g c = none_rise
