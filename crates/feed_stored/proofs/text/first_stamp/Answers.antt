use Rattle.std.proofs.Common.{◌≡◌, ◌∙◌, sym, ap, subst, arith, rules, ◌++◌, ◌∷◌}
use Rattle.std.specs.Prelude.{codes}
use Rattle.std.specs.Fmt.{decimal}
use Rattle.feed_stored.specs.Text.{Lacks}
use Rattle.feed_stored.proofs.Cuts.{has_cut}
use Rattle.feed_stored.proofs.Lines.{behind_word, line_of_parts, line_parts, of_counter, of_site, of_word}
use Rattle.feed_stored.proofs.text.first_stamp.Goals as goal

pub returns-in_default : goal.returns-in_default
returns-in_default c s more numbered is = has_cut 32 (codes "site") (behind_word s more) (subst (Lacks 32) (is ∙ line_parts s more) c.in_default.ensures)

pub returns-in_default-cut_at : goal.returns-in_default-cut_at
returns-in_default-cut_at c s more numbered is =
    has_cut 32 (decimal s.site) (decimal s.counter ++ 10 ∷ more) (subst (Lacks 32) (of_word c.args.text.now c.in-Some.word.now c.in-Some.numbers.now s more numbered is c.in-Some.ensures.0 c.in-Some.ensures.1).1 c.in_default-cut_at.ensures)

pub returns-in_default-cut_at-2 : goal.returns-in_default-cut_at-2
returns-in_default-cut_at-2 c s more numbered is =
    let parts = of_site c.args.text.now c.in-Some.word.now c.in-Some.numbers.now s more numbered is c.in-Some-cut_at.site.now c.in-Some-cut_at.rest.now c.in-Some.ensures.0 c.in-Some.ensures.1 c.in-Some-cut_at.ensures.0 c.in-Some-cut_at.ensures.1 in
    has_cut 10 (decimal s.counter) more (subst (Lacks 10) parts.1 c.in_default-cut_at-2.ensures)

pub returns-then-ne : goal.returns-then-ne
returns-then-ne c s more numbered is =
    let same : c.in-Some.word.now ≡ codes "site" = (of_word c.args.text.now c.in-Some.word.now c.in-Some.numbers.now s more numbered is c.in-Some.ensures.0 c.in-Some.ensures.1).0 in
    search (rules, same)

pub returns-in-Some-stamp_of : goal.returns-in-Some-stamp_of
returns-in-Some-stamp_of c =
    let word : c.in-Some.word.now ≡ codes "site" = search rules in (
      c.in-Some-stamp_of.ensures.0,
      line_of_parts c.args.text.now c.in-Some.word.now c.in-Some.numbers.now c.in-Some-cut_at.site.now c.in-Some-cut_at.rest.now c.in-Some-cut_at-2.counter.now c.in-Some-cut_at-2.more.now c.in-Some-stamp_of.stamp
          c.in-Some.ensures.0 word c.in-Some-cut_at.ensures.0 c.in-Some-stamp_of.ensures.1 c.in-Some-cut_at-2.ensures.0 c.in-Some-stamp_of.ensures.2,
    )

pub returns-in-None : goal.returns-in-None
returns-in-None c s more numbered is =
    let site = of_site c.args.text.now c.in-Some.word.now c.in-Some.numbers.now s more numbered is c.in-Some-cut_at.site.now c.in-Some-cut_at.rest.now c.in-Some.ensures.0 c.in-Some.ensures.1 c.in-Some-cut_at.ensures.0 c.in-Some-cut_at.ensures.1 in
    let counter = of_counter c.args.text.now c.in-Some.word.now c.in-Some.numbers.now s more numbered is c.in-Some-cut_at.site.now c.in-Some-cut_at.rest.now c.in-Some-cut_at-2.counter.now c.in-Some-cut_at-2.more.now
    c.in-Some.ensures.0 c.in-Some.ensures.1 c.in-Some-cut_at.ensures.0 c.in-Some-cut_at.ensures.1 c.in-Some-cut_at-2.ensures.0 c.in-Some-cut_at-2.ensures.1 in
    c.in-None.ensures s numbered site.0 counter.0
