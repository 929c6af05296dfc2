use Rattle.std.proofs.Common.{codes, refl, subst, sym, ◌∙◌}
use Rattle.clap.specs.Words.{all_of, found_of, rows_of}
use Rattle.program_words.specs.Words.{AreNames}
use Rattle.program_words.specs.declared.wishes.Subcommand.TheVariants as subcommands
use Rattle.program_words.proofs.Asked.{named, no_wish, unnamed}
use Rattle.program_words.proofs.wishes.merge_wish.Goals as goal

pub returns-in_default-clause-wish : goal.returns-in_default-clause-wish
returns-in_default-clause-wish c = no_wish (rows_of (found_of c.args.matches.now)) subcommands.Merge (λ feed others is all. unnamed (codes "feed") (found_of c.args.matches.now) c.get_str.result c.get_str.ensures c.in_default.is feed is)

pub returns-in-Some-2-clause-wish : goal.returns-in-Some-2-clause-wish
returns-in-Some-2-clause-wish c = (
  refl,
  (
    named (codes "feed") (found_of c.args.matches.now) c.get_str.result c.in-Some.feed c.get_str.ensures c.in-Some.is,
    subst (AreNames (all_of (codes "other") (rows_of (found_of c.args.matches.now)))) c.in-Some-2.is c.in_ok-others.ensures.names,
    c.flag_of-forks.ensures,
    c.flag_of-review.ensures,
  ),
)

pub returns-in-None-clause-wish : goal.returns-in-None-clause-wish
returns-in-None-clause-wish c = no_wish (rows_of (found_of c.args.matches.now)) subcommands.Merge (λ feed others is all.
    let none = subst (AreNames (all_of (codes "other") (rows_of (found_of c.args.matches.now)))) c.in-None.is c.in_ok-others.ensures.names in
    let bad = sym none ∙ all in
    cc)
