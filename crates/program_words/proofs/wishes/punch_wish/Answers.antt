use Rattle.std.proofs.Common.{◌≤◌, codes, length, refl, rules, subst, sym, ◌∙◌}
use Rattle.clap.specs.Words.{all_of, found_of, rows_of}
use Rattle.program_words.specs.Words.{AreNames}
use Rattle.program_words.specs.declared.wishes.Subcommand.TheVariants as subcommands
use Rattle.program_words.proofs.Asked.{named, no_wish, unnamed}
use Rattle.program_words.proofs.wishes.punch_wish.Goals as goal

pub returns-in_default-clause-wish : goal.returns-in_default-clause-wish
returns-in_default-clause-wish c = no_wish (rows_of (found_of c.args.matches.now)) subcommands.Punch (λ feeds case wedge target all some one two three. unnamed (codes "case") (found_of c.args.matches.now) c.get_str.result c.get_str.ensures c.in_default.is case one)

pub returns-in_default-get_str-clause-wish : goal.returns-in_default-get_str-clause-wish
returns-in_default-get_str-clause-wish c = no_wish (rows_of (found_of c.args.matches.now)) subcommands.Punch (λ feeds case wedge target all some one two three. unnamed (codes "wedge") (found_of c.args.matches.now) c.get_str-2.result c.get_str-2.ensures c.in_default-get_str.is wedge two)

pub returns-in_default-get_str-2-clause-wish : goal.returns-in_default-get_str-2-clause-wish
returns-in_default-get_str-2-clause-wish c = no_wish (rows_of (found_of c.args.matches.now)) subcommands.Punch (λ feeds case wedge target all some one two three. unnamed (codes "output") (found_of c.args.matches.now) c.get_str-3.result c.get_str-3.ensures c.in_default-get_str-2.is target three)

pub returns-in-None-clause-wish : goal.returns-in-None-clause-wish
returns-in-None-clause-wish c = no_wish (rows_of (found_of c.args.matches.now)) subcommands.Punch (λ feeds case wedge target all some one two three.
    let none = subst (AreNames (all_of (codes "feed") (rows_of (found_of c.args.matches.now)))) c.in-None.is c.in_ok-feeds.ensures.names in
    let bad = sym none ∙ all in
    cc)

pub returns-else-is_empty-clause-wish : goal.returns-else-is_empty-clause-wish
returns-else-is_empty-clause-wish c =
    let some : 1 ≤ length c.in-Some-2.feeds.items = search rules in (
      refl,
      (
        subst (AreNames (all_of (codes "feed") (rows_of (found_of c.args.matches.now)))) c.in-Some-2.is c.in_ok-feeds.ensures.names,
        some,
        named (codes "case") (found_of c.args.matches.now) c.get_str.result c.in-Some.case c.get_str.ensures c.in-Some.is,
        named (codes "wedge") (found_of c.args.matches.now) c.get_str-2.result c.in-Some-get_str.wedge c.get_str-2.ensures c.in-Some-get_str.is,
        named (codes "output") (found_of c.args.matches.now) c.get_str-3.result c.in-Some-get_str-2.target c.get_str-3.ensures c.in-Some-get_str-2.is,
        c.flag_of-force.ensures,
        c.flag_of-faulty.ensures,
      ),
    )
