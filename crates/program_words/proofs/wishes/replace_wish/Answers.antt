use Rattle.std.proofs.Common.{codes, refl, rules}
use Rattle.clap.specs.Words.{found_of, rows_of}
use Rattle.program_words.specs.declared.wishes.Subcommand.TheVariants as subcommands
use Rattle.program_words.proofs.Asked.{both_places, named, no_wish, unnamed}
use Rattle.program_words.proofs.wishes.replace_wish.Goals as goal

pub returns-in_default : goal.returns-in_default
returns-in_default c = no_wish (rows_of (found_of c.args.matches.now)) subcommands.Replace (λ feed site old new at all desk one other placed every not. c.in_default.ensures.none refl feed site desk)

pub returns-in_default-get_str : goal.returns-in_default-get_str
returns-in_default-get_str c = no_wish (rows_of (found_of c.args.matches.now)) subcommands.Replace (λ feed site old new at all desk one other placed every not. unnamed (codes "old") (found_of c.args.matches.now) c.get_str.result c.get_str.ensures c.in_default-get_str.is old one)

pub returns-in_default-get_str-2 : goal.returns-in_default-get_str-2
returns-in_default-get_str-2 c = no_wish (rows_of (found_of c.args.matches.now)) subcommands.Replace (λ feed site old new at all desk one other placed every not. unnamed (codes "new") (found_of c.args.matches.now) c.get_str-2.result c.get_str-2.ensures c.in_default-get_str-2.is new other)

pub returns-then-all : goal.returns-then-all
returns-then-all c = no_wish (rows_of (found_of c.args.matches.now)) subcommands.Replace (λ feed site old new at all desk one other placed every not.
    both_places (rows_of (found_of c.args.matches.now)) c.number_of-at.result at c.flag_of-all.result all (search rules) (search rules) c.number_of-at.ensures c.flag_of-all.ensures placed every not)

pub returns : goal.returns
returns c = (
  refl,
  (
    (c.in-Some.ensures.some, c.flag_of-older.ensures),
    named (codes "old") (found_of c.args.matches.now) c.get_str.result c.in-Some-get_str.old c.get_str.ensures c.in-Some-get_str.is,
    named (codes "new") (found_of c.args.matches.now) c.get_str-2.result c.in-Some-get_str-2.new c.get_str-2.ensures c.in-Some-get_str-2.is,
    c.flag_of-plain.ensures,
    c.number_of-at.ensures,
    c.flag_of-all.ensures,
    search rules,
  ),
)
