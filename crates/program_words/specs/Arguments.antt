-- The arguments of a subcommand.
use Rattle.std.specs.Prelude.{List, [], ◌∷◌, Some, pos}
use Rattle.std.specs.Borrow.{Bor}
use Rattle.clap.specs.Words.{App, Rule, Text, new_rule, with_rule}
use Rattle.clap.specs.declared.builder.value_parser.ValueParser.TheVariants as parsers
use Rattle.program_words.specs.Words.{choice_rule, each_rule, file_rule, flag_rule, names_rule, number_rule, text_rule}
use Rattle.program_words.specs.declared.commands.Kind.{Kind}
use Rattle.program_words.specs.declared.commands.Kind.TheVariants as kinds

-- an argument of this kind and name
abbrev pub read_as : Kind → Text → Rule
read_as kinds.Text name = text_rule name
read_as kinds.Names name = names_rule name
read_as kinds.Site name = record (file_rule name) { parser = Some (parsers.Signed (pos 1) (pos 65535)) }
read_as kinds.Flag name = flag_rule name
read_as kinds.File name = file_rule name
read_as kinds.Target name = record (file_rule name) { short = Some 111 }
read_as kinds.Choice name = choice_rule name
read_as kinds.Extra name = new_rule name
read_as kinds.Number name = number_rule name
read_as kinds.Room name = record (choice_rule name) { parser = Some (parsers.Signed (pos 1) (pos 65535)) }
read_as kinds.Each name = each_rule name

-- with these arguments in turn
abbrev pub with_all : App → List (Kind × Bor Text × Bor Text) → App
with_all app [] = app
with_all app (of ∷ more) = with_all (with_rule app (read_as of.0 of.1.now)) more
