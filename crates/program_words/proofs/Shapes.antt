-- A command of `clap` and what stands below it.
use Rattle.clap.specs.Words.{App, Shape}

-- the command itself, without its subcommands
abbrev pub top_of : App → Shape
top_of a = a.top
