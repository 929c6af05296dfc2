-- What the help and the version say.
use Rattle.std.specs.Prelude.{◌≡◌, Option, Some, false, option_map}
use Rattle.clap.specs.Words.{App, Text, app_of}
use Rattle.clap.specs.declared.builder.arg.Arg.{Arg}
use Rattle.clap.specs.declared.builder.command.Command.{Command}
use Rattle.clap.specs.declared.builder.command.Command.TheViews.{out-Command}

-- the help shows the argument, short and long, with this text
pub record IsShown (argument : Arg) (help : Text) : Type 0 where
  pub text : option_map (λ s. s.now) argument.help ≡ Some help
  pub shown : argument.hide ≡ false
  pub short : argument.hide_short_help ≡ false
  pub long : argument.hide_long_help ≡ false

-- the version of a command
abbrev pub version_of : Command → Option Text
version_of command = option_map (λ s. s.now) (out-Command command).version

-- what the help says of a command: this in one line, and this below
pub record HasTexts (command : Command) (about help : Text) : Type 0 where
  pub above : option_map (λ s. s.now) (out-Command command).about ≡ Some about
  pub below : option_map (λ s. s.now) (out-Command command).after_help ≡ Some help

-- a subcommand that is read so, and has these texts
pub record IsMade (read : App) (about help : Text) (command : Command) : Type 0 where
  pub app : app_of command ≡ read
  pub local : (out-Command command).has_globals ≡ false
  pub texts : HasTexts command about help
