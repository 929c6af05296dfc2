use Rattle.std.proofs.Common.{◌≡◌, drop}
use Rattle.clap.specs.Words.{app_of}
use Rattle.clap.specs.declared.builder.command.Command.TheViews.{out-Command}
use Rattle.program_words.specs.Arguments.{with_all}
use Rattle.program_words.proofs.commands.with_arguments.Given as goal

abbrev pub invariant-loop-of : goal.invariant-loop-of
invariant-loop-of l = record {
  app : with_all (app_of l.command) (drop l.of-index l.arguments) ≡ with_all (app_of l.fn.bare) l.arguments;
  local : (out-Command l.command).has_globals ≡ (out-Command l.fn.bare).has_globals;
}
