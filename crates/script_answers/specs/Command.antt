-- Commands, without where they lie in memory.
use Rattle.std.specs.Prelude.{ℕ, List, Option}
use Rattle.desk_ops.specs.declared.op.Symbol.{Symbol}
use Rattle.desk_ops.specs.declared.op.Key.{Key}
use Rattle.script_answers.specs.declared.command.Command.{Command}
use Rattle.script_answers.specs.declared.command.Command.TheVariants as commands

pub data CommandValues : Type 0 where
  Site : ℕ → CommandValues
  Insert : ℕ → ℕ → List Symbol → CommandValues
  Delete : ℕ → ℕ → CommandValues
  SetTo : ℕ → Key → ℕ → CommandValues
  Take : ℕ → List ℕ → CommandValues
  Send : ℕ → ℕ → Option (ℕ × ℕ) → CommandValues
  Merge : ℕ → ℕ → CommandValues
  Show : ℕ → CommandValues
  Faults : ℕ → CommandValues
  Settings : ℕ → CommandValues
  Feed : ℕ → CommandValues
  Ribbon : ℕ → List ℕ → List ℕ → CommandValues
  Cast : ℕ → List ℕ → List ℕ → CommandValues
  Restart : ℕ → CommandValues

abbrev pub command_values : {A : Type 0} → Command A → CommandValues
command_values (commands.Site n) = Site n
command_values (commands.Insert site place copy) = Insert site place copy.items
command_values (commands.Delete site place) = Delete site place
command_values (commands.Set site key value) = SetTo site key value
command_values (commands.Take site feed) = Take site feed.items
command_values (commands.Send from to range) = Send from to range
command_values (commands.Merge to from) = Merge to from
command_values (commands.Show site) = Show site
command_values (commands.Faults site) = Faults site
command_values (commands.Settings site) = Settings site
command_values (commands.Feed site) = Feed site
command_values (commands.Ribbon site case wedge) = Ribbon site case.now wedge.now
command_values (commands.Cast site case wedge) = Cast site case.now wedge.now
command_values (commands.Restart site) = Restart site
