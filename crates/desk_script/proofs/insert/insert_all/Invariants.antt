use Rattle.std.proofs.Common.{◌≡◌, drop}
use Rattle.std.specs.Prelude.{None}
use Rattle.script_answers.specs.Reply.{ReplyValues}
use Rattle.script_world.specs.Sites.{Sites}
use Rattle.desk_script.specs.Insert.{Inserts}
use Rattle.desk_script.proofs.insert.insert_all.Given as goal

-- what the symbols that are left answer, all answer
abbrev pub invariant-loop-symbol : goal.invariant-loop-symbol
invariant-loop-symbol g l = record {
  counted : l.count ≡ l.symbol-index;
  goes_on : (r : ReplyValues) (new : Sites) → Inserts l.world l.site l.place (drop l.symbol-index l.copy) l.count l.stamps r new → Inserts l.fn.world l.site l.place l.copy 0 None r new;
}
