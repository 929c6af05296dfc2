use Rattle.std.proofs.Common.{◌≡◌, ◌≤◌, ◌+◌, length, drop}
use Rattle.std.specs.Str.{chars}
use Rattle.desk_ops.specs.declared.op.Style.TheVariants.{Roman}
use Rattle.text_copy.specs.declared.reader.State.TheVariants.{Within}
use Rattle.text_copy.specs.Reading.{read_from, start}
use Rattle.text_copy.proofs.Loops.{with_prefix}
use Rattle.text_copy.proofs.reader.read_chars.Given as goal

abbrev pub invariant-loop-c : goal.invariant-loop-c
invariant-loop-c g l =
    (with_prefix l.symbols.items (read_from l.plain l.whole l.state l.here (drop (length l.yielded) (chars l.text))) ≡ read_from l.plain l.whole (Within Roman) start (chars l.text))
    × (l.here.line ≤ length l.yielded + 1) × (l.here.column ≤ length l.yielded + 1)
