use Rattle.std.proofs.Common.{◌≡◌, ◌<◌, ◌^◌, drop}
use Rattle.script_answers.specs.Reading.{value_from}
use Rattle.script_answers.proofs.number.value_of.Given as goal

abbrev pub invariant-loop-b : goal.invariant-loop-b
invariant-loop-b l = record { small : l.n < 10 ^ l.b-index; so_far : value_from l.n (drop l.b-index l.word) ≡ value_from 0 l.word }
