use Rattle.std.proofs.Common.{◌≡◌, ◌++◌, string_bytes, drop}
use Rattle.std.specs.Prelude.{true}
use Rattle.script_answers.specs.Text.{job_fault_text, list_text}
use Rattle.view_punch.specs.Lines.{all_missing}
use Rattle.view_punch.proofs.job_line.put_all_missing.Given as goal

abbrev pub invariant-loop-key : goal.invariant-loop-key
invariant-loop-key g l =
    string_bytes l.out ++ list_text job_fault_text l.is_first (all_missing (drop l.key-index l.keys)) ≡ string_bytes l.fn.out ++ list_text job_fault_text true (all_missing l.keys)
