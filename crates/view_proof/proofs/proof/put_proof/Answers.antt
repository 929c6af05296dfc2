use Rattle.std.proofs.Common.{◌≡◌, List, ℕ, ap, ap₂, ◌∙◌, ◌++◌, subst, string_bytes}
use Rattle.std.specs.Prelude.{OnOk}
use Rattle.view_proof.specs.Faults.{lacking_text, line_faults_text}
use Rattle.view_proof.proofs.Texts.{five_in_turn}
use Rattle.view_proof.proofs.proof.put_proof.Goals as goal

pub returns : goal.returns
returns g c =
    five_in_turn c.put_line_faults.result (string_bytes c.args.out.now) (string_bytes c.put_copy_faults.new.out) (string_bytes c.put_head.new.out) (string_bytes c.put_lacking.new.out) (string_bytes c.put_body.new.out) (string_bytes c.put_line_faults.new.out) _ _ _ _ _
    c.in_ok-put_copy_faults.ensures c.in_ok-put_head.ensures
    (c.in_ok-put_lacking.ensures ∙ ap (λ l. string_bytes c.put_head.new.out ++ lacking_text c.args.copy.now l) c.lacking.ensures)
    c.in_ok-put_body.ensures
    (subst (λ (text : List ℕ). OnOk c.put_line_faults.result (string_bytes c.put_line_faults.new.out ≡ string_bytes c.put_body.new.out ++ text)) (ap₂ (line_faults_text c.args.copy.now) c.scale_of.ensures c.lines.ensures) c.put_line_faults.ensures)
