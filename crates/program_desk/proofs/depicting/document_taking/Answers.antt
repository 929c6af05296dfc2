use Rattle.std.proofs.Common.{◌≡◌, ◌∙◌, true, false, sym}
use Rattle.program_desk.proofs.Placing.{document_spares, no_document}
use Rattle.program_desk.proofs.depicting.document_taking.Goals as goal

pub returns-else-is_taken : goal.returns-else-is_taken
returns-else-is_taken c = document_spares c.args.asked.now c.in-Some.target c.in-Some.is (λ taken.
    let bad : true ≡ false = sym (c.is_taken.ensures.1 taken) ∙ c.if-is_taken.false in
    cc)

pub returns-in-None : goal.returns-in-None
returns-in-None c = no_document c.args.asked.now c.in-None.is
