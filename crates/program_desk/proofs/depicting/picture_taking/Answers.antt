use Rattle.std.proofs.Common.{◌≡◌, ◌∙◌, true, false, sym}
use Rattle.program_desk.proofs.Placing.{no_picture, picture_spares}
use Rattle.program_desk.proofs.depicting.picture_taking.Goals as goal

pub returns-else-is_source_of : goal.returns-else-is_source_of
returns-else-is_source_of c = picture_spares c.args.asked.now c.in-Some.target c.in-Some.is (λ source.
    let bad : true ≡ false = sym (c.is_source_of.ensures.1 source) ∙ c.if-is_source_of.false in
    cc)

pub returns-in-None : goal.returns-in-None
returns-in-None c = no_picture c.args.asked.now c.in-None.is
