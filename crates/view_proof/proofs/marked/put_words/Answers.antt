use Rattle.std.proofs.Common.{arith, ◌≤◌, length}
use Rattle.view_proof.specs.Parts.{end_of}
use Rattle.view_proof.proofs.Styled.{words_end}
use Rattle.view_proof.proofs.marked.put_words.Goals as goal

pub put_part-requires-clause-within : goal.put_part-requires-clause-within
put_part-requires-clause-within g c =
    let ends : end_of c.args.words.now ≤ length c.args.copy.now = words_end c.args.copy.now c.args.words.now c.requires in
    omega (arith, c.end_of-to.ensures, ends)
