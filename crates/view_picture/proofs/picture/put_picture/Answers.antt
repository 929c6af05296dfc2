use Rattle.std.proofs.Common.{ap, ◌∙◌, ◌++◌, string_bytes}
use Rattle.view_picture.specs.Picture.{paper_of, picture_on}
use Rattle.view_picture.proofs.picture.put_picture.Goals as goal

pub returns : goal.returns
returns g c =
    c.in_ok-put_picture_on.ensures
    ∙ ap (λ s. string_bytes c.args.out.now ++ picture_on c.args.copy.now c.args.faults.now c.args.galley.now s) (c.paper_of-paper.ensures.value ∙ ap (paper_of c.args.galley.now) c.head_count.ensures.value)
