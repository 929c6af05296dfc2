use Rattle.std.proofs.Common.{string_bytes}
use Rattle.std.specs.Prelude.{codes}
use Rattle.view_ribbon.specs.Picture.{paper_of, paper_text}
use Rattle.view_ribbon.proofs.Texts.{same_number}
use Rattle.view_ribbon.proofs.picture.put_paper.Goals as goal

pub returns : goal.returns
unfolding paper_text
returns g c =
    same_number c.put_between.result (string_bytes c.args.out.now) (string_bytes c.put_between.new.out) (codes "<rect x=\"54\" y=\"50\" width=\"415\" height=\"") (codes "\" fill=\"#f1e6cc\" stroke=\"#b9a97f\"/>\n") c.paper_of.result (paper_of c.args.count)
    c.paper_of.ensures c.put_between.ensures
