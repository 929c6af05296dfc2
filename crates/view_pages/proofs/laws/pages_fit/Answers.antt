use Rattle.view_picture.specs.Picture.{paper_of}
use Rattle.view_pages.specs.Layouts.{lines_a_page}
use Rattle.view_pages.proofs.Heights.{as_asked, fits}
use Rattle.view_pages.proofs.Shares.{no_more}
use Rattle.view_pages.proofs.laws.pages_fit.Goals as goal

pub returns : goal.returns
returns c galley height number enough = (
  as_asked (paper_of galley 2) height enough,
  fits (paper_of galley 2) height _ enough (no_more (lines_a_page (paper_of galley 2) height) number galley.lines),
)
