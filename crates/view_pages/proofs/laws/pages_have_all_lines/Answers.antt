use Rattle.std.proofs.Common.{arith}
use Rattle.view_picture.specs.Picture.{paper_of}
use Rattle.view_pages.specs.Layouts.{lines_a_page}
use Rattle.view_pages.proofs.Shares.{all_shared, full}
use Rattle.view_pages.proofs.laws.pages_have_all_lines.Goals as goal

pub returns-clause-all : goal.returns-clause-all
returns-clause-all c galley height = all_shared (lines_a_page (paper_of galley 2) height) galley.lines (omega arith)

pub returns-clause-full : goal.returns-clause-full
returns-clause-full c galley height number below = full (lines_a_page (paper_of galley 2) height) number galley.lines (omega arith) below
