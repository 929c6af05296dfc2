use Rattle.std.proofs.Common.{◌≡◌, ◌∷◌, take}
use Rattle.view_punch.proofs.AllRows.{AreDone}
use Rattle.view_punch.proofs.punching.joined_of.Given as goal

abbrev pub invariant-loop-at : goal.invariant-loop-at
invariant-loop-at g l = record {
  done : AreDone l.faulty l.means.case.now l.means.wedge.now (g.F.Files.shelf l.fn.files) (l.from.first ∷ take l.at l.from.others.now) l.joined.items;
  silent : g.W.Write.contents l.writer ≡ g.W.Write.contents l.fn.writer;
  still : g.F.Files.shelf l.files ≡ g.F.Files.shelf l.fn.files;
}
