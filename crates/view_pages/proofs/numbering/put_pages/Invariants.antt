use Rattle.std.proofs.Common.{◌≡◌, ◌+◌, map, drop, string_bytes}
use Rattle.feed_files.specs.Files.{HoldsOn, Shelf}
use Rattle.view_preview.specs.declared.fault.PreviewFault.{PreviewFault}
use Rattle.view_pages.specs.Numbering.{ArePut, AreUnput}
use Rattle.view_pages.proofs.numbering.put_pages.Given as goal

-- what is left to put after those before, put or not, puts all, or not
abbrev pub invariant-loop-before : goal.invariant-loop-before
invariant-loop-before g l =
    ((last : Shelf) → ArePut l.job l.name (l.before + 1) (drop l.before (map string_bytes l.texts)) (g.F.Files.shelf l.files) last → ArePut l.job l.name 1 (map string_bytes l.texts) (g.F.Files.shelf l.fn.files) last)
    × (((last : Shelf) (fault : PreviewFault) → AreUnput l.job l.name (l.before + 1) (drop l.before (map string_bytes l.texts)) (g.F.Files.shelf l.files) last fault → AreUnput l.job l.name 1 (map string_bytes l.texts) (g.F.Files.shelf l.fn.files) last fault)
    × (((g.F.Files.shelf l.files).failures ≡ (g.F.Files.shelf l.fn.files).failures) × HoldsOn (g.F.Files.shelf l.fn.files).held (g.F.Files.shelf l.files).held))
