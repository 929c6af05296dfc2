use Rattle.std.proofs.Common.{◌≡◌, ◌-◌, ◌++◌, map, string_bytes}
use Rattle.view_pages.specs.Alone.{all_alone, alone_from}
use Rattle.view_pages.proofs.alone.all_alone.Given as goal

abbrev pub invariant-loop-number : goal.invariant-loop-number
invariant-loop-number g l =
    map string_bytes l.texts.items ++ alone_from l.copy l.galley l.layout l.heading l.number (l.layout.pages - l.number) ≡ all_alone l.copy l.galley l.layout l.heading
