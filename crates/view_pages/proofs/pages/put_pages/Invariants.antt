use Rattle.std.proofs.Common.{◌≡◌, ◌-◌, ◌++◌, string_bytes}
use Rattle.view_pages.specs.Pages.{pages_from, pages_text}
use Rattle.view_pages.proofs.pages.put_pages.Given as goal

abbrev pub invariant-loop-number : goal.invariant-loop-number
invariant-loop-number g l =
    string_bytes l.out ++ pages_from l.copy l.galley l.layout l.heading l.number (l.layout.pages - l.number) ≡ string_bytes l.fn.out ++ pages_text l.copy l.galley l.layout l.heading
