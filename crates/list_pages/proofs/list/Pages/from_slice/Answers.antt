use Rattle.std.proofs.Common.{ap, sym, length, arith}
use Rattle.list_pages.proofs.list.Pages.from_slice.Goals as goal

pub invariant_of-result : goal.invariant_of-result
invariant_of-result g c =
    let f = c.in_ok-pages.ensures.filled in
    let e = ap length f.0 in (
      record {
        is_len = sym e;
        half = f.1;
        few = c.in_ok-pages.ensures.few;
        fits = omega (arith, e, c.if-items-gt-MOST.false);
      },
      c.find_groups.ensures,
    )
