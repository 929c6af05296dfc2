use Rattle.std.proofs.Common.{arith, refl}
use Rattle.desk_lines.proofs.Breaks.{step_first, step_more, step_found, step_last, step_none}
use Rattle.desk_lines.proofs.groups.break_lines.Goals as goal
use Rattle.desk_lines.proofs.groups.break_lines.Goals.{then-i-from, else-i-from+then-fits, else-i-from+else-fits+in_ok-push, then-from-words+in_ok-push-2, else-from-words}

pub loop-i-preserved : goal.loop-i-preserved
loop-i-preserved g c =
    elim c.if-i-from.branch [
      | then-i-from w ↦ record {
        is_open = rw (w.from-is, w.width-is) (step_first _ _ _ _ _ _ c.requires.widths c.loop-i-test.true w.if-i-from.true c.index-words-i.is);
        found = rw (w.groups-is, w.from-is) c.loop-i.invariant.found;
      }
      | else-i-from+then-fits w ↦ record {
        is_open = rw (w.from-is, w.width-is)
            (step_more _ _ _ _ _ _ _ _ c.requires.widths c.requires.space_low c.requires.measure_high c.loop-i.invariant.is_open c.loop-i-test.true
            (omega (arith, c.loop-i.invariant.is_open.order, w.if-i-from.false)) c.index-words-i.is w.with_word-wider.ensures (rw w.if-fits.true at w.fits.ensures));
        found = rw (w.groups-is, w.from-is) c.loop-i.invariant.found;
      }
      | else-i-from+else-fits+in_ok-push w ↦ record {
        is_open = rw (w.from-is, w.width-is) (step_first _ _ _ _ _ _ c.requires.widths c.loop-i-test.true refl c.index-words-i.is);
        found = rw (w.groups-is, w.from-is, w.in_ok-push.ensures.items)
            (step_found _ _ _ _ _ _ _ _ _ c.requires.widths c.requires.space_low c.loop-i.invariant.found c.loop-i.invariant.is_open c.loop-i-test.true
            (omega (arith, c.loop-i.invariant.is_open.order, w.if-i-from.false)) c.index-words-i.is w.with_word-wider.ensures (rw w.if-fits.false at w.fits.ensures));
      }
    ]

pub returns-clause-ok : goal.returns-clause-ok
returns-clause-ok g c =
    elim c.if-from-words.branch [
      | then-from-words+in_ok-push-2 w ↦ rw (w.groups-is, w.in_ok-push-2.ensures.items)
          (step_last _ _ _ _ _ _ _ c.requires.widths c.requires.space_low c.loop-i.invariant.found c.loop-i.invariant.is_open (omega arith) w.if-from-words.true)
      | else-from-words w ↦ rw w.groups-is
          (step_none _ _ _ _ _ _ _ c.loop-i.invariant.found c.loop-i.invariant.is_open (omega arith) w.if-from-words.false)
    ]
