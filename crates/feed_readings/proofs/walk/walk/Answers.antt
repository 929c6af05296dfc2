use Rattle.std.proofs.Common.{◌≡◌, ◌∙◌, sym, arith, get_or, refl, subst, ap}
use Rattle.std.specs.Prelude.{Option, Some, None}
use Rattle.desk_ops.specs.declared.op.Style.TheVariants.{Roman}
use Rattle.feed_readings.specs.declared.reading.Shown.{Shown}
use Rattle.feed_readings.specs.declared.reading.Point.{Point}
use Rattle.feed_readings.specs.Pieces.{ends, is_open}
use Rattle.feed_readings.specs.Readings.{open_readings, row_behind}
use Rattle.feed_readings.proofs.Walked.{cut_lies, cut_stands, step_cut, step_none, walk_ends}
use Rattle.feed_readings.proofs.walk.walk.Goals as goal
use Rattle.feed_readings.proofs.walk.walk.Goals.{in-Some+in_ok-row, in_default}

abbrev past_end : Shown
past_end = record { stamp = record { counter = 0; site = 0 }; symbol = record { style = Roman; ch = 0 } }

none : (o : Option Point) → ((p : Point) → o ≡ Some p → ⊥) → o ≡ None
none None h = refl
none (Some p) h = absurd (h p refl)

pub is_open-opens-requires : goal.is_open-opens-requires
is_open-opens-requires g c =
    let base = c.args.base.now in
    let one = c.args.one.now in
    let other = c.args.other.now in
    let both = c.args.both.now in
    let n = c.loop-place.place in
    cut_lies base one other both n c.in-Some.cut (cut_stands base one other n (get_or both n past_end) c.in-Some.cut (sym (c.cut_of.ensures base one other c.requires) ∙ c.in-Some.is)) c.loop-place-test.true

pub behind-from-requires : goal.behind-from-requires
behind-from-requires g c =
    let base = c.args.base.now in
    let one = c.args.one.now in
    let other = c.args.other.now in
    let both = c.args.both.now in
    let n = c.loop-place.place in
    let s = cut_stands base one other n (get_or both n past_end) c.in-Some.cut (sym (c.cut_of.ensures base one other c.requires) ∙ c.in-Some.is) in
    record {
      base = omega (arith, s.base_below, ap (λ (p : Point). p.base) c.ends-end.ensures);
      one = omega (arith, s.one_below, ap (λ (p : Point). p.one) c.ends-end.ensures);
      other = omega (arith, s.other_below, ap (λ (p : Point). p.other) c.ends-end.ensures);
      both = omega (arith, s.place, c.loop-place-test.true, ap (λ (p : Point). p.both) c.ends-end.ensures);
    }

pub loop-place-preserved : goal.loop-place-preserved
loop-place-preserved g c =
    let base = c.args.base.now in
    let one = c.args.one.now in
    let other = c.args.other.now in
    let both = c.args.both.now in
    let n = c.loop-place.place in
    let is = c.cut_of.ensures base one other c.requires in
    let whole = open_readings base one other both in
    let test = is_open base one other both in
    let end = ends base one other both in
    elim c.match-cut_of.branch [
      | in-Some+in_ok-row w ↦
          rw (w.readings-is, w.row-is, w.from-is)
          (step_cut base one other both n past_end c.loop-place-test.true test c.loop-place.readings.items w.pass.new.readings.items whole c.loop-place.row w.in_ok-row.row c.loop-place.from w.behind-from.result end w.in-Some.cut w.is_open-opens.result
          (sym is ∙ w.in-Some.is) w.behind-from.ensures w.is_open-opens.ensures w.in_ok-row.ensures.row w.in_ok-row.ensures.written c.loop-place.invariant)
      | in_default w ↦
          rw (w.readings-is, w.row-is, w.from-is)
          (step_none base one other both n past_end c.loop-place-test.true test c.loop-place.readings.items whole c.loop-place.row c.loop-place.from end (sym is ∙ none c.cut_of.result w.in_default.not-Some) c.loop-place.invariant)
    ]

pub returns : goal.returns
returns g c =
    let base = c.args.base.now in
    let one = c.args.one.now in
    let other = c.args.other.now in
    let both = c.args.both.now in
    walk_ends base one other both c.loop-place.place (is_open base one other both) c.loop-place.readings.items c.pass-2.new.readings.items c.end_row.new.readings.items (open_readings base one other both) c.loop-place.row c.in_ok-open_row.open_row c.loop-place.from
    (ends base one other both) c.is_open-opens-2.result (omega (arith, c.loop-place-test.false))
    (subst (λ (p : Point). c.is_open-opens-2.result ≡ is_open base one other both (record { from = c.loop-place.from; to = p })) c.ends-end.ensures c.is_open-opens-2.ensures)
    (subst (λ (p : Point). c.in_ok-open_row.open_row ≡ row_behind c.loop-place.row (record { from = c.loop-place.from; to = p }) c.is_open-opens-2.result) c.ends-end.ensures c.in_ok-open_row.ensures.row)
    c.in_ok-open_row.ensures.written c.in_ok-end_row.ensures c.loop-place.invariant
