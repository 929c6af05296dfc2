use Rattle.std.proofs.Common.{refl, sym, subst, ◌∙◌}
use Rattle.std.proofs.lemmas.Bool.{true≢false}
use Rattle.program_desk.specs.Told.{GoesOn, IsPrintable}
use Rattle.program_desk.proofs.explained.tell_name.Goals as goal

pub returns-then-is_printable : goal.returns-then-is_printable
returns-then-is_printable g c = (
  c.args.name.now,
  λ _. refl,
  subst (GoesOn c.args.told.is_whole c.tell_more.result.is_whole (g.E.Write.contents c.args.faults.now) (g.E.Write.contents c.tell_more.new.faults)) c.as_bytes-bytes.ensures.value c.tell_more.ensures,
)

pub returns : goal.returns
returns g c = (
  _,
  λ printable. absurd (true≢false (sym (c.is_printable.ensures (subst IsPrintable (sym c.as_bytes-bytes.ensures.value) printable)) ∙ c.if-is_printable.false)),
  c.tell_more-2.ensures,
)
