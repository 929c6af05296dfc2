use Rattle.std.proofs.Common.{◌≡◌, Option, Some, None, sym, ap, subst, ◌∙◌, arith}
use Rattle.desk_ops.specs.declared.op.Stamp.{Stamp}
use Rattle.desk_ops.specs.declared.op.Key.TheVariants.{Measure}
use Rattle.desk_registers.specs.declared.Kept.{Kept}
use Rattle.desk_registers.specs.Registers.{greater, IsOther}
use Rattle.test_copy.proofs.registers.settings_by_stamp.Goals as goal

late : Kept
late = record { stamp = record { counter = 5; site = 2 }; value = 144 }

early : Kept
early = record { stamp = record { counter = 5; site = 1 }; value = 120 }

is_other : (none one : Option Kept) (first : Kept) (second : Stamp) → none ≡ None → one ≡ Some (greater none first) → (first.stamp.site ≡ second.site → ⊥) → IsOther one second
is_other none one first second e f apart =
    let kept = f ∙ ap (λ (o : Option Kept). Some (greater o first)) e in
    subst (λ (o : Option Kept). IsOther o second) (sym kept) (λ g. apart (ap (λ (s : Stamp). s.site) g))

pub take-requires-2 : goal.take-requires-2
unfolding late early
take-requires-2 g c = is_other _ _ late early.stamp (c.new-registers.ensures Measure) (c.take.ensures Measure) (λ e. omega arith)

pub take-requires-3 : goal.take-requires-3
unfolding late early
take-requires-3 g c = subst (λ (o : Option Kept). IsOther o early.stamp) (sym (c.new-other.ensures Measure)) tt

pub take-requires-4 : goal.take-requires-4
unfolding late early
take-requires-4 g c = is_other _ _ early late.stamp (c.new-other.ensures Measure) (c.take-3.ensures Measure) (λ e. omega arith)
