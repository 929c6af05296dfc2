-- What is written of a cause.
use Rattle.std.proofs.Common.{subst, sym, refl, ◌≡◌, inl, inr, Bool, true, false, List, [], ℕ, ◌++◌, append-nil}
use Rattle.std.specs.Prelude.{Option, None, Some}
use Rattle.program_desk.specs.declared.causes.Cause.{Cause}
use Rattle.program_desk.specs.Explained.{ExplainsIf, Reports, ReportsMore, TellsMore, TellsOf}
use Rattle.program_desk.specs.Headlines.{head_line}
use Rattle.program_desk.specs.Told.{GoesOn, Tells}
use Rattle.program_desk.proofs.Telling.{goes_on_twice}

-- the lines on a cause, of its first line and of what followed
pub told_more : (asked : Bool) (cause : Cause) (begun mid whole : Bool) (a b c : Option (List ℕ)) → GoesOn begun mid a b (head_line cause) → ExplainsIf asked cause mid whole b c → TellsMore asked cause begun whole a c
told_more true cause begun mid whole a b c first second = (head_line cause ++ second.0, (second.0, second.1, refl), goes_on_twice begun mid whole a b c (head_line cause) second.0 first second.2)
told_more false cause begun mid whole a b c first second = (head_line cause, refl, subst (λ w. GoesOn begun w a c (head_line cause)) (sym second.0) (subst (λ x. GoesOn begun mid a x (head_line cause)) (sym second.1) first))

-- nothing was written before
pub nothing : (a : Option (List ℕ)) → Tells true a a []
nothing None = tt
nothing (Some xs) = sym (append-nil xs)

-- the first lines
pub told_first : (asked : Bool) (cause : Cause) (begun whole : Bool) (a c : Option (List ℕ)) → begun ≡ true → TellsMore asked cause begun whole a c → TellsOf asked cause whole a c
told_first asked cause begun whole a c is (lines, are, goes) = (lines, are, goes a [] (subst (λ b. Tells b a a []) (sym is) (nothing a)))

pub reported_first : (cause : Cause) (begun whole : Bool) (a c : Option (List ℕ)) → begun ≡ true → ReportsMore cause begun whole a c → Reports cause whole a c
reported_first cause begun whole a c is (inl more) = inl (told_first true cause begun whole a c is more)
reported_first cause begun whole a c is (inr silent) = inr (silent.0, (subst (λ b. whole ≡ b) is silent.1.0, silent.1.1))
