use Rattle.std.proofs.Common.{◌≡◌}
use Rattle.std.specs.Prelude.{Option, None, Some, IsNone, MatchOption}
use Rattle.program_host.proofs.host.HostFiles.mode_of.Goals as goal

some_is_there : {A : Type 0} (found : Option A) (x : A) → found ≡ Some x → IsNone found → ⊥
some_is_there found x is none = cc

-- where a name has a model it is that of the writing
none_other : {H A : Type 0} (hold : Option H) (IsOther : H → Type 0) (model : Option A) (x : A) (G : Type 0) → MatchOption hold (IsNone model) (λ h. IsOther h → IsNone model) → model ≡ Some x
    → MatchOption hold G (λ h. IsOther h → G)
none_other None IsOther model x G none is = absurd (some_is_there model x is none)
none_other (Some h) IsOther model x G none is = λ other. absurd (some_is_there model x is (none other))

pub returns-in-Some-clause-other : goal.returns-in-Some-clause-other
returns-in-Some-clause-other c = none_other c.args.self.now.hold _ c.model_of.result c.in-Some.place _ c.model_of.ensures.other c.in-Some.is
